-- Marks by the positions of their names, and the same marks by their names.
use Rattle.std.proofs.Common.{◌≡◌, ◌≢◌, ℕ, suc, zero, ◌+◌, ◌-◌, ◌<◌, ◌≤◌, Bool, true, false, ◌==◌, if◌then◌else◌, List, [], ◌∷◌, ◌++◌, length, get_or, set, take, map, position, Some, None, refl, sym, ap, ◌∙◌, subst, arith, nat_eq, true≢false}
use Rattle.std.specs.List.{list_any, All, IsDistinct, remove}
use Rattle.std.specs.Str.{bytes_eq}
use Rattle.indexmap.specs.IndexSet.{insert_key}
use Rattle.live_range.specs.declared.places.Pair.{Pair}
use Rattle.live_range.specs.declared.places.MarkPlace.{MarkPlace}
use Rattle.live_range.specs.declared.places.Places.{Places}
use Rattle.live_range.specs.LivePoints.{with_value_at}
use Rattle.live_range.specs.Names.{named, marks_of, shown, with_pair, IsOver}
use Rattle.std.proofs.lemmas.Bool.Decides.{Decides-eqb, nat_tests}
use Rattle.std.proofs.lemmas.List.{length-map, length-append, map-append, get_or-map, get_or_append_left}
use Rattle.std.proofs.lemmas.List.Elements.{All-cons, All-map, All-push}
use Rattle.std.proofs.lemmas.List.Folds.{list_any_at, list_any_none}
use Rattle.std.proofs.lemmas.List.Quantifiers.{position-Some, all_pairs_push, all_pairs_remove}
use Rattle.std.proofs.lemmas.Map.Made.{AllPairs-from_IsDistinct, IsDistinct-from_AllPairs}
use Rattle.std.proofs.lemmas.Slice.Eq.{bytes_eq-Decides}
use Rattle.indexmap.proofs.SetLemmas.{map-remove}
use Rattle.live_range.proofs.Apart.{All-head, All-tail, known_name, unknown_name, position-None, position-absent, position-congr}
use Rattle.live_range.proofs.Lists.{position-map, list_any-map}

eq_flips : (a b : ℕ) → (a == b) ≡ nat_eq b a
eq_flips a b = grind (arith, nat_tests)

abbrev nothing : MarkPlace
nothing = record { name = 0; pair = record { anchor = record { label = 0; offset = 0 }; focus = record { label = 0; offset = 0 } } }

pub with_pair_written : (ms : List MarkPlace) (n k : ℕ) (pair : Pair) (d : MarkPlace) → k < n
    → take n (set ms k (record { name = (get_or ms k d).name; pair = pair })) ≡ with_pair (take n ms) k pair
with_pair_written [] zero k pair d h = absurd (omega (arith, h))
with_pair_written [] (suc n) k pair d h = refl
with_pair_written (m ∷ ms) zero k pair d h = absurd (omega (arith, h))
with_pair_written (m ∷ ms) (suc n) zero pair d h = refl
with_pair_written (m ∷ ms) (suc n) (suc k) pair d h = ap (λ r. m ∷ r) (with_pair_written ms n k pair d (omega (arith, h)))

-- ---- looking a name up

module _ (name : List ℕ) (ns : List (List ℕ)) where
  pub place_known : (i : ℕ) (p : Places) → IsDistinct bytes_eq ns → IsOver ns p → position (bytes_eq name) ns ≡ Some i
      → position (λ m. m.name == i) (marks_of p) ≡ position (λ e. bytes_eq name e.0) (shown ns p).marks
  place_known i p apart over at =
      position-congr (λ m. m.name == i) (λ m. bytes_eq name (get_or ns m.name [])) (marks_of p)
      (λ k d l. let m = get_or (marks_of p) k d in eq_flips m.name i ∙ sym (known_name ns apart name i m.name at (over.met k d l)))
      ∙ sym (position-map (named ns) (λ e. bytes_eq name e.0) (marks_of p))

  none_has : (p : Places) → IsOver ns p → list_any (bytes_eq name) ns ≡ false → list_any (λ e. bytes_eq name e.0) (shown ns p).marks ≡ false
  none_has p over none =
      list_any-map (named ns) (λ e. bytes_eq name e.0) (marks_of p)
      ∙ list_any_none (λ m. bytes_eq name (get_or ns m.name [])) (marks_of p) (λ k d l. unknown_name name ns (get_or (marks_of p) k d).name none (over.met k d l))

  pub place_unknown : (p : Places) → IsOver ns p → position (bytes_eq name) ns ≡ None → None ≡ position (λ e. bytes_eq name e.0) (shown ns p).marks
  place_unknown p over at = sym (position-absent (λ e. bytes_eq name e.0) (shown ns p).marks (none_has p over (position-None (bytes_eq name) ns at)))

-- ---- a pair changed

pub positions_stay : (ms : List MarkPlace) (k : ℕ) (pair : Pair) → map (λ m. m.name) (with_pair ms k pair) ≡ map (λ m. m.name) ms
positions_stay [] k pair = refl
positions_stay (m ∷ ms) zero pair = refl
positions_stay (m ∷ ms) (suc k) pair = ap (λ r. m.name ∷ r) (positions_stay ms k pair)

module _ (ns : List (List ℕ)) where
  pair_named : (ms : List MarkPlace) (k : ℕ) (pair : Pair) → map (named ns) (with_pair ms k pair) ≡ with_value_at (map (named ns) ms) k pair
  pair_named [] k pair = refl
  pair_named (m ∷ ms) zero pair = refl
  pair_named (m ∷ ms) (suc k) pair = ap (λ r. named ns m ∷ r) (pair_named ms k pair)

  pub pair_shown : (p q : Places) (k : ℕ) (pair : Pair) → marks_of q ≡ with_pair (marks_of p) k pair → q ≡ record p { marks = q.marks }
      → shown ns q ≡ record (shown ns p) { marks = with_value_at (shown ns p).marks k pair }
  pair_shown p q k pair m o =
      λ i. record { selection = (o i).selection; scratch = (o i).scratch; marks = (ap (map (named ns)) m ∙ pair_named (marks_of p) k pair) i; names = ns }

  unmap : (n : ℕ) (ms : List MarkPlace) → All (λ i. i < n) (map (λ m. m.name) ms) → All (λ m. m.name < n) ms
  unmap n ms h = λ k d l.
      subst (λ i. i < n) (get_or-map (λ m. m.name) ms k d d.name l) (h k d.name (subst (λ j. k < j) (sym (length-map ms (λ m. m.name))) l))

  pub pair_over : (p q : Places) (k : ℕ) (pair : Pair) → marks_of q ≡ with_pair (marks_of p) k pair → q ≡ record p { marks = q.marks } → IsOver ns p → IsOver ns q
  pair_over p q k pair m o h =
      let same : map (λ m. m.name) (marks_of q) ≡ map (λ m. m.name) (marks_of p) = ap (map (λ m. m.name)) m ∙ positions_stay (marks_of p) k pair in
      record {
        few = subst (λ n. n ≤ 16) (sym (ap (λ q. q.count) o)) h.few;
        met = unmap (length ns) (marks_of q) (subst (All (λ i. i < length ns)) (sym same) (All-map (λ i. i < length ns) (λ m. m.name) (marks_of p) h.met));
        distinct = subst (IsDistinct nat_eq) (sym same) h.distinct;
      }

  -- ---- a mark taken out

  pub removal_shown : (p q : Places) (k : ℕ) → marks_of q ≡ remove (marks_of p) k → q ≡ record p { marks = q.marks; count = p.count - 1 }
      → shown ns q ≡ record (shown ns p) { marks = remove (shown ns p).marks k }
  removal_shown p q k m o =
      λ i. record { selection = (o i).selection; scratch = (o i).scratch; marks = (ap (map (named ns)) m ∙ map-remove (named ns) (marks_of p) k) i; names = ns }

  All-remove : {X : Type 0} (P : X → Type 0) (xs : List X) (k : ℕ) → All P xs → All P (remove xs k)
  All-remove P [] zero h = h
  All-remove P [] (suc k) h = h
  All-remove P (x ∷ xs) zero h = All-tail P x xs h
  All-remove P (x ∷ xs) (suc k) h = All-cons P x (remove xs k) (All-head P x xs h) (All-remove P xs k (All-tail P x xs h))

  distinct-remove : (xs : List ℕ) (k : ℕ) → k < length xs → IsDistinct nat_eq xs → IsDistinct nat_eq (remove xs k)
  distinct-remove xs k l h = IsDistinct-from_AllPairs Decides-eqb (remove xs k) (all_pairs_remove (λ (a b : ℕ). a ≢ b) xs k l (AllPairs-from_IsDistinct Decides-eqb xs h))

  pub removal_over : (p q : Places) (k : ℕ) → marks_of q ≡ remove (marks_of p) k → q ≡ record p { marks = q.marks; count = p.count - 1 }
      → k < length (marks_of p) → IsOver ns p → IsOver ns q
  removal_over p q k m o l h = record {
    few = omega (arith, ap (λ q. q.count) o, h.few);
    met = subst (All (λ m. m.name < length ns)) (sym m) (All-remove (λ m. m.name < length ns) (marks_of p) k h.met);
    distinct =
        subst (IsDistinct nat_eq) (sym (ap (map (λ m. m.name)) m ∙ map-remove (λ m. m.name) (marks_of p) k))
        (distinct-remove (map (λ m. m.name) (marks_of p)) k (subst (λ n. k < n) (sym (length-map (marks_of p) (λ m. m.name))) l) h.distinct);
  }

-- ---- a mark of a new name

module _ (name : List ℕ) (ns : List (List ℕ)) where
  abbrev more : List (List ℕ)
  more = insert_key bytes_eq ns name

  grown_get : (k : ℕ) → k < length ns → get_or more k [] ≡ get_or ns k []
  grown_get k l = by (list_any (bytes_eq name) ns)
    where
      by : (b : Bool) → get_or (if b then ns else ns ++ name ∷ []) k [] ≡ get_or ns k []
      by true = refl
      by false = get_or_append_left ns (name ∷ []) [] k l

  grown_length : length ns ≤ length more
  grown_length = by (list_any (bytes_eq name) ns)
    where
      by : (b : Bool) → length ns ≤ length (if b then ns else ns ++ name ∷ [])
      by true = omega arith
      by false = omega (arith, length-append ns (name ∷ []))

  grown_named : (ms : List MarkPlace) → All (λ m. m.name < length ns) ms → map (named more) ms ≡ map (named ns) ms
  grown_named [] h = refl
  grown_named (m ∷ ms) h =
      let here = grown_get m.name (All-head (λ m. m.name < length ns) m ms h) in
      let there = grown_named ms (All-tail (λ m. m.name < length ns) m ms h) in
      λ i. (here i, m.pair) ∷ there i

  -- places over the names are over more of them too, and show the same
  pub grown_over : (p : Places) → IsOver ns p → IsOver more p
  grown_over p h = record { few = h.few; met = λ k d l. omega (arith, h.met k d l, grown_length); distinct = h.distinct }

  module _ (p q : Places) (at : ℕ) (pair : Pair) (over : IsOver ns p) (found : position (bytes_eq name) more ≡ Some at)
      (m : marks_of q ≡ marks_of p ++ record { name = at; pair = pair } ∷ []) (o : q ≡ record p { marks = q.marks; count = p.count + 1 }) where
    its_name : get_or more at [] ≡ name
    its_name = let f = position-Some (bytes_eq name) more at [] found in sym ((bytes_eq-Decides name (get_or more at [])).0 f.1)

    pub push_shown : shown more q ≡ record (shown ns p) { marks = (shown ns p).marks ++ (name, pair) ∷ []; names = more }
    push_shown =
        let marks : map (named more) (marks_of q) ≡ (shown ns p).marks ++ (name, pair) ∷ [] =
        ap (map (named more)) m ∙ map-append (named more) (marks_of p) (record { name = at; pair = pair } ∷ [])
        ∙ (λ i. grown_named (marks_of p) over.met i ++ (its_name i, pair) ∷ []) in
        λ i. record { selection = (o i).selection; scratch = (o i).scratch; marks = marks i; names = more }

    differs : list_any (λ e. bytes_eq name e.0) (shown ns p).marks ≡ false → (k : ℕ) (d : MarkPlace) → k < length (marks_of p) → (get_or (marks_of p) k d).name ≡ at → ⊥
    differs none k d l same =
        let mark = get_or (marks_of p) k d in
        let e : get_or ns mark.name [] ≡ name = sym (grown_get mark.name (over.met k d l)) ∙ ap (λ j. get_or more j []) same ∙ its_name in
        let hit : list_any (λ m. bytes_eq name (get_or ns m.name [])) (marks_of p) ≡ true =
        list_any_at (λ m. bytes_eq name (get_or ns m.name [])) (marks_of p) k d l ((bytes_eq-Decides name (get_or ns mark.name [])).1 (sym e)) in
        true≢false (sym hit ∙ sym (list_any-map (named ns) (λ e. bytes_eq name e.0) (marks_of p)) ∙ none)

    pub push_over : list_any (λ e. bytes_eq name e.0) (shown ns p).marks ≡ false → p.count < 16 → IsOver more q
    push_over none few =
        let f = position-Some (bytes_eq name) more at [] found in
        let old = AllPairs-from_IsDistinct Decides-eqb (map (λ m. m.name) (marks_of p)) over.distinct in
        let apart : IsDistinct nat_eq (map (λ m. m.name) (marks_of p) ++ at ∷ []) =
        IsDistinct-from_AllPairs Decides-eqb (map (λ m. m.name) (marks_of p) ++ at ∷ [])
        (all_pairs_push (λ (a b : ℕ). a ≢ b) (map (λ m. m.name) (marks_of p)) at old
        (λ k d l e. differs none k nothing (subst (λ n. k < n) (length-map (marks_of p) (λ m. m.name)) l)
        (sym (get_or-map (λ m. m.name) (marks_of p) k nothing d (subst (λ n. k < n) (length-map (marks_of p) (λ m. m.name)) l)) ∙ e))) in
        record {
          few = omega (arith, ap (λ q. q.count) o, few);
          met = subst (All (λ m. m.name < length more)) (sym m) (All-push (λ m. m.name < length more) (marks_of p) _ (λ k d l. omega (arith, over.met k d l, grown_length)) f.0);
          distinct = subst (IsDistinct nat_eq) (sym (ap (map (λ m. m.name)) m ∙ map-append (λ m. m.name) (marks_of p) (record { name = at; pair = pair } ∷ []))) apart;
        }
