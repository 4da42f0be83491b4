-- What the places and the names show, as edits and writes change the places.
use Rattle.std.proofs.Common.{◌≡◌, ℕ, suc, zero, slice_get, ◌<◌, ◌≤◌, ◌^◌, Bool, true, false, List, [], ◌∷◌, ◌++◌, length, get_or, map, Option, Some, None, IfSome, refl, sym, ap, ◌∙◌, subst, arith, nat_eq, IsTrue, ◌==◌, if◌then◌else◌}
use Rattle.std.specs.List.{flat_map, list_any, All, IsDistinct}
use Rattle.std.specs.Option.{option_map}
use Rattle.std.specs.Str.{bytes_eq}
use Rattle.std.proofs.lemmas.List.{length-map, length-take}
use Rattle.std.proofs.lemmas.Option.{slice_get-map, get_or_from_slice_get}
use Rattle.std.proofs.lemmas.List.Elements.{All-cons, All-map}
use Rattle.std.proofs.lemmas.List.Folds.{list_any_at}
use Rattle.std.proofs.lemmas.Bool.Decides.{nat_tests}
use Rattle.std.proofs.lemmas.Grind.{common_steps}
use Rattle.std.proofs.lemmas.Slice.Eq.{bytes_eq-Decides}
use Rattle.live_range.specs.declared.places.Point.{Point}
use Rattle.live_range.specs.declared.places.Pair.{Pair}
use Rattle.live_range.specs.declared.places.MarkPlace.{MarkPlace}
use Rattle.live_range.specs.declared.places.Places.{Places}
use Rattle.live_range.specs.PointsEdit.{PointsEdit, Remove, adjusted, adjusted_pair, after_removal, with_offset, has_label, PairFits}
use Rattle.live_range.specs.LivePoints.{LivePoints, Fits, TellsAlike, IsValid, at_pair, mapped, labels_of, option_labels, pair_labels}
use Rattle.live_range.specs.Names.{named, marks_of, at_place, place_labels, shown, IsOver, PlacesFit}
use Rattle.live_range.proofs.Apart.{distinct_keys, All-head, All-tail}

module _ (ns : List (List ℕ)) where
  labels_named : (xs : List MarkPlace) → flat_map (λ m. pair_labels m.1) (map (named ns) xs) ≡ flat_map (λ m. pair_labels m.pair) xs
  labels_named [] = refl
  labels_named (x ∷ xs) = ap (λ r. x.pair.anchor.label ∷ x.pair.focus.label ∷ r) (labels_named xs)

  pub labels_shown : (p : Places) → labels_of (shown ns p) ≡ place_labels p
  labels_shown p = ap (λ r. (option_labels p.selection ++ option_labels p.scratch) ++ r) (labels_named (marks_of p))

  fit_named : (e : PointsEdit) (xs : List MarkPlace) → All (λ m. PairFits e m.1) (map (named ns) xs) → All (λ m. PairFits e m.pair) xs
  fit_named e [] h = λ k d l. absurd (omega (arith, l))
  fit_named e (x ∷ xs) h =
      All-cons (λ m. PairFits e m.pair) x xs (All-head (λ m. PairFits e m.1) (named ns x) (map (named ns) xs) h)
      (fit_named e xs (All-tail (λ m. PairFits e m.1) (named ns x) (map (named ns) xs) h))

  pub fit_shown : (e : PointsEdit) (p : Places) → Fits e (shown ns p) → PlacesFit e p
  fit_shown e p h = record { selection = h.selection; scratch = h.scratch; marks = fit_named e (marks_of p) h.marks }

  mapped_named : (f : Pair → Pair) (xs : List MarkPlace) → map (named ns) (map (at_place f) xs) ≡ map (at_pair f) (map (named ns) xs)
  mapped_named f [] = refl
  mapped_named f (x ∷ xs) = ap (λ r. (get_or ns x.name [], f x.pair) ∷ r) (mapped_named f xs)

  pub mapped_shown : (e : PointsEdit) (p q : Places) → q.selection ≡ option_map (adjusted_pair e) p.selection → q.scratch ≡ option_map (adjusted_pair e) p.scratch
      → marks_of q ≡ map (at_place (adjusted_pair e)) (marks_of p) → shown ns q ≡ mapped e (shown ns p)
  mapped_shown e p q s c m =
      λ i. record { selection = s i; scratch = c i; marks = (ap (map (named ns)) m ∙ mapped_named (adjusted_pair e) (marks_of p)) i; names = ns }

  names_stay : (f : Pair → Pair) (xs : List MarkPlace) → map (λ m. m.name) (map (at_place f) xs) ≡ map (λ m. m.name) xs
  names_stay f [] = refl
  names_stay f (x ∷ xs) = ap (λ r. x.name ∷ r) (names_stay f xs)

  pub over_stays : (f : Pair → Pair) (p q : Places) → q.count ≡ p.count → marks_of q ≡ map (at_place f) (marks_of p) → IsOver ns p → IsOver ns q
  over_stays f p q n m h = record {
    few = subst (λ k. k ≤ 16) (sym n) h.few;
    met = subst (λ xs. All (λ m. m.name < length ns) xs) (sym m) (All-map (λ m. m.name < length ns) (at_place f) (marks_of p) h.met);
    distinct = subst (λ xs. IsDistinct nat_eq (map (λ m. m.name) xs)) (sym m) (subst (IsDistinct nat_eq) (sym (names_stay f (marks_of p))) h.distinct);
  }

  named_here : (xs : List MarkPlace) → All (λ m. m.name < length ns) xs → All (λ m. IsTrue (list_any (bytes_eq m.0) ns)) (map (named ns) xs)
  named_here xs met =
      All-map (λ m. IsTrue (list_any (bytes_eq m.0) ns)) (named ns) xs
      (λ k d l.
      let m = get_or xs k d in
      list_any_at (bytes_eq (get_or ns m.name [])) ns m.name [] (met k d l) ((bytes_eq-Decides (get_or ns m.name []) (get_or ns m.name [])).1 refl))

  pub valid_shown : (p : Places) → IsDistinct bytes_eq ns → IsOver ns p → IsValid (shown ns p)
  valid_shown p apart h = record {
    few_marks = omega (arith, length-map (marks_of p) (named ns), length-take p.count p.marks, h.few);
    distinct_marks = distinct_keys ns apart (marks_of p) h.met h.distinct;
    distinct_names = apart;
    marks_are_named = named_here (marks_of p) h.met;
  }

-- ---- a removal, which always fits, and two removals that tell alike

module _ (parent index : ℕ) where
  removal_point : (b c : Bool) (p : Point) → index < 2 ^ 32 → p.offset < 2 ^ 32
      → (if b then record { label = parent; offset = index } else (if c then with_offset p (after_removal index p.offset) else p)).offset < 2 ^ 32
  removal_point true c p h l = h
  removal_point false true p h l = grind (arith, nat_tests)
  removal_point false false p h l = l

  removal_pair : (gone : List ℕ) (p : Pair) → index < 2 ^ 32 → PairFits (Remove gone parent index) p
  removal_pair gone p h =
      (removal_point (has_label gone p.anchor.label) (p.anchor.label == parent) p.anchor h, removal_point (has_label gone p.focus.label) (p.focus.label == parent) p.focus h)

  removal_option : (gone : List ℕ) (o : Option Pair) → index < 2 ^ 32 → IfSome o (PairFits (Remove gone parent index))
  removal_option gone None h = tt
  removal_option gone (Some p) h = removal_pair gone p h

  pub removal_fits : (gone : List ℕ) (s : LivePoints) → index < 2 ^ 32 → Fits (Remove gone parent index) s
  removal_fits gone s h = record {
    selection = removal_option gone s.selection h;
    scratch = removal_option gone s.scratch h;
    marks = λ k d l. removal_pair gone (get_or s.marks k d).1 h;
  }

any-left : (l : ℕ) (us vs : List ℕ) → has_label us l ≡ true → has_label (us ++ vs) l ≡ true
any-left l us vs h = grind (arith, common_steps)

any-right : (l : ℕ) (us vs : List ℕ) → has_label vs l ≡ true → has_label (us ++ vs) l ≡ true
any-right l us vs h = grind (arith, common_steps)

module _ (xs ys : List ℕ) (parent index : ℕ) where
  -- of the labels listed the two lists tell alike
  Told : List ℕ → Type 0
  Told labels = (l : ℕ) → IsTrue (has_label labels l) → has_label xs l ≡ has_label ys l

  told-left : (us vs : List ℕ) → Told (us ++ vs) → Told us
  unfolding Told
  told-left us vs h = λ l t. h l (any-left l us vs t)

  told-right : (us vs : List ℕ) → Told (us ++ vs) → Told vs
  unfolding Told
  told-right us vs h = λ l t. h l (any-right l us vs t)

  told_point : (p : Point) → has_label xs p.label ≡ has_label ys p.label → adjusted (Remove xs parent index) p ≡ adjusted (Remove ys parent index) p
  told_point p h = ap (λ b. if b then record { label = parent; offset = index } else (if p.label == parent then with_offset p (after_removal index p.offset) else p)) h

  told_pair : (p : Pair) → Told (pair_labels p) → adjusted_pair (Remove xs parent index) p ≡ adjusted_pair (Remove ys parent index) p
  unfolding Told
  told_pair p h =
      let a = told_point p.anchor (h p.anchor.label (grind (arith, nat_tests))) in
      let f = told_point p.focus (h p.focus.label (grind (arith, nat_tests))) in
      λ i. record { anchor = a i; focus = f i }

  told_option : (o : Option Pair) → Told (option_labels o) → option_map (adjusted_pair (Remove xs parent index)) o ≡ option_map (adjusted_pair (Remove ys parent index)) o
  told_option None h = refl
  told_option (Some p) h = ap Some (told_pair p h)

  told_marks : (ms : List (List ℕ × Pair)) → Told (flat_map (λ m. pair_labels m.1) ms)
      → map (at_pair (adjusted_pair (Remove xs parent index))) ms ≡ map (at_pair (adjusted_pair (Remove ys parent index))) ms
  told_marks [] h = refl
  told_marks (m ∷ ms) h =
      let here = told_pair m.1 (told-left (pair_labels m.1) (flat_map (λ m. pair_labels m.1) ms) h) in
      let there = told_marks ms (told-right (pair_labels m.1) (flat_map (λ m. pair_labels m.1) ms) h) in
      λ i. (m.0, here i) ∷ there i

  pub mapped_alike : (s : LivePoints) → TellsAlike s xs ys → mapped (Remove xs parent index) s ≡ mapped (Remove ys parent index) s
  unfolding Told
  mapped_alike s h =
      let pairs = told-left (option_labels s.selection ++ option_labels s.scratch) (flat_map (λ m. pair_labels m.1) s.marks) h in
      let a = told_option s.selection (told-left (option_labels s.selection) (option_labels s.scratch) pairs) in
      let b = told_option s.scratch (told-right (option_labels s.selection) (option_labels s.scratch) pairs) in
      let c = told_marks s.marks (told-right (option_labels s.selection ++ option_labels s.scratch) (flat_map (λ m. pair_labels m.1) s.marks) h) in
      λ i. record s { selection = a i; scratch = b i; marks = c i }

-- ---- a mark by its place

none_is_no_some : (m : MarkPlace) → None ≡ Some m → ⊥
none_is_no_some m h = cc

slice_get-below : (ms : List MarkPlace) (k : ℕ) (m : MarkPlace) → slice_get ms k ≡ Some m → k < length ms
slice_get-below [] k m e = absurd (none_is_no_some m e)
slice_get-below (x ∷ xs) zero m e = omega arith
slice_get-below (x ∷ xs) (suc k) m e = omega (arith, slice_get-below xs k m e)

met_at : (n : ℕ) (ms : List MarkPlace) (k : ℕ) (m : MarkPlace) → All (λ m. m.name < n) ms → slice_get ms k ≡ Some m → m.name < n
met_at n ms k m h e =
    let there : k < length ms = slice_get-below ms k m e in
    subst (λ m. m.name < n) (get_or_from_slice_get ms k m m e) (h k m there)

module _ (ns : List (List ℕ)) (p : Places) (k : ℕ) (m : MarkPlace) (at : slice_get (marks_of p) k ≡ Some m) where
  pub name_met : IsOver ns p → m.name < length ns
  name_met h = met_at (length ns) (marks_of p) k m h.met at

  pub mark_shown : Some (get_or ns m.name [], m.pair) ≡ slice_get (shown ns p).marks k
  mark_shown = sym (slice_get-map (named ns) (marks_of p) k ∙ ap (option_map (named ns)) at)

pub mark_past : (ns : List (List ℕ)) (p : Places) (k : ℕ) → slice_get (marks_of p) k ≡ None → None ≡ slice_get (shown ns p).marks k
mark_past ns p k at = sym (slice_get-map (named ns) (marks_of p) k ∙ ap (option_map (named ns)) at)

module _ (ns : List (List ℕ)) (p : Places) (s : LivePoints) (is : shown ns p ≡ s) (k : ℕ) where
  pub place_in : k < length s.marks → k < length (marks_of p)
  place_in l = subst (λ n. k < n) (ap (λ s. length s.marks) (sym is) ∙ length-map (marks_of p) (named ns)) l

  pub place_below : k < length s.marks → k < p.count
  place_below l = omega (arith, length-take p.count p.marks, place_in l)
