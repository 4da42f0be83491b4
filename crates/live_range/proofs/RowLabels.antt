-- The labels of the points row by row and pair by pair.
use Rattle.std.proofs.Common.{◌≡◌, ℕ, suc, zero, ◌+◌, ◌*◌, ◌/◌, ◌<◌, ◌≤◌, Bool, true, false, ◌==◌, ◌||◌, nat_eq, nat_lt, List, [], ◌∷◌, ◌++◌, take, slice_get, Option, Some, None, refl, sym, ap, ◌∙◌, arith}
use Rattle.std.specs.List.{flat_map}
use Rattle.std.specs.Option.{option_map}
use Rattle.std.proofs.lemmas.List.{append-nil, append_assoc}
use Rattle.std.proofs.lemmas.List.Folds.{list_any-append}
use Rattle.std.proofs.lemmas.List.Sums.{fold-append}
use Rattle.std.proofs.lemmas.Bool.Decides.{Decides-eqb, nat_tests}
use Rattle.indexmap.specs.IndexSet.{insert_key, insert_all}
use Rattle.live_range.specs.declared.places.Point.{Point}
use Rattle.live_range.specs.declared.places.Pair.{Pair}
use Rattle.live_range.specs.declared.places.MarkPlace.{MarkPlace}
use Rattle.live_range.specs.declared.places.Places.{Places}
use Rattle.live_range.specs.PointsEdit.{has_label}
use Rattle.live_range.specs.LivePoints.{option_labels, pair_labels}
use Rattle.live_range.specs.Names.{marks_of, place_labels}
use Rattle.live_range.specs.Rows.{pair_at, point_at, side}
use Rattle.live_range.proofs.Adjusting.{at_anchor, at_focus}
use Rattle.live_range.proofs.RowLists.{pair_past}

-- ---- the labels of the first rows and of the first pairs

abbrev pub labels_at : Option Point → List ℕ
labels_at None = []
labels_at (Some x) = x.label ∷ []

abbrev pub row_labels : Places → ℕ → List ℕ
row_labels p zero = []
row_labels p (suc n) = row_labels p n ++ labels_at (point_at p n)

both_labels : (o : Option Pair) → labels_at (option_map (λ (q : Pair). q.anchor) o) ++ labels_at (option_map (λ (q : Pair). q.focus) o) ≡ option_labels o
both_labels None = refl
both_labels (Some q) = refl

abbrev pub first_pairs : Places → ℕ → List ℕ
first_pairs p zero = []
first_pairs p (suc k) = first_pairs p k ++ option_labels (pair_at p k)

rows_and_pairs : (p : Places) (k n : ℕ) → n ≡ 2 * k → row_labels p n ≡ first_pairs p k
rows_and_pairs p zero n e = ap (row_labels p) e
rows_and_pairs p (suc k) n e =
    let two : n ≡ suc (suc (2 * k)) = omega (arith, e) in
    let next : suc (2 * k) ≡ 2 * k + 1 = omega arith in
    ap (row_labels p) two
    ∙ (λ i. (rows_and_pairs p k (2 * k) refl i ++ labels_at (at_anchor p k i)) ++ labels_at ((ap (point_at p) next ∙ at_focus p k) i))
    ∙ append_assoc (first_pairs p k) (labels_at (option_map (λ (q : Pair). q.anchor) (pair_at p k))) (labels_at (option_map (λ (q : Pair). q.focus) (pair_at p k)))
    ∙ ap (λ r. first_pairs p k ++ r) (both_labels (pair_at p k))

-- ---- all labels

abbrev mark_labels : MarkPlace → List ℕ
mark_labels m = pair_labels m.pair

take_more : (ms : List MarkPlace) (j : ℕ) → flat_map mark_labels (take (suc j) ms) ≡ flat_map mark_labels (take j ms) ++ option_labels (option_map (λ (m : MarkPlace). m.pair) (slice_get ms j))
take_more [] zero = refl
take_more [] (suc j) = refl
take_more (m ∷ ms) zero = refl
take_more (m ∷ ms) (suc j) = ap (λ r. m.pair.anchor.label ∷ m.pair.focus.label ∷ r) (take_more ms j)

mark_pairs : (p : Places) (j : ℕ) → first_pairs p (suc (suc j)) ≡ (option_labels p.selection ++ option_labels p.scratch) ++ flat_map mark_labels (take j (marks_of p))
mark_pairs p zero = sym (append-nil (option_labels p.selection ++ option_labels p.scratch))
mark_pairs p (suc j) =
    let head = option_labels p.selection ++ option_labels p.scratch in
    ap (λ r. r ++ option_labels (option_map (λ (m : MarkPlace). m.pair) (slice_get (marks_of p) j))) (mark_pairs p j)
    ∙ append_assoc head (flat_map mark_labels (take j (marks_of p))) (option_labels (option_map (λ (m : MarkPlace). m.pair) (slice_get (marks_of p) j)))
    ∙ ap (λ r. head ++ r) (sym (take_more (marks_of p) j))

take_twice : (n : ℕ) (ms : List MarkPlace) → take n (take n ms) ≡ take n ms
take_twice zero ms = refl
take_twice (suc n) [] = refl
take_twice (suc n) (m ∷ ms) = ap (λ r. m ∷ r) (take_twice n ms)

pub all_pairs : (p : Places) (k : ℕ) → k ≡ p.count + 2 → first_pairs p k ≡ place_labels p
all_pairs p k e =
    let two : k ≡ suc (suc p.count) = omega (arith, e) in
    ap (first_pairs p) two ∙ mark_pairs p p.count
    ∙ ap (λ ms. (option_labels p.selection ++ option_labels p.scratch) ++ flat_map mark_labels ms) (take_twice p.count p.marks)

-- past the last row there is no label
no_more : (p : Places) (n : ℕ) → 2 * (p.count + 2) ≤ n → row_labels p (suc n) ≡ row_labels p n
no_more p n h =
    let none : point_at p n ≡ None = ap (option_map (side n)) (pair_past p (n / 2) (omega (arith, h))) in
    ap (λ o. row_labels p n ++ labels_at o) none ∙ append-nil (row_labels p n)

pub all_rows : (p : Places) (m : ℕ) → 2 * (p.count + 2) ≤ m → row_labels p m ≡ place_labels p
all_rows p zero h = absurd (omega (arith, h))
all_rows p (suc m) h = by (nat_lt m (2 * (p.count + 2))) refl (λ k. all_rows p m k)
  where
    by : (b : Bool) → nat_lt m (2 * (p.count + 2)) ≡ b → (2 * (p.count + 2) ≤ m → row_labels p m ≡ place_labels p) → row_labels p (suc m) ≡ place_labels p
    by true e rest = rows_and_pairs p (p.count + 2) (suc m) (grind (arith, nat_tests)) ∙ all_pairs p (p.count + 2) refl
    by false e rest = let l : 2 * (p.count + 2) ≤ m = grind (arith, nat_tests) in no_more p m l ∙ rest l

-- ---- whether a point stands at a label

module _ (p : Places) (l : ℕ) where
  pub more_pairs : (k : ℕ) → has_label (first_pairs p (suc k)) l ≡ (has_label (first_pairs p k) l || has_label (option_labels (pair_at p k)) l)
  more_pairs k = list_any-append (λ x. x == l) (first_pairs p k) (option_labels (pair_at p k))

  somewhere : (n k : ℕ) → k < n → has_label (option_labels (pair_at p k)) l ≡ true → has_label (first_pairs p n) l ≡ true
  somewhere zero k m h = absurd (omega (arith, m))
  somewhere (suc n) k m h = more_pairs n ∙ by (k == n) refl (λ less. somewhere n k less h)
    where
      at : ℕ → Bool
      at i = has_label (option_labels (pair_at p i)) l

      last : (a : Bool) → (a || true) ≡ true
      last true = refl
      last false = refl

      by : (b : Bool) → (k == n) ≡ b → (k < n → has_label (first_pairs p n) l ≡ true) → (has_label (first_pairs p n) l || at n) ≡ true
      by true e rest = ap (λ i. has_label (first_pairs p n) l || at i) (sym ((Decides-eqb k n).0 e)) ∙ ap (λ b. has_label (first_pairs p n) l || b) h ∙ last (has_label (first_pairs p n) l)
      by false e rest = ap (λ b. b || at n) (rest (grind (arith, nat_tests)))

  -- one of the pairs has a point there
  pub found_among : (k : ℕ) → k < p.count + 2 → has_label (option_labels (pair_at p k)) l ≡ true → has_label (place_labels p) l ≡ true
  found_among k m h = ap (λ ls. has_label ls l) (sym (all_pairs p (p.count + 2) refl)) ∙ somewhere (p.count + 2) k m h

-- ---- each label once, pair by pair

abbrev pub met : Places → ℕ → List ℕ
met p k = insert_all nat_eq [] (first_pairs p k)

pub met_more : (p : Places) (k : ℕ) (o : Option Pair) → o ≡ pair_at p k → insert_all nat_eq (met p k) (option_labels o) ≡ met p (k + 1)
met_more p k o at =
    let next : suc k ≡ k + 1 = omega arith in
    sym (fold-append (insert_key nat_eq) [] (first_pairs p k) (option_labels o)) ∙ ap (λ q. insert_all nat_eq [] (first_pairs p k ++ option_labels q)) at ∙ ap (met p) next

pub all_met : (p : Places) (k : ℕ) → k ≡ p.count + 2 → met p k ≡ insert_all nat_eq [] (place_labels p)
all_met p k e = ap (insert_all nat_eq []) (all_pairs p k e)
