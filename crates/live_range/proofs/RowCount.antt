-- How many rows a set has, and how many points stand at some nodes.
use Rattle.std.proofs.Common.{◌≡◌, ℕ, suc, zero, ◌+◌, ◌<◌, ◌≤◌, Bool, true, false, ◌==◌, cond, List, Option, Some, None, if◌then◌else◌, refl, sym, ap, ◌∙◌, arith}
use Rattle.std.specs.List.{list_any, count_by}
use Rattle.std.proofs.lemmas.List.Sums.{sum_by-append}
use Rattle.std.proofs.lemmas.Bool.Decides.{Decides-eqb, nat_tests}
use Rattle.live_range.specs.declared.places.Point.{Point}
use Rattle.live_range.specs.declared.places.Places.{Places}
use Rattle.live_range.specs.declared.rows.RowSet.{RowSet}
use Rattle.live_range.specs.PointsEdit.{has_label}
use Rattle.live_range.specs.Names.{place_labels}
use Rattle.live_range.specs.Rows.{RowsByNode, point_at, has_row, listed_at, Lists}
use Rattle.live_range.proofs.Adjusting.{stands_among, among, nowhere, row_among}
use Rattle.live_range.proofs.RowLabels.{labels_at, row_labels, all_rows}

-- how many numbers below n pass
abbrev pub count_below : (ℕ → Bool) → ℕ → ℕ
count_below t zero = 0
count_below t (suc n) = count_below t n + (if t n then 1 else 0)

abbrev one : Bool → ℕ
one b = if b then 1 else 0

count-same : (s t : ℕ → Bool) (n : ℕ) → ((r : ℕ) → r < n → s r ≡ t r) → count_below s n ≡ count_below t n
count-same s t zero h = refl
count-same s t (suc n) h = λ i. count-same s t n (λ r l. h r (omega (arith, l))) i + one (h n (omega arith) i)

pub count-none : (t : ℕ → Bool) (n : ℕ) → ((r : ℕ) → t r ≡ false) → count_below t n ≡ 0
count-none t zero h = refl
count-none t (suc n) h = omega (arith, count-none t n h, ap one (h n))

-- one of those that passed passes no more
module _ (s t : ℕ → Bool) (row : ℕ) (on : s row ≡ true) where
  count-apart : (n : ℕ) → n ≤ row → ((r : ℕ) → r < n → t r ≡ (if r == row then false else s r)) → count_below t n ≡ count_below s n
  count-apart n l h = count-same t s n (λ r k. h r k ∙ ap (λ b. if b then false else s r) (other r (omega (arith, k, l))))
    where
      other : (r : ℕ) → r < row → (r == row) ≡ false
      other r k = grind (arith, nat_tests)

  pub count-less : (n : ℕ) → row < n → ((r : ℕ) → r < n → t r ≡ (if r == row then false else s r)) → count_below s n ≡ count_below t n + 1
  count-less zero l h = absurd (omega (arith, l))
  count-less (suc n) l h = by (n == row) refl (λ k. count-less n k (λ r m. h r (omega (arith, m))))
    where
      by : (b : Bool) → (n == row) ≡ b → (row < n → count_below s n ≡ count_below t n + 1) → count_below s n + one (s n) ≡ count_below t n + one (t n) + 1
      by true e rest =
          let same : n ≡ row = (Decides-eqb n row).0 e in
          let before = count-apart n (omega (arith, same)) (λ r m. h r (omega (arith, m))) in
          let was : one (s n) ≡ 1 = ap (λ k. one (s k)) same ∙ ap one on in
          let is : one (t n) ≡ 0 = ap one (h n (omega arith)) ∙ ap (λ b. one (if b then false else s n)) e in
          omega (arith, before, was, is)
      by false e rest =
          let is : one (t n) ≡ one (s n) = ap one (h n (omega arith)) ∙ ap (λ b. one (if b then false else s n)) e in
          let smaller : row < n = grind (arith, nat_tests) in
          omega (arith, rest smaller, is)

-- ---- the rows at some nodes are as many as the points there

at_label : (nodes : List ℕ) (o : Option Point) → count_by (has_label nodes) (labels_at o) ≡ one (stands_among nodes o)
at_label nodes None = sym (ap one (nowhere nodes))
at_label nodes (Some x) = single (has_label nodes x.label) ∙ sym (ap one (among nodes x))
  where
    single : (b : Bool) → 0 + cond b 1 0 ≡ one b
    single true = refl
    single false = refl

rows_counted : (nodes : List ℕ) (p : Places) (n : ℕ) → count_below (λ r. stands_among nodes (point_at p r)) n ≡ count_by (has_label nodes) (row_labels p n)
rows_counted nodes p zero = refl
rows_counted nodes p (suc n) =
    (λ i. rows_counted nodes p n i + sym (at_label nodes (point_at p n)) i) ∙ sym (sum_by-append (λ l. cond (has_label nodes l) 1 0) (row_labels p n) (labels_at (point_at p n)))

pub rows_are_points : (nodes : List ℕ) (n : RowsByNode) (p : Places) (rows : RowSet) → Lists p n → p.count ≤ 16
    → ((r : ℕ) → has_row rows r ≡ list_any (λ l. listed_at n l r) nodes) → count_below (has_row rows) 64 ≡ count_by (has_label nodes) (place_labels p)
rows_are_points nodes n p rows listed few h =
    count-same (has_row rows) (λ r. stands_among nodes (point_at p r)) 64 (λ r l. h r ∙ row_among n p listed nodes r l)
    ∙ rows_counted nodes p 64 ∙ ap (count_by (has_label nodes)) (all_rows p 64 (omega (arith, few)))
