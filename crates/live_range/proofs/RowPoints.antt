-- Pairs and points by number, as one of them changes.
use Rattle.std.proofs.Common.{◌≡◌, ℕ, suc, zero, ◌+◌, ◌-◌, ◌≤◌, Bool, false, ◌==◌, List, [], ◌∷◌, ◌++◌, length, slice_get, Option, Some, IsSome, if◌then◌else◌, refl, sym, ap, ◌∙◌, subst, arith, true≢false}
use Rattle.std.specs.Option.{option_map}
use Rattle.std.proofs.lemmas.Bool.Decides.{nat_tests}
use Rattle.live_range.specs.declared.places.Pair.{Pair}
use Rattle.live_range.specs.declared.places.MarkPlace.{MarkPlace}
use Rattle.live_range.specs.declared.places.Places.{Places}
use Rattle.live_range.specs.Names.{marks_of, with_pair}
use Rattle.live_range.specs.Rows.{pair_at}

abbrev of_mark : Option MarkPlace → Option Pair
of_mark o = option_map (λ m. m.pair) o

suc_same : (k j : ℕ) → (suc k == suc j) ≡ (k == j)
suc_same k j = grind (arith, nat_tests)

choice : (a b : Bool) (x y : Option Pair) → b ≡ a → (if a then x else y) ≡ (if b then x else y)
choice a b x y e = ap (λ t. if t then x else y) (sym e)

pair_put : (ms : List MarkPlace) (j k : ℕ) (pair : Pair) → IsSome (of_mark (slice_get ms j))
    → of_mark (slice_get (with_pair ms j pair) k) ≡ (if k == j then Some pair else of_mark (slice_get ms k))
pair_put [] j k pair h = absurd (true≢false (sym h))
pair_put (m ∷ ms) zero zero pair h = refl
pair_put (m ∷ ms) zero (suc k) pair h = choice false (suc k == zero) (Some pair) (of_mark (slice_get ms k)) (grind (arith, nat_tests))
pair_put (m ∷ ms) (suc j) zero pair h = choice false (zero == suc j) (Some pair) (Some m.pair) (grind (arith, nat_tests))
pair_put (m ∷ ms) (suc j) (suc k) pair h =
    pair_put ms j k pair h ∙ choice (k == j) (suc k == suc j) (Some pair) (of_mark (slice_get ms k)) (suc_same k j)

-- past the selection and the scratch pair come the marks
mark_put : (p q : Places) (j : ℕ) (pair : Pair) → marks_of q ≡ with_pair (marks_of p) j pair → q ≡ record p { marks = q.marks }
    → IsSome (pair_at p (suc (suc j))) → (k : ℕ) → pair_at q k ≡ (if k == suc (suc j) then Some pair else pair_at p k)
mark_put p q j pair m o h zero =
    ap (λ r. r.selection) o ∙ choice false (0 == suc (suc j)) (Some pair) p.selection (grind (arith, nat_tests))
mark_put p q j pair m o h (suc zero) =
    ap (λ r. r.scratch) o ∙ choice false (1 == suc (suc j)) (Some pair) p.scratch (grind (arith, nat_tests))
mark_put p q j pair m o h (suc (suc k)) =
    ap (λ ms. of_mark (slice_get ms k)) m ∙ pair_put (marks_of p) j k pair h
    ∙ choice (k == j) (suc (suc k) == suc (suc j)) (Some pair) (of_mark (slice_get (marks_of p) k)) (suc_same (suc k) (suc j) ∙ suc_same k j)

pub put_by_number : (p q : Places) (n : ℕ) (pair : Pair) → 2 ≤ n → marks_of q ≡ with_pair (marks_of p) (n - 2) pair → q ≡ record p { marks = q.marks }
    → IsSome (pair_at p n) → (k : ℕ) → pair_at q k ≡ (if k == n then Some pair else pair_at p k)
put_by_number p q n pair l m o h =
    let e : n ≡ suc (suc (n - 2)) = omega (arith, l) in
    subst (λ j. (k : ℕ) → pair_at q k ≡ (if k == j then Some pair else pair_at p k)) (sym e)
    (mark_put p q (n - 2) pair m o (subst (λ j. IsSome (pair_at p j)) e h))

-- ---- a pair that is put in place of another

pub other_than_selection : (p q : Places) → q ≡ record p { selection = q.selection } → (k : ℕ) → (k == 0) ≡ false → pair_at q k ≡ pair_at p k
other_than_selection p q o zero h = absurd (true≢false h)
other_than_selection p q o (suc zero) h = ap (λ r. r.scratch) o
other_than_selection p q o (suc (suc k)) h = ap (λ r. pair_at r (suc (suc k))) o

pub other_than_scratch : (p q : Places) → q ≡ record p { scratch = q.scratch } → (k : ℕ) → (k == 1) ≡ false → pair_at q k ≡ pair_at p k
other_than_scratch p q o zero h = ap (λ r. r.selection) o
other_than_scratch p q o (suc zero) h = absurd (true≢false h)
other_than_scratch p q o (suc (suc k)) h = ap (λ r. pair_at r (suc (suc k))) o

suc_apart : (k j : ℕ) → (suc k == suc j) ≡ false → (k == j) ≡ false
suc_apart k j h = sym (suc_same k j) ∙ h

pair_other : (ms : List MarkPlace) (j k : ℕ) (pair : Pair) → (k == j) ≡ false → of_mark (slice_get (with_pair ms j pair) k) ≡ of_mark (slice_get ms k)
pair_other [] j k pair h = refl
pair_other (m ∷ ms) zero zero pair h = absurd (true≢false h)
pair_other (m ∷ ms) zero (suc k) pair h = refl
pair_other (m ∷ ms) (suc j) zero pair h = refl
pair_other (m ∷ ms) (suc j) (suc k) pair h = pair_other ms j k pair (suc_apart k j h)

two_apart : (k j n : ℕ) → n ≡ j + 2 → (suc (suc k) == n) ≡ false → (k == j) ≡ false
two_apart k j n e h = let at : n ≡ suc (suc j) = omega (arith, e) in suc_apart k j (suc_apart (suc k) (suc j) (ap (λ m. suc (suc k) == m) (sym at) ∙ h))

pub other_than_mark : (p q : Places) (j n : ℕ) (pair : Pair) → n ≡ j + 2 → marks_of q ≡ with_pair (marks_of p) j pair → q ≡ record p { marks = q.marks }
    → (k : ℕ) → (k == n) ≡ false → pair_at q k ≡ pair_at p k
other_than_mark p q j n pair e m o zero h = ap (λ r. r.selection) o
other_than_mark p q j n pair e m o (suc zero) h = ap (λ r. r.scratch) o
other_than_mark p q j n pair e m o (suc (suc k)) h = ap (λ ms. of_mark (slice_get ms k)) m ∙ pair_other (marks_of p) j k pair (two_apart k j n e h)

get_push : (ms : List MarkPlace) (m : MarkPlace) (k : ℕ) → (k == length ms) ≡ false → slice_get (ms ++ m ∷ []) k ≡ slice_get ms k
get_push [] m zero h = absurd (true≢false h)
get_push [] m (suc k) h = refl
get_push (x ∷ xs) m zero h = refl
get_push (x ∷ xs) m (suc k) h = get_push xs m k (suc_apart k (length xs) h)

pub other_than_last : (p q : Places) (n : ℕ) (mark : MarkPlace) → length (marks_of p) ≡ p.count → n ≡ p.count + 2 → marks_of q ≡ marks_of p ++ mark ∷ []
    → q ≡ record p { marks = q.marks; count = p.count + 1 } → (k : ℕ) → (k == n) ≡ false → pair_at q k ≡ pair_at p k
other_than_last p q n mark l e m o zero h = ap (λ r. r.selection) o
other_than_last p q n mark l e m o (suc zero) h = ap (λ r. r.scratch) o
other_than_last p q n mark l e m o (suc (suc k)) h =
    ap (λ ms. of_mark (slice_get ms k)) m ∙ ap of_mark (get_push (marks_of p) mark k (two_apart k (length (marks_of p)) n (omega (arith, e, l)) h))
