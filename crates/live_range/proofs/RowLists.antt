-- Rows listed one pair after the other, and a row that goes from one node to another.
use Rattle.std.proofs.Common.{◌≡◌, ℕ, suc, zero, ◌+◌, ◌*◌, ◌/◌, ◌%◌, ◌<◌, ◌≤◌, Bool, true, false, ◌==◌, ◌&&◌, nat_eq, nat_lt, List, [], ◌∷◌, length, map, take, slice_get, Option, Some, None, if◌then◌else◌, refl, sym, ap, ◌∙◌, subst, arith}
use Rattle.std.specs.List.{All, IsDistinct}
use Rattle.std.specs.Option.{option_map, option_map_or}
use Rattle.std.proofs.lemmas.List.{length-take}
use Rattle.std.proofs.lemmas.Bool.Decides.{nat_tests}
use Rattle.live_range.specs.declared.places.Point.{Point}
use Rattle.live_range.specs.declared.places.Pair.{Pair}
use Rattle.live_range.specs.declared.places.MarkPlace.{MarkPlace}
use Rattle.live_range.specs.declared.places.Places.{Places}
use Rattle.live_range.specs.Names.{marks_of, IsOver}
use Rattle.live_range.specs.Rows.{RowsByNode, pair_at, stands_at, listed_at, side, Lists}

-- the rows below 2k are listed
abbrev pub ListsBelow : Places → RowsByNode → ℕ → Type 0
ListsBelow p n k = (l r : ℕ) → r < 64 → listed_at n l r ≡ (if nat_lt r (2 * k) then stands_at p l r else false)

one_more : (s : ℕ → Bool) (k r : ℕ) (a f o n : Bool) → s (2 * k) ≡ a → s (2 * k + 1) ≡ f → o ≡ (if nat_lt r (2 * k) then s r else false)
    → n ≡ (if f && r == 2 * k + 1 then true else if a && r == 2 * k then true else o) → n ≡ (if nat_lt r (2 * (k + 1)) then s r else false)
one_more s k r a f o n ha hf ho hn = grind (arith, nat_tests)

flip : (a b : ℕ) → (a == b) ≡ (b == a)
flip a b = grind (arith, nat_tests)

abbrev label_is : ℕ → Option Point → Bool
label_is l o = option_map_or (λ x. x.label == l) o false

module _ (p : Places) (k : ℕ) (l : ℕ) where
  half : (2 * k) / 2 ≡ k
  half = omega arith

  even : (2 * k) % 2 ≡ 0
  even = omega arith

  half_more : (2 * k + 1) / 2 ≡ k
  half_more = omega arith

  odd : (2 * k + 1) % 2 ≡ 1
  odd = omega arith

  module _ (pair : Pair) (at : pair_at p k ≡ Some pair) where
    pub stands_anchor : stands_at p l (2 * k) ≡ (l == pair.anchor.label)
    stands_anchor =
        (λ i. label_is l (option_map (λ (q : Pair). if even i == 0 then q.anchor else q.focus) ((ap (pair_at p) half ∙ at) i))) ∙ flip pair.anchor.label l

    pub stands_focus : stands_at p l (2 * k + 1) ≡ (l == pair.focus.label)
    stands_focus =
        (λ i. label_is l (option_map (λ (q : Pair). if odd i == 0 then q.anchor else q.focus) ((ap (pair_at p) half_more ∙ at) i))) ∙ flip pair.focus.label l

  module _ (at : pair_at p k ≡ None) where
    none_anchor : stands_at p l (2 * k) ≡ false
    none_anchor = λ i. label_is l (option_map (side (2 * k)) ((ap (pair_at p) half ∙ at) i))

    none_focus : stands_at p l (2 * k + 1) ≡ false
    none_focus = λ i. label_is l (option_map (side (2 * k + 1)) ((ap (pair_at p) half_more ∙ at) i))

module _ (p : Places) (k : ℕ) (old new : RowsByNode) (before : ListsBelow p old k) where
  pub entered_more : (pair : Pair) → pair_at p k ≡ Some pair
      → ((l r : ℕ) → listed_at new l r ≡ (if l == pair.focus.label && r == 2 * k + 1 then true else if l == pair.anchor.label && r == 2 * k then true else listed_at old l r))
      → ListsBelow p new (k + 1)
  entered_more pair at now l r h =
      one_more (stands_at p l) k r (l == pair.anchor.label) (l == pair.focus.label) (listed_at old l r) (listed_at new l r) (stands_anchor p k l pair at) (stands_focus p k l pair at) (before l r h) (now l r)

pub none_more : (p : Places) (k : ℕ) (n : RowsByNode) → ListsBelow p n k → pair_at p k ≡ None → ListsBelow p n (k + 1)
none_more p k n before at l r h =
    one_more (stands_at p l) k r false false (listed_at n l r) (listed_at n l r) (none_anchor p k l at) (none_focus p k l at) (before l r h) refl

get_past : (ms : List MarkPlace) (k : ℕ) → length ms ≤ k → slice_get ms k ≡ None
get_past [] k h = refl
get_past (m ∷ ms) zero h = absurd (omega (arith, h))
get_past (m ∷ ms) (suc k) h = get_past ms k (omega (arith, h))

pub pair_past : (p : Places) (k : ℕ) → p.count + 2 ≤ k → pair_at p k ≡ None
pair_past p zero h = absurd (omega (arith, h))
pair_past p (suc zero) h = absurd (omega (arith, h))
pair_past p (suc (suc k)) h = ap (option_map (λ (m : MarkPlace). m.pair)) (get_past (marks_of p) k (omega (arith, h, length-take p.count p.marks)))

pub all_listed : (p : Places) (n : RowsByNode) → ListsBelow p n (p.count + 2) → Lists p n
all_listed p n h l r w = h l r w ∙ by (nat_lt r (2 * (p.count + 2))) refl
  where
    by : (b : Bool) → nat_lt r (2 * (p.count + 2)) ≡ b → (if b then stands_at p l r else false) ≡ stands_at p l r
    by true e = refl
    by false e = λ i. label_is l (option_map (side r) (sym (pair_past p (r / 2) (grind (arith, nat_tests))) i))

-- where no pair is kept, no row is listed
no_pair : (p : Places) → p.selection ≡ None → p.scratch ≡ None → p.count ≡ 0 → (k : ℕ) → pair_at p k ≡ None
no_pair p s c n zero = s
no_pair p s c n (suc zero) = c
no_pair p s c n (suc (suc k)) = pair_past p (suc (suc k)) (omega (arith, n))

pub nothing_listed : (p : Places) (n : RowsByNode) → p.selection ≡ None → p.scratch ≡ None → p.count ≡ 0 → ((l r : ℕ) → listed_at n l r ≡ false) → Lists p n
nothing_listed p n s c k empty l r h = empty l r ∙ sym (ap (λ o. label_is l (option_map (side r) o)) (no_pair p s c k (r / 2)))

none_distinct : IsDistinct nat_eq []
unfolding IsDistinct
none_distinct = tt

pub none_over : (names : List (List ℕ)) (p : Places) → p.count ≡ 0 → IsOver names p
none_over names p k =
    let none : marks_of p ≡ [] = ap (λ n. take n p.marks) k in
    record {
      few = omega (arith, k);
      met = subst (All (λ m. m.name < length names)) (sym none) (λ i d l. absurd (omega (arith, l)));
      distinct = subst (λ ms. IsDistinct nat_eq (map (λ m. m.name) ms)) (sym none) none_distinct;
    }
