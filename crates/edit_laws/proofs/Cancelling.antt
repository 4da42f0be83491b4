-- What two lists have in common at both ends may be left out of a subsequence.
use Rattle.std.proofs.Common.{◌≡◌, ◌≤◌, List, [], ◌∷◌, ◌++◌, length, refl, ap, subst, arith, length-append}
use Rattle.edit_model.specs.Kept.{Leaf}
use Rattle.edit_laws.specs.Order.{Subsequence, empty, both, left_out}
use Rattle.edit_laws.proofs.Subsequences.{subsequence_trans, subsequence_nothing}

tail_of : List Leaf → List Leaf
tail_of [] = []
tail_of (x ∷ xs) = xs

head_or : Leaf → List Leaf → Leaf
head_or d [] = d
head_or d (x ∷ xs) = x

subsequence_tail : {x : Leaf} {xs ys : List Leaf} → Subsequence (x ∷ xs) ys → Subsequence xs ys
subsequence_tail (both x p) = left_out x p
subsequence_tail (left_out y p) = left_out y (subsequence_tail p)

cancel_one : {x y : Leaf} {xs ys : List Leaf} → Subsequence (x ∷ xs) (y ∷ ys) → Subsequence xs ys
cancel_one (both x p) = p
cancel_one (left_out y p) = subsequence_tail p

pub cancel_front : (front : List Leaf) {xs ys : List Leaf} → Subsequence (front ++ xs) (front ++ ys) → Subsequence xs ys
cancel_front [] p = p
cancel_front (a ∷ front) p = cancel_front front (cancel_one p)

length_le : {xs ys : List Leaf} → Subsequence xs ys → length xs ≤ length ys
length_le empty = omega arith
length_le (both x p) = omega (arith, length_le p)
length_le (left_out y p) = omega (arith, length_le p)

-- ---- the end

-- a subsequence of two lists is one of the first and one of the second
record Parted (us ys zs : List Leaf) : Type 0 where
  first : List Leaf
  second : List Leaf
  is : us ≡ first ++ second
  of_first : Subsequence first ys
  of_second : Subsequence second zs

part : {us ws : List Leaf} (ys zs : List Leaf) → ws ≡ ys ++ zs → Subsequence us ws → Parted us ys zs
unfolding head_or tail_of
part {us = us} [] zs e p = record { first = []; second = us; is = refl; of_first = empty; of_second = subst (λ w. Subsequence us w) e p }
part (y ∷ ys) zs e empty = absurd (let none : length {A = Leaf} [] ≡ length (y ∷ (ys ++ zs)) = ap length e in omega (arith, none))
part (y ∷ ys) zs e (both x p) =
    let k = part ys zs (ap tail_of e) p in
    record {
      first = x ∷ k.first;
      second = k.second;
      is = ap (λ r. x ∷ r) k.is;
      of_first = subst (λ z. Subsequence (x ∷ k.first) (z ∷ ys)) (ap (head_or x) e) (both x k.of_first);
      of_second = k.of_second;
    }
part (y ∷ ys) zs e (left_out w p) =
    let k = part ys zs (ap tail_of e) p in
    record { first = k.first; second = k.second; is = k.is; of_first = left_out y k.of_first; of_second = k.of_second }

-- what is longer at the end is shorter at the front
prefix : (xs bs us vs : List Leaf) → xs ++ bs ≡ us ++ vs → length vs ≤ length bs → Subsequence xs us
unfolding head_or tail_of
prefix [] bs us vs e short = subsequence_nothing us
prefix (x ∷ xs) bs [] vs e short = absurd (
    let same : length (x ∷ (xs ++ bs)) ≡ length vs = ap length e in
    omega (arith, same, short, length-append xs bs))
prefix (x ∷ xs) bs (u ∷ us) vs e short =
    let heads : x ≡ u = ap (head_or x) e in
    let tails : xs ++ bs ≡ us ++ vs = ap tail_of e in
    subst (λ k. Subsequence (x ∷ xs) (k ∷ us)) heads (both x (prefix xs bs us vs tails short))

pub cancel_back : (xs ys bs : List Leaf) → Subsequence (xs ++ bs) (ys ++ bs) → Subsequence xs ys
cancel_back xs ys bs p =
    let k = part ys bs refl p in
    subsequence_trans (prefix xs bs k.first k.second k.is (length_le k.of_second)) k.of_first
