-- Which of two points comes first stays where contents change, and where other trees go.
use Rattle.std.proofs.Common.{◌≡◌, ℕ, ◌<◌, Bool, true, false, cond, eqb, List, [], ◌∷◌, Option, Some, None, refl, sym, ap, subst, ◌∙◌, inl, inr, arith}
use Rattle.std.specs.Prelude.{nat_lt, nat_le, ◌&&◌, ◌==◌, find, if◌then◌else◌}
use Rattle.std.specs.Option.{option_map_or}
use Rattle.std.proofs.lemmas.Bool.Decides.{eqb_tells}
use Rattle.edit_model.specs.DomModel.declared.Content.{Content}
use Rattle.edit_model.specs.DomModel.Forest.{Forest, join, times, count_of, is_label, tree_of, children_of, preorder_onto, IsDistinct}
use Rattle.edit_model.specs.DomModel.Forest.Forest.{Nil, Tree}
use Rattle.edit_model.specs.DomModel.Places.{place_in, index_of, first_of_two, first_among}
use Rattle.edit_model.specs.DomModel.Revised.{revised}
use Rattle.edit_model.specs.DomModel.Pruned.{pruned}
use Rattle.edit_model.proofs.DomModel.Links.{times-children_of_le}
use Rattle.edit_model.proofs.DomModel.Revising.{parent_of-revised, children_of-revised, total-revised}
use Rattle.edit_model.proofs.DomModel.Pruning.{IsDistinct-pruned, children_of-pruned}
use Rattle.edit_model.specs.LiveRange.declared.places.Point.{Point}
use Rattle.edit_model.specs.PointOrder.PointOrder.{is_within, is_before, is_before_apart, is_before_below, child_toward}
use Rattle.edit_doc.proofs.SeenLookUps.{index_detached, within_detached, first_of_two-pruned}

-- ---- contents

module _ (n : ℕ) (g : Content → Content) where
  join-revised : (a b : Forest Content) → revised (join a b) n g ≡ join (revised a n g) (revised b n g)
  join-revised Nil b = refl
  join-revised (Tree m c ks rest) b = ap (Tree m (cond (eqb n m) (g c) c) (revised ks n g)) (join-revised rest b)

  pub tree_of-revised : (f : Forest Content) (l : ℕ) → tree_of (revised f n g) l ≡ revised (tree_of f l) n g
  tree_of-revised Nil l = refl
  tree_of-revised (Tree m c ks rest) l = elim (eqb_tells m l) [
    | inl (e, _) ↦ rw e refl
    | inr (e, _) ↦ rw e (ap (λ t. join t (tree_of (revised rest n g) l)) (tree_of-revised ks l) ∙ (ap (join (revised (tree_of ks l) n g)) (tree_of-revised rest l) ∙ sym (join-revised (tree_of ks l) (tree_of rest l))))
  ]

  pub within-revised : (f : Forest Content) (top l : ℕ) → is_within (revised f n g) top l ≡ is_within f top l
  within-revised f top l = ap (λ t. nat_lt 0 (count_of t l)) (tree_of-revised f top) ∙ ap (nat_lt 0) (total-revised n g (λ m. cond (eqb m l) 1 0) (tree_of f top))

  onto-revised : (f : Forest Content) (ls : List ℕ) → preorder_onto (revised f n g) ls ≡ preorder_onto f ls
  onto-revised Nil ls = refl
  onto-revised (Tree m c ks rest) ls = ap (λ r. m ∷ r) (onto-revised ks (preorder_onto (revised rest n g) ls) ∙ ap (preorder_onto ks) (onto-revised rest ls))

  two-revised : (f : Forest Content) (a b : ℕ) → first_of_two (revised f n g) a b ≡ first_of_two f a b
  two-revised Nil a b = refl
  two-revised (Tree m c ks rest) a b =
      let t = Tree m c ks Nil in
      λ i. if nat_lt 0 (total-revised n g (λ k. cond (eqb k a) 1 0) t i) && nat_lt 0 (total-revised n g (λ k. cond (eqb k b) 1 0) t i) then first_among (onto-revised t [] i) a b else two-revised rest a b i

  index-revised : (f : Forest Content) (l : ℕ) → index_of (revised f n g) l ≡ index_of f l
  index-revised f l = λ i. option_map_or (λ p. place_in (children_of-revised n g f p i) l) (parent_of-revised n g f l i) 0

  toward-revised : (f : Forest Content) (a b : ℕ) → child_toward (revised f n g) a b ≡ child_toward f a b
  toward-revised f a b = λ i. find (λ k. within-revised f k b i) (children_of-revised n g f a i)

  below-revised : (f : Forest Content) (p q : Point) (o : Option ℕ) → is_before_below (revised f n g) p q o ≡ is_before_below f p q o
  below-revised f p q None = ap (λ o. is_label o p.label) (two-revised f p.label q.label)
  below-revised f p q (Some k) = ap (λ i. nat_lt i q.offset) (index-revised f k)

  apart-revised : (f : Forest Content) (p q : Point) (o : Option ℕ) → is_before_apart (revised f n g) p q o ≡ is_before_apart f p q o
  apart-revised f p q None = below-revised f p q (child_toward (revised f n g) q.label p.label) ∙ ap (is_before_below f p q) (toward-revised f q.label p.label)
  apart-revised f p q (Some k) = ap (nat_le p.offset) (index-revised f k)

  pub before-revised : (f : Forest Content) (p q : Point) → is_before (revised f n g) p q ≡ is_before f p q
  unfolding is_before
  before-revised f p q = ap (λ b. if p.label == q.label then nat_lt p.offset q.offset else b)
      (apart-revised f p q (child_toward (revised f n g) p.label q.label) ∙ ap (is_before_apart f p q) (toward-revised f p.label q.label))

-- ---- what is left of a forest

find_same : (s t : ℕ → Bool) (ls : List ℕ) → ((l : ℕ) → 0 < times ls l → s l ≡ t l) → find s ls ≡ find t ls
find_same s t [] same = refl
find_same s t (l ∷ ls) same =
    (λ i. cond (same l (own l ls) i) (Some l) (find s ls)) ∙ ap (cond (t l) (Some l)) (find_same s t ls (λ m h. same m (omega (arith, h))))
  where
    own : (l : ℕ) (ls : List ℕ) → 0 < times (l ∷ ls) l
    own l ls = elim (eqb_tells l l) [ inl (e, _) ↦ rw e (omega arith) | inr (_, off) ↦ absurd (off refl) ]

found_in : (s : ℕ → Bool) (ls : List ℕ) (k : ℕ) → find s ls ≡ Some k → 0 < times ls k
found_in s [] k e = absurd (cc)
found_in s (l ∷ ls) k e = by_test l ls k (s l) (find s ls) e (found_in s ls k)
  where
    by_test : (l : ℕ) (ls : List ℕ) (k : ℕ) (b : Bool) (o : Option ℕ) → cond b (Some l) o ≡ Some k → (o ≡ Some k → 0 < times ls k) → 0 < times (l ∷ ls) k
    by_test l ls k true o h ih = elim (eqb_tells l k) [ inl (t, _) ↦ rw t (omega arith) | inr (_, off) ↦ absurd (off (let h' : Some l ≡ Some k = h in cc)) ]
    by_test l ls k false o h ih = omega (arith, ih h)

module _ (k : ℕ → Bool) (f : Forest Content) (once : IsDistinct f) where
  abbrev detached : Forest Content
  detached = pruned k f

  child_detached : (a l : ℕ) → 0 < count_of detached a → 0 < times (children_of f a) l → 0 < count_of detached l
  child_detached a l here child =
      let c : 0 < times (children_of detached a) l = subst (λ ls. 0 < times ls l) (sym (children_of-pruned k f a once here)) child in
      omega (arith, c, times-children_of_le detached a l (IsDistinct-pruned k f once))

  toward-detached : (a b : ℕ) → 0 < count_of detached a → child_toward detached a b ≡ child_toward f a b
  toward-detached a b here =
      ap (find (λ m. is_within detached m b)) (children_of-pruned k f a once here)
      ∙ find_same (λ m. is_within detached m b) (λ m. is_within f m b) (children_of f a) (λ m child. within_detached k f once m b (child_detached a m here child))

  below-detached : (p q : Point) (o : Option ℕ) → child_toward f q.label p.label ≡ o → 0 < count_of detached p.label → 0 < count_of detached q.label → is_before_below detached p q o ≡ is_before_below f p q o
  below-detached p q None e hp hq = ap (λ o. is_label o p.label) (first_of_two-pruned k f p.label q.label once hp)
  below-detached p q (Some m) e hp hq = ap (λ i. nat_lt i q.offset) (index_detached k f once m (child_detached q.label m hq (found_in (λ j. is_within f j p.label) (children_of f q.label) m e)))

  apart-detached : (p q : Point) (o : Option ℕ) → child_toward f p.label q.label ≡ o → 0 < count_of detached p.label → 0 < count_of detached q.label → is_before_apart detached p q o ≡ is_before_apart f p q o
  apart-detached p q None e hp hq = ap (is_before_below detached p q) (toward-detached q.label p.label hq) ∙ below-detached p q (child_toward f q.label p.label) refl hp hq
  apart-detached p q (Some m) e hp hq = ap (nat_le p.offset) (index_detached k f once m (child_detached p.label m hp (found_in (λ j. is_within f j q.label) (children_of f p.label) m e)))

  pub before-detached : (p q : Point) → 0 < count_of detached p.label → 0 < count_of detached q.label → is_before detached p q ≡ is_before f p q
  unfolding is_before
  before-detached p q hp hq = ap (λ b. if p.label == q.label then nat_lt p.offset q.offset else b)
      (ap (is_before_apart detached p q) (toward-detached p.label q.label hp) ∙ apart-detached p q (child_toward f p.label q.label) refl hp hq)
