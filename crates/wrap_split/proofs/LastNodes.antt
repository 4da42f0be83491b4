-- The last node of a tree in tree order, by last children.
use Rattle.std.proofs.Common.{◌≡◌, ℕ, zero, suc, ◌+◌, ◌<◌, ◌≤◌, List, [], ◌∷◌, Option, Some, None, refl, sym, ap, ◌∙◌, subst, inl, inr, arith}
use Rattle.std.proofs.lemmas.Bool.Decides.{eqb_tells}
use Rattle.edit_model.specs.DomModel.declared.Content.{Content}
use Rattle.edit_model.specs.DomModel.Forest.{Forest, join, tops, total, count_of, IsDistinct, tree_of, children_of, parent_of, first_of, last_of, next_of, first_in, last_or, last_in, preorder_onto, preorder}
use Rattle.edit_model.specs.DomModel.Forest.Forest.{Nil, Tree}
use Rattle.edit_model.specs.DomModel.Places.{onward, or_else}
use Rattle.edit_model.proofs.DomModel.Links.{join-Nil, tree_of_absent, parent_count}
use Rattle.edit_model.proofs.DomModel.Neighbours.{parent_of-first, parent_of-next}
use Rattle.edit_model.proofs.DomModel.Parts.{at_label, onward_absent}
use Rattle.wrap_split.specs.Walks.{last_within}

-- how many nodes
abbrev pub nodes : Forest Content → ℕ
nodes f = total (λ _ _. 1) f

-- ---- lists in tree order

-- the last of a list that goes on after a forest
last_onto : (f : Forest Content) (o p : Option ℕ) (y : ℕ) (ys : List ℕ) → last_or o (preorder_onto f (y ∷ ys)) ≡ last_or p (y ∷ ys)
last_onto Nil o p y ys = refl
last_onto (Tree m c ks rest) o p y ys = by_rest (preorder_onto rest (y ∷ ys)) (λ q. last_onto rest q p y ys) (λ x xs. last_onto ks (Some m) p x xs) (more rest)
  where
    more : (g : Forest Content) → (x : ℕ) × (xs : List ℕ) × (preorder_onto g (y ∷ ys) ≡ x ∷ xs)
    more Nil = (y, ys, refl)
    more (Tree k d js rs) = (k, preorder_onto js (preorder_onto rs (y ∷ ys)), refl)

    by_rest : (zs : List ℕ) → ((q : Option ℕ) → last_or q zs ≡ last_or p (y ∷ ys)) → ((x : ℕ) (xs : List ℕ) → last_or (Some m) (preorder_onto ks (x ∷ xs)) ≡ last_or p (x ∷ xs)) → (x : ℕ) × (xs : List ℕ) × (zs ≡ x ∷ xs) → last_or (Some m) (preorder_onto ks zs) ≡ last_or p (y ∷ ys)
    by_rest zs after below s =
        ap (λ w. last_or (Some m) (preorder_onto ks w)) s.2
        ∙ below s.0 s.1
        ∙ (ap (last_or p) (sym s.2) ∙ after p)

-- ---- trees

alone : Forest Content → Forest Content
alone Nil = Nil
alone (Tree m c ks rest) = Tree m c ks Nil

or_nil : (f : Forest Content) → or_else f Nil ≡ f
or_nil Nil = refl
or_nil (Tree m c ks rest) = refl

-- a tree is the first of those from its label on
first_alone : (f : Forest Content) (l : ℕ) → IsDistinct f → 0 < count_of f l → tree_of f l ≡ alone (onward f l)
unfolding alone
first_alone Nil l once here = absurd (omega (arith, here))
first_alone (Tree m c ks rest) l once here =
    elim (eqb_tells m l) [
      | inl (t, _) ↦ rw t refl
      | inr (t, _) ↦ (
          let here' = rw t at here in
          let once' = rw t at (once l) in
          rw t (by_count (count_of ks l) refl (λ h. first_alone ks l (λ k. omega (arith, once k)) h) (λ h. first_alone rest l (λ k. omega (arith, once k)) h) here' once'))
    ]
  where
    by_count : (n : ℕ) → count_of ks l ≡ n → (0 < count_of ks l → tree_of ks l ≡ alone (onward ks l)) → (0 < count_of rest l → tree_of rest l ≡ alone (onward rest l)) → 0 < 0 + (count_of ks l + count_of rest l) → 0 + (count_of ks l + count_of rest l) ≤ 1 → join (tree_of ks l) (tree_of rest l) ≡ alone (or_else (onward ks l) (onward rest l))
    by_count zero e below after here once =
        rw (tree_of_absent ks l e, onward_absent ks l e) (after (omega (arith, here, e)))
    by_count (suc n) e below after here once =
        let none : count_of rest l ≡ 0 = omega (arith, once, e) in
        rw (tree_of_absent rest l none, onward_absent rest l none, or_nil (onward ks l)) (join-Nil (tree_of ks l) ∙ below (omega (arith, e)))

-- what is known of the last, c, of the trees g of children of p
record Last (f g : Forest Content) (p c : ℕ) : Type 0 where
  last : last_in (preorder g) ≡ last_in (preorder (tree_of f c))
  child : parent_of f c ≡ Some p
  fewer : nodes (tree_of f c) ≤ nodes g

module _ (f : Forest Content) (once : IsDistinct f) where
  chain : (g : Forest Content) (k p c : ℕ) → parent_of f k ≡ Some p → onward f k ≡ g → last_in (tops g) ≡ Some c → Last f g p c
  unfolding alone
  chain Nil k p c child is e = absurd (let e' = e in cc)
  chain (Tree m d js Nil) k p c child is e =
      let here = (parent_count f k p once child).0 in
      let a = at_label f once k here in
      let first : k ≡ m = (let t = sym a.is ∙ is in cc) in
      let last : m ≡ c = (let e' = e in cc) in
      let own : tree_of f c ≡ Tree m d js Nil = ap (λ j. tree_of f j) (sym (first ∙ last)) ∙ (first_alone f k once here ∙ ap alone is) in
      record {
        last = ap (λ h. last_in (preorder h)) (sym own);
        child = subst (λ j. parent_of f j ≡ Some p) (first ∙ last) child;
        fewer = (let n = ap nodes own in omega (arith, n));
      }
  chain (Tree m d js (Tree j b is' rest)) k p c child is e =
      let here = (parent_count f k p once child).0 in
      let a = at_label f once k here in
      let after : a.rest ≡ Tree j b is' rest = (let t = sym a.is ∙ is in cc) in
      let next : next_of f k ≡ Some j = a.next_is p child ∙ ap (λ h. first_in (tops h)) after in
      let r = chain (Tree j b is' rest) j p c (parent_of-next f once k j p child next) (a.next j next ∙ after) e in
      record {
        last = last_onto js (Some m) None j (preorder_onto is' (preorder rest)) ∙ r.last;
        child = r.child;
        fewer = (let n = r.fewer in omega (arith, n));
      }

  -- the last node within a node is the last within its last child, which holds fewer nodes
  pub last_down : (l c : ℕ) → 0 < count_of f l → last_of f l ≡ Some c → (last_within f l ≡ last_within f c) × (nodes (tree_of f c) < nodes (tree_of f l))
  unfolding alone
  last_down l c here e =
      let a = at_label f once l here in
      by_kids a.content a.kids (first_alone f l once here ∙ ap alone a.is) a.children_is a.first
    where
      by_kids : (d : Content) (g : Forest Content) → tree_of f l ≡ Tree l d g Nil → children_of f l ≡ tops g → ((k : ℕ) → first_of f l ≡ Some k → onward f k ≡ g) → (last_within f l ≡ last_within f c) × (nodes (tree_of f c) < nodes (tree_of f l))
      by_kids d Nil tree kids first = absurd (let t = sym (ap last_in kids) ∙ e in cc)
      by_kids d (Tree j b js rest) tree kids first =
          let r = chain (Tree j b js rest) j l c (parent_of-first f once l j (ap first_in kids)) (first j (ap first_in kids)) (sym (ap last_in kids) ∙ e) in
          let less : nodes (tree_of f l) ≡ 1 + (nodes (Tree j b js rest) + 0) = ap nodes tree in
          (ap (λ h. last_in (preorder h)) tree ∙ r.last, (let n = r.fewer in omega (arith, n, less)))

  -- without a child it is the node itself
  pub last_alone : (l : ℕ) → 0 < count_of f l → last_of f l ≡ None → last_within f l ≡ Some l
  unfolding alone
  last_alone l here e =
      let a = at_label f once l here in
      by_kids a.content a.kids (first_alone f l once here ∙ ap alone a.is) a.children_is
    where
      some_last : (x : ℕ) (xs : List ℕ) → last_or (Some x) xs ≡ None → ⊥
      some_last x [] e = let e' = e in cc
      some_last x (y ∷ ys) e = some_last y ys e

      by_kids : (d : Content) (g : Forest Content) → tree_of f l ≡ Tree l d g Nil → children_of f l ≡ tops g → last_within f l ≡ Some l
      by_kids d Nil tree kids = ap (λ h. last_in (preorder h)) tree
      by_kids d (Tree j b js rest) tree kids = absurd (some_last j (tops rest) (sym (ap last_in kids) ∙ e))
