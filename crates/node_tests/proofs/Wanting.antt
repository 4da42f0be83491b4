-- The wanted nodes of a tree, by its node and its children.
use Rattle.std.proofs.Common.{◌≡◌, ℕ, ◌<◌, inl, inr, arith, eqb, Bool, true, false, cond, List, [], ◌∷◌, ◌++◌, Option, Some, None, refl, sym, ap, ◌∙◌, append_assoc, append-nil}
use Rattle.std.specs.List.{filter}
use Rattle.std.specs.Option.{option_map, option_and_then}
use Rattle.std.proofs.lemmas.Bool.Decides.{eqb_tells}
use Rattle.std.proofs.lemmas.List.Elements.{filter-append}
use Rattle.node_styles.specs.DomModel.declared.Content.{Content}
use Rattle.node_styles.specs.DomModel.Forest.{Forest, Seen, join, tops, times, count_of, IsDistinct, preorder, preorder_onto, tree_of, parent_of, first_of, next_of}
use Rattle.node_styles.specs.DomModel.Forest.Forest.{Nil, Tree}
use Rattle.node_styles.specs.DomModel.Places.{onward}
use Rattle.node_styles.proofs.DomModel.Links.{seen, eqb_refl_true}
use Rattle.node_styles.proofs.DomModel.Stands.{parent_stands, times-tops}
use Rattle.node_tests.proofs.Pieces.{count_in_tree, once_rest, tree-after}
use Rattle.node_tests.specs.Listing.{only_if}
use Rattle.node_tests.specs.Listing.{siblings}
use Rattle.node_tests.proofs.Inside.{tree_is_kids, onward_is_tree}

preorder_onto_is : (f : Forest Content) (ls : List ℕ) → preorder_onto f ls ≡ preorder f ++ ls
preorder_onto_is Nil ls = refl
preorder_onto_is (Tree l c ks rest) ls =
    ap (λ xs. l ∷ xs)
    (preorder_onto_is ks (preorder_onto rest ls)
    ∙ (ap (λ xs. preorder ks ++ xs) (preorder_onto_is rest ls)
    ∙ (sym (append_assoc (preorder ks) (preorder rest) ls)
    ∙ ap (λ xs. xs ++ ls) (sym (preorder_onto_is ks (preorder rest))))))

module _ (test : ℕ → Bool) where
  abbrev pub passed : Forest Content → List ℕ
  passed f = filter test (preorder f)

  passed_tree : (l : ℕ) (c : Content) (ks rest : Forest Content) → passed (Tree l c ks rest) ≡ only_if test l ++ (passed ks ++ passed rest)
  passed_tree l c ks rest =
      ap (λ xs. filter test (l ∷ xs)) (preorder_onto_is ks (preorder rest))
      ∙ (by_test (test l) (filter test (preorder ks ++ preorder rest))
      ∙ ap (λ xs. only_if test l ++ xs) (filter-append test (preorder ks) (preorder rest)))
    where
      by_test : (v : Bool) (xs : List ℕ) → cond v (l ∷ xs) xs ≡ cond v (l ∷ []) [] ++ xs
      by_test true xs = refl
      by_test false xs = refl

  pub passed_join : (f g : Forest Content) → passed (join f g) ≡ passed f ++ passed g
  passed_join Nil g = refl
  passed_join (Tree l c ks rest) g =
      passed_tree l c ks (join rest g)
      ∙ (ap (λ xs. only_if test l ++ (passed ks ++ xs)) (passed_join rest g)
      ∙ (ap (λ xs. only_if test l ++ xs) (sym (append_assoc (passed ks) (passed rest) (passed g)))
      ∙ (sym (append_assoc (only_if test l) (passed ks ++ passed rest) (passed g))
      ∙ ap (λ xs. xs ++ passed g) (sym (passed_tree l c ks rest)))))

  module _ (f : Forest Content) (once : IsDistinct f) where
    -- a node and its children
    pub tree_passed : (l : ℕ) → 0 < count_of f l → passed (tree_of f l) ≡ only_if test l ++ passed (siblings f (first_of f l))
    tree_passed l here =
        let s = seen f l once here in
        let c = s.0.content in
        let tree : tree_of f l ≡ Tree l c (siblings f (first_of f l)) Nil = tree_is_kids f once l c here (ap (option_map (λ (x : Seen Content). x.content)) s.2) in
        ap passed tree
        ∙ (passed_tree l c (siblings f (first_of f l)) Nil
        ∙ ap (λ xs. only_if test l ++ xs) (append-nil (passed (siblings f (first_of f l)))))

    pub listed_init : (l : ℕ) → 0 < count_of f l → (o : Option ℕ) → o ≡ first_of f l → (old new : List ℕ) → new ≡ old ++ only_if test l → new ++ passed (siblings f o) ≡ old ++ passed (tree_of f l)
    listed_init l here o e old new is =
        ap (λ xs. xs ++ passed (siblings f o)) is
        ∙ (append_assoc old (only_if test l) (passed (siblings f o))
        ∙ ap (λ xs. old ++ xs) (sym (tree_passed l here ∙ ap (λ k. only_if test l ++ passed (siblings f k)) (sym e))))

    -- past a child
    pub listed_next : (k p : ℕ) → parent_of f k ≡ Some p → (o : Option ℕ) → o ≡ next_of f k → (all old new : List ℕ) → old ++ passed (onward f k) ≡ all → new ≡ old ++ passed (tree_of f k) → new ++ passed (siblings f o) ≡ all
    listed_next k p child o e all old new same is =
        let whole : passed (onward f k) ≡ passed (tree_of f k) ++ passed (siblings f o) =
        ap passed (onward_is_tree f once k p child)
        ∙ (passed_join (tree_of f k) (siblings f (next_of f k))
        ∙ ap (λ j. passed (tree_of f k) ++ passed (siblings f j)) (sym e)) in
        ap (λ xs. xs ++ passed (siblings f o)) is
        ∙ (append_assoc old (passed (tree_of f k)) (passed (siblings f o))
        ∙ (ap (λ xs. old ++ xs) (sym whole) ∙ same))

  -- none of them passes
  pub passed_none : (f : Forest Content) → ((l : ℕ) → 0 < count_of f l → test l ≡ false) → passed f ≡ []
  passed_none Nil off = refl
  passed_none (Tree l c ks rest) off =
      let self : eqb l l ≡ true = eqb_refl_true l in
      let here : 0 < count_of (Tree l c ks rest) l = (rw self (omega arith)) in
      passed_tree l c ks rest
      ∙ (ap (λ v. cond v (l ∷ []) [] ++ (passed ks ++ passed rest)) (off l here)
      ∙ (ap (λ xs. xs ++ passed rest) (passed_none ks (λ k h. off k (omega (arith, h))))
      ∙ passed_none rest (λ k h. off k (omega (arith, h)))))

  -- each of them passes
  pub passed_every : (f : Forest Content) → ((l : ℕ) → 0 < count_of f l → test l ≡ true) → passed f ≡ preorder f
  passed_every Nil on = refl
  passed_every (Tree l c ks rest) on =
      let self : eqb l l ≡ true = eqb_refl_true l in
      let here : 0 < count_of (Tree l c ks rest) l = (rw self (omega arith)) in
      passed_tree l c ks rest
      ∙ (ap (λ v. cond v (l ∷ []) [] ++ (passed ks ++ passed rest)) (on l here)
      ∙ (ap (λ xs. l ∷ (xs ++ passed rest)) (passed_every ks (λ k h. on k (omega (arith, h))))
      ∙ (ap (λ xs. l ∷ (preorder ks ++ xs)) (passed_every rest (λ k h. on k (omega (arith, h))))
      ∙ ap (λ xs. l ∷ xs) (sym (preorder_onto_is ks (preorder rest))))))

  -- only nodes of one tree pass
  passed_top : (f : Forest Content) (root : ℕ) → IsDistinct f → 0 < times (tops f) root → ((l : ℕ) → 0 < count_of f l → count_of (tree_of f root) l ≡ 0 → test l ≡ false) → passed f ≡ passed (tree_of f root)
  passed_top Nil root once top off = refl
  passed_top (Tree m c ks rest) root once top off =
      elim (eqb_tells m root) [
        | inl (t, _) ↦ (
            let tree : tree_of (Tree m c ks rest) root ≡ Tree m c ks Nil = rw t refl in
            let none : passed rest ≡ [] = passed_none rest (λ l h. off l (omega (arith, h)) (ap (λ g. count_of g l) tree ∙ (let o = once l in omega (arith, o, h)))) in
            passed_join (Tree m c ks Nil) rest
            ∙ (ap (λ xs. passed (Tree m c ks Nil) ++ xs) none
            ∙ (append-nil (passed (Tree m c ks Nil)) ∙ ap passed (sym tree))))
        | inr (t, _) ↦ (
            let top' : 0 < times (tops rest) root = (let u = rw t at top in omega (arith, u)) in
            let low = times-tops rest root in
            let out : count_of ks root ≡ 0 = (let o = once root in omega (arith, o, low, top')) in
            let tree : tree_of (Tree m c ks rest) root ≡ tree_of rest root = tree-after m c ks rest root t out in
            let front : passed (Tree m c ks Nil) ≡ [] =
            passed_none (Tree m c ks Nil) (λ l h. off l (omega (arith, h)) (ap (λ g. count_of g l) tree ∙ (let o = once l in let i = count_in_tree rest root l in omega (arith, o, h, i)))) in
            passed_join (Tree m c ks Nil) rest
            ∙ (ap (λ xs. xs ++ passed rest) front
            ∙ (passed_top rest root (once_rest m c ks rest once) top' (λ l h z. off l (omega (arith, h)) (ap (λ g. count_of g l) tree ∙ z))
            ∙ ap passed (sym tree))))
      ]

  pub passed_root : (f : Forest Content) (root : ℕ) → IsDistinct f → 0 < count_of f root → parent_of f root ≡ None → ((l : ℕ) → 0 < count_of f l → count_of (tree_of f root) l ≡ 0 → test l ≡ false) → passed f ≡ passed (tree_of f root)
  passed_root f root once here is off =
      let s = seen f root once here in
      let own : s.0.parent ≡ None = ap (option_and_then (λ (x : Seen Content). x.parent)) (sym s.2) ∙ is in
      elim (parent_stands None f root s.0 s.1) [
        | inl (_, some) ↦ passed_top f root once some off
        | inr (p, _, at, _, _) ↦ absurd (let u : None ≡ Some p = sym own ∙ at in cc)
      ]
