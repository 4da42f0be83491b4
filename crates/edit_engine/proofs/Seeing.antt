-- What an arena with hidden trees shows of a document: its first tree.
use Rattle.std.proofs.Common.{◌≡◌, ℕ, ◌<◌, ◌≤◌, Bool, true, false, cond, ◌&&◌, List, [], ◌∷◌, Option, Some, None, IfSome, refl, sym, ap, subst, ◌∙◌, arith, zero, suc}
use Rattle.std.specs.Prelude.{nat_le}
use Rattle.std.specs.List.{All}
use Rattle.std.specs.Option.{option_map}
use Rattle.std.proofs.lemmas.Bool.Decides.{nat_tests}
use Rattle.edit_model.specs.DomModel.declared.Content.{Content}
use Rattle.edit_model.specs.DomModel.Forest.{Forest, count_of, tree_of, IsWithin}
use Rattle.edit_model.specs.DomModel.Forest.Forest.{Nil, Tree}
use Rattle.edit_model.specs.DomModel.Contents.{length_of}
use Rattle.edit_model.specs.DomModel.Places.{kids_in}
use Rattle.edit_model.specs.DomModel.ArenaState as arena
use Rattle.edit_model.proofs.DomModel.Walks.{document_first}
use Rattle.edit_model.specs.LiveRange.declared.places.Point.{Point}
use Rattle.edit_model.specs.LiveRange.declared.places.Pair.{Pair}
use Rattle.edit_model.specs.LiveRange.LivePoints.{LivePoints}
use Rattle.edit_model.specs.PointOrder.PointOrder.{is_placed, is_in_document}
use Rattle.inline_value.proofs.EditActions.Placed.{placed_inside}
use Rattle.edit_engine.specs.Places.{pair_from, placed_pair, range_in}
use Rattle.edit_model.specs.Valid.{IsForest, IsPlaced, IsPlacedPair}
use Rattle.inline_value.specs.NodePaths.Paths.{label_at, label_by, node_in, path_of, node_text}
use Rattle.page_write.specs.Html.{document_html}
use Rattle.page_write.specs.Listing.{document_lines}
use Rattle.page_write.specs.PointLines.{point_lines, mark_lines, IsIn, AreIn}

-- the first trees of both are the same
pub record Same (f g : Forest Content) : Type 0 where
  pub content : Content
  pub kids : Forest Content
  pub rest : Forest Content
  pub others : Forest Content
  pub first : f ≡ Tree 0 content kids rest
  pub second : g ≡ Tree 0 content kids others

pub same_first : (a : arena.ArenaState) → arena.IsValid a → (g : Forest Content) (next : ℕ) → IsForest g next → tree_of a.trees 0 ≡ tree_of g 0 → Same a.trees g
same_first a valid g next law same =
    let d = document_first a.trees valid.distinct valid.rising valid.document valid.root in
    let e = document_first g law.distinct law.rising law.document law.root in
    let t : Tree 0 d.0 d.1 Nil ≡ Tree 0 e.0 e.1 Nil = sym (ap (λ x. tree_of x 0) d.3) ∙ (same ∙ ap (λ x. tree_of x 0) e.3) in
    let c : e.0 ≡ d.0 = (let t' = t in cc) in
    let k : e.1 ≡ d.1 = (let t' = t in cc) in
    record { content = d.0; kids = d.1; rest = d.2; others = e.2; first = d.3; second = e.3 ∙ (ap (λ x. Tree 0 x e.1 e.2) c ∙ ap (λ x. Tree 0 d.0 x e.2) k) }

pub html_same : (f g : Forest Content) → Same f g → document_html f ≡ document_html g
html_same f g s = ap document_html s.first ∙ sym (ap document_html s.second)

pub lines_same : (f g : Forest Content) → Same f g → document_lines f ≡ document_lines g
lines_same f g s = ap document_lines s.first ∙ sym (ap document_lines s.second)

pub points_same : (f g : Forest Content) → Same f g → (points : LivePoints) → point_lines f points ≡ point_lines g points
unfolding point_lines mark_lines node_text path_of
points_same f g s points = ap (λ x. point_lines x points) s.first ∙ sym (ap (λ x. point_lines x points) s.second)

pub label_same : (f g : Forest Content) → Same f g → (path : List ℕ) → label_at f path ≡ label_at g path
unfolding label_at
label_same f g s path = ap (λ x. label_at x path) s.first ∙ sym (ap (λ x. label_at x path) s.second)

-- ---- placed points

pub inside : (f g : Forest Content) (p : Point) → tree_of f 0 ≡ tree_of g 0 → is_placed g p ≡ true → IsWithin f 0 p.label
inside f g p same h = subst (λ t. 0 < count_of t p.label) (sym same) (placed_inside g p h)

pair_inside : (f g : Forest Content) → tree_of f 0 ≡ tree_of g 0 → (pair : Pair) → IsPlacedPair g pair → IsIn f pair
pair_inside f g same pair placed = (inside f g pair.anchor same placed.anchor, inside f g pair.focus same placed.focus)

selection_inside : (f g : Forest Content) → tree_of f 0 ≡ tree_of g 0 → (o : Option Pair) → IfSome o (IsPlacedPair g) → IfSome o (IsIn f)
selection_inside f g same None h = tt
selection_inside f g same (Some pair) h = pair_inside f g same pair h

marks_inside : (f g : Forest Content) → tree_of f 0 ≡ tree_of g 0 → (marks : List (List ℕ × Pair)) → All (λ m. IsPlacedPair g m.1) marks → All (λ m. IsIn f m.1) marks
marks_inside f g same marks h = λ k d within. pair_inside f g same _ (h k d within)

pub points_inside : (f g : Forest Content) → tree_of f 0 ≡ tree_of g 0 → (points : LivePoints) → IsPlaced g points → AreIn f points
points_inside f g same points placed = record { selection = selection_inside f g same points.selection placed.selection; marks = marks_inside f g same points.marks placed.marks }

pub placed_by : (f : Forest Content) (l offset : ℕ) → is_in_document f l ≡ true → offset ≤ length_of f l → is_placed f (record { label = l; offset = offset }) ≡ true
unfolding is_placed
placed_by f l offset inner within = let t : nat_le offset (length_of f l) ≡ true = grind (arith, nat_tests) in rw (inner, t) refl

-- ---- paths

found_in : (f : Forest Content) (is : List ℕ) (l : ℕ) → node_in f is ≡ Some l → 0 < count_of f l
found_in Nil is l e = absurd (let e' = e in cc)
found_in (Tree m c ks rest) [] l e = absurd (let e' = e in cc)
found_in (Tree m c ks rest) (zero ∷ []) l e = let same : m ≡ l = (let e' = e in cc) in grind (arith, nat_tests, same)
found_in (Tree m c ks rest) (zero ∷ j ∷ is) l e = omega (arith, found_in ks (j ∷ is) l e)
found_in (Tree m c ks rest) (suc i ∷ is) l e = omega (arith, found_in rest (i ∷ is) l e)

found_first : (c : Content) (ks rest : Forest Content) (path : List ℕ) (l : ℕ) → label_by ks path ≡ Some l → 0 < count_of (tree_of (Tree 0 c ks rest) 0) l
found_first c ks rest [] l e = let same : 0 ≡ l = (let e' = e in cc) in grind (arith, nat_tests, same)
found_first c ks rest (i ∷ is) l e = let h = found_in ks (i ∷ is) l e in omega (arith, h)

-- the node that a path leads to is in the document
pub path_inside : (g : Forest Content) (next : ℕ) → IsForest g next → (path : List ℕ) (l : ℕ) → label_at g path ≡ Some l → IsWithin g 0 l
unfolding label_at
path_inside g next law path l e =
    let d = document_first g law.distinct law.rising law.document law.root in
    let e' : label_by d.1 path ≡ Some l = sym (ap (λ t. label_by (kids_in t) path) d.3) ∙ e in
    subst (λ t. IsWithin t 0 l) (sym d.3) (found_first d.0 d.1 d.2 path l e')

pub in_document : (f : Forest Content) (l : ℕ) → IsWithin f 0 l → is_in_document f l ≡ true
in_document f l h = let h' : 0 < count_of (tree_of f 0) l = h in grind (arith, nat_tests)

-- the pair that is found of two points is of these
pub placed_is : (f : Forest Content) (anchor focus : Point) (pair : Pair) → placed_pair f anchor focus ≡ Some pair → pair ≡ pair_from anchor focus
unfolding placed_pair
placed_is f anchor focus pair is = by_test (is_placed f anchor && is_placed f focus) is
  where
    by_test : (b : Bool) → cond b (Some (pair_from anchor focus)) None ≡ Some pair → pair ≡ pair_from anchor focus
    by_test true e = (let both : Some (pair_from anchor focus) ≡ Some pair = e in cc)
    by_test false e = absurd (let t : None ≡ Some pair = e in cc)

-- where a command works is what it was told
pub range_is : (f : Forest Content) (range at : Option Pair) → range_in f range ≡ Some at → at ≡ range
range_is f None at found = (let same : Some None ≡ Some at = found in cc)
range_is f (Some range) at found = by_pair (placed_pair f range.anchor range.focus) refl found
  where
    by_pair : (o : Option Pair) → placed_pair f range.anchor range.focus ≡ o → option_map Some o ≡ Some at → at ≡ Some range
    by_pair None is found = absurd (let none : None ≡ Some at = found in cc)
    by_pair (Some pair) is found =
        let same : Some pair ≡ at = (let both : Some (Some pair) ≡ Some at = found in cc) in
        sym same ∙ ap Some (placed_is f range.anchor range.focus pair is)
