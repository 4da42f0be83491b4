-- Extracting a tail moves no point that stands apart from the affected host.
use Rattle.std.proofs.Common.{◌≡◌, ◌≢◌, ℕ, ◌<◌, false, cond, eqb, Some, refl, sym, ap, subst, ◌∙◌, inl, inr, arith}
use Rattle.std.proofs.lemmas.Bool.{ne_eqb, le-ltb}
use Rattle.point_order.specs.DomModel.declared.Content.{Content}
use Rattle.point_order.specs.DomModel.Forest.{Forest, count_of, tree_of, preorder, parent_of, without, IsDistinct, IsWithin}
use Rattle.point_order.proofs.DomModel.Totals.{total-without}
use Rattle.point_order.proofs.DomModel.Within.{within_step}
use Rattle.point_order.specs.LiveRange.declared.places.Point.{Point}
use Rattle.point_order.specs.LiveRange.PointsEdit as range
use Rattle.point_order.specs.LiveRange.PointsEdit.{adjusted, has_label}
use Rattle.edit_model.specs.State.{State}
use Rattle.edit_model.specs.Valid.{IsValid}
use Rattle.edit_model.specs.Outside.{hollowed}
use Rattle.edit_model.proofs.Trees.{none_or_some}
use Rattle.edit_model.proofs.Documents.{within_inside, within_below}
use Rattle.edit_model.proofs.Points.{has_label-preorder}
use Rattle.edit_model.proofs.Made.{removed_event}
use Rattle.edit_model.proofs.Hollow.{hollowed_le, hollowed_split, hollowed-without, below_left_out, inside_part, inside_whole}
use Rattle.edit_model.proofs.TailOutside.{Base, Moves, Takes, root_there}

module _ (h : ℕ) (base : Forest Content) where
  -- a point that stands apart
  abbrev pub StandsApart : ℕ → Type 0
  StandsApart l = (0 < count_of base l) × (l ≢ h)

  pub still_inserted : (p i : ℕ) (x : Point) → Takes h base p → StandsApart x.label → adjusted (range.Insert p i) x ≡ x
  still_inserted p i x takes apart =
      let off : eqb x.label p ≡ false = ne_eqb x.label p (λ e. (let same = ap (count_of base) e in omega (arith, takes, apart.0, same))) in
      rw off refl

  module _ (u : State) (is : IsValid u) (b : Base h base u) (n o : ℕ) (moves : Moves h base n) (child : parent_of u.trees n ≡ Some o) where
    document : Forest Content
    document = tree_of u.trees 0

    once : IsDistinct (tree_of u.trees 0)
    once l = omega (arith, is.forest.distinct l, total-without (λ m _. cond (eqb m l) 1 0) u.trees 0)

    in_base : (l : ℕ) → count_of (hollowed (tree_of u.trees 0) h) l ≡ count_of base l
    in_base l = ap (λ g. count_of g l) b

    -- it isn't in the tree that leaves
    not_leaving : (l : ℕ) → StandsApart l → count_of (tree_of u.trees n) l ≡ 0
    not_leaving l apart = elim (none_or_some (count_of (tree_of u.trees n) l)) [
      | inl none ↦ none
      | inr some ↦ absurd (
          let f = u.trees in
          let inside : IsWithin f 0 l = omega (arith, apart.0, in_base l, hollowed_le (tree_of f 0) h l) in
          let top = within_inside f u.next is.forest o n l child some inside in
          let same = inside_whole f u.next is.forest n l top in
          let kept : count_of (hollowed (without (tree_of f 0) n) h) l ≡ count_of (hollowed (tree_of f 0) h) l = ap (λ g. count_of g l) (hollowed-without (tree_of f 0) h n (in_base n ∙ moves.0)) in
          omega (
            arith,
            some,
            same,
            kept,
            apart.0,
            in_base l,
            hollowed_le (without (tree_of f 0) n) h l,
            total-without (λ m _. cond (eqb m l) 1 0) (tree_of f 0) n,
            once l,
          ))
    ]

    -- nor is it the parent, which would have a child apart
    not_parent : (l : ℕ) → StandsApart l → l ≢ o
    not_parent l apart e =
        let f = u.trees in
        let at : StandsApart o = subst (λ k. (0 < count_of base k) × (k ≢ h)) e apart in
        let o_inside : IsWithin f 0 o = omega (arith, at.0, in_base o, hollowed_le (tree_of f 0) h o) in
        let n_inside : IsWithin f 0 n = within_below f u.next is.forest o n child o_inside in
        let below : IsWithin f h n = omega (arith, n_inside, in_base n, moves.0, hollowed_split (tree_of f 0) h n once moves.1, inside_part f u.next is.forest h n) in
        let up = within_step f h is.forest.distinct (root_there f h n below) n o (λ q. moves.1 (sym q)) child below in
        let none = below_left_out f u.next is.forest h o up at.1 in
        omega (arith, none, at.0, in_base o)

    pub still_removed : (x : Point) → StandsApart x.label → adjusted (removed_event u.trees o n) x ≡ x
    still_removed x apart =
        let unlisted : has_label (preorder (tree_of u.trees n)) x.label ≡ false = has_label-preorder (tree_of u.trees n) x.label ∙ le-ltb 0 (count_of (tree_of u.trees n) x.label) (omega (arith, not_leaving x.label apart)) in
        let other : eqb x.label o ≡ false = ne_eqb x.label o (not_parent x.label apart) in
        rw (unlisted, other) refl
