use Rattle.std.proofs.Common.{◌≡◌, ℕ, ◌&&◌, length-set, not, true, false, Option, Some, None, get_or, refl, sym, ap, ◌∙◌, arith, take}
use Rattle.std.proofs.lemmas.List.{take_all}
use Rattle.std.specs.Option.{is_some}
use Rattle.edit_model.specs.DomModel.Forest.{preorder, tree_of}
use Rattle.edit_model.proofs.DomModel.DropTree.{leaf_tree}
use Rattle.edit_model.specs.LiveRange.PointsEdit.{has_label}
use Rattle.edit_model.specs.NodeArena.declared.NodeRef.{NodeRef}
use Rattle.edit_model.specs.NodeArena.Held.{label}
use Rattle.edit_parts.proofs.Standing.{standing-label, label_next, label_noted, label_is, within_label, absent_label, tells_in, tells_out}
use Rattle.edit_parts.proofs.following.labels_within.Goals as goal
use Rattle.edit_parts.proofs.following.labels_within.Goals.{in-Some+then-is_within, in-Some+else-is_within, in_default}

pub returns-then-is_none-clause-tells : goal.returns-then-is_none-clause-tells
returns-then-is_none-clause-tells c = λ l stands.
    let f = c.args.arena.now.trees in
    let top = c.args.top.label in
    let leaf = leaf_tree f top c.valid.ensures.distinct (c.valid.ensures.here c.args.top.slot top c.requires) (sym c.first_child.ensures.is ∙ none_there c.first_child.result (c.is_none.ensures ∙ ap not c.if-is_none.true)) in
    c.own_label.ensures.tells l stands ∙ ap (λ t. has_label (preorder t) l) (sym leaf.1)
  where
    none_there : (o : Option NodeRef) → is_some o ≡ false → label o ≡ None
    none_there None h = refl
    none_there (Some r) h = absurd (cc)

pub loop-label-preserved : goal.loop-label-preserved
loop-label-preserved c =
    let xs = c.as_slice-list.result.now in
    let label = get_or xs c.loop-label.label-index 0 in
    let f = c.args.arena.now.trees in
    let top = c.args.top.label in
    let inv = c.loop-label.invariant in
    let more = λ (x : ℕ). ap (λ b. b && has_label (preorder (tree_of f top)) x) (sym (label_next xs c.loop-label.label-index 0 x c.loop-label-test.true)) in
    elim c.match-find.branch [
      | in-Some+then-is_within w ↦ (
          let inside = within_label f true top w.in-Some.node.label label w.in-Some.ensures.found.0 w.if-is_within.ensures in
          record {
            few = omega (arith, inv.few, w.count-is);
            size = rw w.labels-is (length-set c.loop-label.labels c.loop-label.count label ∙ inv.size);
            tells = λ x. rw (w.count-is, w.labels-is) (
                label_noted c.loop-label.labels c.loop-label.count label x (omega (arith, c.as_slice-list.ensures.few, c.loop-label-test.true, inv.few, inv.size))
                ∙ (tells_in _ _ _ _ (inv.tells x) (label_is (preorder (tree_of f top)) true label x inside) ∙ more x));
          })
      | in-Some+else-is_within w ↦ (
          let outside = within_label f false top w.in-Some.node.label label w.in-Some.ensures.found.0 w.if-is_within.ensures in
          record {
            few = omega (arith, inv.few, w.count-is);
            size = rw w.labels-is inv.size;
            tells = λ x. rw (w.count-is, w.labels-is) (tells_out _ _ _ _ (inv.tells x) (label_is (preorder (tree_of f top)) false label x outside) ∙ more x);
          })
      | in_default w ↦ (
          let outside = absent_label f top label (w.in_default.ensures.absent.0 refl) in
          record {
            few = omega (arith, inv.few, w.count-is);
            size = rw w.labels-is inv.size;
            tells = λ x. rw (w.count-is, w.labels-is) (tells_out _ _ _ _ (inv.tells x) (label_is (preorder (tree_of f top)) false label x outside) ∙ more x);
          })
    ]

pub returns-clause-tells : goal.returns-clause-tells
returns-clause-tells c = λ l stands.
    let xs = c.as_slice-list.result.now in
    let all = take_all c.loop-label.label-index xs (omega arith) in
    let known : has_label (take c.loop-label.label-index xs) l ≡ true =
    ap (λ ys. has_label ys l) (all ∙ c.as_slice-list.ensures.list ∙ c.standing-standing.ensures) ∙ (standing-label c.args.points.now l ∙ stands) in
    c.loop-label.invariant.tells l ∙ rw known refl
