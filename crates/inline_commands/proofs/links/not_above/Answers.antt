use Rattle.std.proofs.Common.{◌≡◌, ℕ, Bool, true, false, not, get_or, sym, ap, ◌∙◌}
use Rattle.edit_model.specs.PointOrder.PointOrder.{is_ancestor}
use Rattle.inline_value.proofs.EditDoc.Children.{pushed_held}
use Rattle.inline_commands.proofs.Merging.{nobody, kept_on, kept_off}
use Rattle.inline_commands.proofs.links.not_above.Goals as goal
use Rattle.inline_commands.proofs.links.not_above.Goals.{then-not-is_ancestor+in_ok-push, else-not-is_ancestor}

pub loop-node-preserved : goal.loop-node-preserved
loop-node-preserved c =
    let f = c.args.doc.now.state.trees in
    let xs = c.args.list.now in
    let i = c.loop-node.node-index in
    let low = c.loop-node-test.true in
    let kept = c.loop-node.kept.items in
    let T : ℕ → Bool = λ l. not (is_ancestor f l c.args.below.label) in
    let tells : c.is_ancestor.result ≡ is_ancestor f (get_or xs i nobody).label c.args.below.label = c.is_ancestor.ensures in
    elim c.if-not-is_ancestor.branch [
      | then-not-is_ancestor+in_ok-push w ↦ (
        rw w.kept-is (kept_on T xs i low kept _ c.loop-node.invariant.0 _ w.in_ok-push.ensures.items (ap not (sym tells ∙ w.if-not-is_ancestor.true))),
        rw w.kept-is (pushed_held c.args.doc.now _ _ _ c.loop-node.invariant.1 (c.requires.list_held _ low) w.in_ok-push.ensures.items),
      )
      | else-not-is_ancestor w ↦ (
        rw w.kept-is (kept_off T xs i low kept _ c.loop-node.invariant.0 (ap not (sym tells ∙ w.if-not-is_ancestor.false))),
        rw w.kept-is c.loop-node.invariant.1,
      )
    ]
