use Rattle.std.proofs.Common.{◌≡◌, ◌<◌, Some, ◌++◌, sym, ap, subst}
use Rattle.edit_model.specs.Gives.{label_of, labels_of}
use Rattle.wrap_split.specs.EditDoc.Held.{Holds}
use Rattle.wrap_split.proofs.EditDoc.Children.{none_held, pushed_held}
use Rattle.inline_value.specs.Forcing.{ancestors}
use Rattle.inline_value.proofs.Above.{from, height, listed_first, listed_next, lower_next}
use Rattle.inline_value.proofs.lineages.ancestors.Goals as goal

pub loop-at-init : goal.loop-at-init
loop-at-init c =
    let f = c.args.doc.now.state.trees in
    record {
      held = c.parent-at.ensures.held;
      each = none_held c.args.doc.now c.new-list.result.items c.new-list.ensures.items;
      listed = listed_first f c.valid.ensures.valid.forest.distinct c.args.node.label c.requires.here c.parent-at.result c.parent-at.ensures.is c.new-list.result.items c.new-list.ensures.items;
    }

pub loop-at-smaller : goal.loop-at-smaller
loop-at-smaller c =
    let f = c.args.doc.now.state.trees in
    let at : Some c.in-Some.above.label ≡ label_of c.loop-at.at = sym (ap label_of c.in-Some.is) in
    subst (λ o. height f (label_of c.parent-at-in-Some.result) < height f o) at
    (lower_next f c.valid.ensures.valid.forest.distinct c.in-Some.above.label c.parent-at-in-Some.result c.parent-at-in-Some.ensures.is)

pub loop-at-preserved : goal.loop-at-preserved
loop-at-preserved c =
    let f = c.args.doc.now.state.trees in
    let held : Holds c.args.doc.now c.in-Some.above = (rw c.in-Some.is at c.loop-at.invariant.held) in
    let before = subst (λ o. labels_of c.loop-at.list.items ++ from f o ≡ ancestors f c.args.node.label) (ap label_of c.in-Some.is) c.loop-at.invariant.listed in
    record {
      held = c.parent-at-in-Some.ensures.held;
      each = pushed_held c.args.doc.now c.loop-at.list.items c.push.new.self.items c.in-Some.above c.loop-at.invariant.each held c.in_ok-push.ensures.items;
      listed = listed_next f c.valid.ensures.valid.forest.distinct c.in-Some.above held.here c.parent-at-in-Some.result c.parent-at-in-Some.ensures.is c.loop-at.list.items c.push.new.self.items c.in_ok-push.ensures.items _ before;
    }
