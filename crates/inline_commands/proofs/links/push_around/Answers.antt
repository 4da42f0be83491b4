use Rattle.std.proofs.Common.{◌≡◌, ◌+◌, ◌<◌, ◌++◌, ◌∷◌, true, false, length, drop, get_or, sym, ap, ◌∙◌, arith, append-nil}
use Rattle.edit_model.specs.PointOrder.PointOrder.{is_ancestor}
use Rattle.edit_model.specs.Gives.{labels_of}
use Rattle.edit_model.proofs.Steps.{labels_of_push}
use Rattle.inline_value.proofs.EditDoc.Children.{pushed_held}
use Rattle.inline_commands.specs.Merging.{around}
use Rattle.inline_commands.proofs.Merging.{nobody, around_on, beyond_on, around_off, beyond_off, around_end, beyond_end}
use Rattle.inline_commands.proofs.links.push_around.Goals as goal

pub loop-at-preserved : goal.loop-at-preserved
loop-at-preserved c =
    let f = c.args.doc.now.state.trees in
    let xs = c.args.above.now in
    let x = c.args.node.label in
    let at = c.loop-at.at in
    let low : at < length xs = c.loop-at-test.true in
    let t : is_ancestor f (get_or xs at nobody).label x ≡ true = sym c.is_ancestor.ensures ∙ c.if-not-is_ancestor.false in
    let i = c.loop-at.invariant in
    let list = c.loop-at.list.items in
    let rest = around f (labels_of (drop (at + 1) xs)) x in
    record {
      within = omega (arith, low);
      each = pushed_held c.args.doc.now list _ (get_or xs at nobody) i.each (c.requires.above_held at low) c.in_ok-push.ensures.items;
      listed =
          ap (λ ys. labels_of ys ++ rest) c.in_ok-push.ensures.items
          ∙ labels_of_push list (get_or xs at nobody) rest
          ∙ ap (λ ys. labels_of list ++ ys) (sym (around_on f xs x at low t))
          ∙ i.listed;
      left = sym (beyond_on f xs x at low t) ∙ i.left;
    }

pub returns-then-not-is_ancestor-clause-around : goal.returns-then-not-is_ancestor-clause-around
returns-then-not-is_ancestor-clause-around c =
    let f = c.args.doc.now.state.trees in
    let xs = c.args.above.now in
    let x = c.args.node.label in
    let at = c.loop-at.at in
    let low : at < length xs = c.loop-at-test.true in
    let t : is_ancestor f (get_or xs at nobody).label x ≡ false = sym c.is_ancestor.ensures ∙ c.if-not-is_ancestor.true in
    sym (append-nil (labels_of c.loop-at.list.items)) ∙ (ap (λ ys. labels_of c.loop-at.list.items ++ ys) (sym (around_off f xs x at low t)) ∙ c.loop-at.invariant.listed)

pub returns-then-not-is_ancestor-clause-beyond : goal.returns-then-not-is_ancestor-clause-beyond
returns-then-not-is_ancestor-clause-beyond c =
    let f = c.args.doc.now.state.trees in
    let xs = c.args.above.now in
    let x = c.args.node.label in
    let at = c.loop-at.at in
    let low : at < length xs = c.loop-at-test.true in
    let t : is_ancestor f (get_or xs at nobody).label x ≡ false = sym c.is_ancestor.ensures ∙ c.if-not-is_ancestor.true in
    beyond_off f xs x at low t ∙ c.loop-at.invariant.left

pub returns-clause-around : goal.returns-clause-around
returns-clause-around c =
    let f = c.args.doc.now.state.trees in
    let xs = c.args.above.now in
    let x = c.args.node.label in
    sym (append-nil (labels_of c.loop-at.list.items))
    ∙ (ap (λ ys. labels_of c.loop-at.list.items ++ ys) (sym (around_end f xs x c.loop-at.at c.loop-at-test.false)) ∙ c.loop-at.invariant.listed)

pub returns-clause-beyond : goal.returns-clause-beyond
returns-clause-beyond c = beyond_end c.args.doc.now.state.trees c.args.above.now c.args.node.label c.loop-at.at c.loop-at-test.false ∙ c.loop-at.invariant.left
