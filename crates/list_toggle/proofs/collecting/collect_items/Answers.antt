use Rattle.std.proofs.Common.{◌≡◌, true, false, sym, ◌∙◌, arith, drop, length-drop}
use Rattle.edit_model.specs.Gives.{labels_of}
use Rattle.inline_value.proofs.EditDoc.Chosen.{keeps_both}
use Rattle.inline_value.proofs.EditQuery.Lists.{tail_is}
use Rattle.list_toggle.specs.Collecting.{goes_on, collect_items}
use Rattle.list_toggle.proofs.Exits.{exit_as}
use Rattle.list_toggle.proofs.Turns.{goes_on_some, turn_ends, turn_answers, collect_fails, stop_ends, stop_answers, end_ends, end_answers}
use Rattle.list_toggle.proofs.collecting.collect_items.Goals as goal
use Rattle.list_toggle.proofs.collecting.collect_items.Goals.{then-loop-left-test+else-goes_on, else-loop-left-test}

pub collect_next-requires-clause-some : goal.collect_next-requires-clause-some
collect_next-requires-clause-some c =
    goes_on_some c.loop-left.doc.state (labels_of c.deref.result.now) _ (sym c.goes_on.ensures ∙ c.if-goes_on.true)

pub returns-in_err-at-clause-gives : goal.returns-in_err-at-clause-gives
returns-in_err-at-clause-gives c =
    let xs = c.args.list.now in
    let items = c.loop-left.items.items in
    let tail = tail_is xs c.loop-left.at in
    let on : goes_on c.loop-left.doc.state (labels_of items, labels_of (drop c.loop-left.at xs)) ≡ true = rw (tail, c.deref.ensures.value) at (sym c.goes_on.ensures ∙ c.if-goes_on.true) in
    let fails = rw tail at c.in_err-at.ensures.gives in
    exit_as (λ found. (labels_of found.0.items, labels_of (drop found.1 xs))) c.from_residual.result c.in_err-at.field-0.0 c.args.doc.now.state c.collect_next.new.doc.state (collect_items (labels_of xs)) c.from_residual.ensures.1
    (collect_fails xs c.loop-left.left c.loop-left.at items c.loop-left.doc.state c.loop-left-test.true on c.in_err-at.field-0.0 c.args.doc.now.state c.loop-left.invariant.ends fails)

pub loop-left-preserved : goal.loop-left-preserved
loop-left-preserved c =
    let xs = c.args.list.now in
    let items = c.loop-left.items.items in
    let more = c.collect_next.new.items.items in
    let i = c.loop-left.invariant in
    let s = c.loop-left.doc.state in
    let t = c.collect_next.new.doc.state in
    let tail = tail_is xs c.loop-left.at in
    let on : goes_on s (labels_of items, labels_of (drop c.loop-left.at xs)) ≡ true = rw (tail, c.deref.ensures.value) at (sym c.goes_on.ensures ∙ c.if-goes_on.true) in
    let given = c.in_ok-at.ensures in
    let ends = rw tail at given.gives.0 in
    let answers = rw tail at given.gives.1 in
    let few = rw tail at given.within in
    let within = i.within in
    record {
      ends = turn_ends xs c.loop-left.left c.loop-left.at items s c.loop-left-test.true on more c.in_ok-at.field-0 t ends answers ∙ i.ends;
      answers = turn_answers xs c.loop-left.left c.loop-left.at items s c.loop-left-test.true on more c.in_ok-at.field-0 t ends answers ∙ i.answers;
      within = omega (arith, few, within, length-drop c.loop-left.at xs);
      held = given.held;
      keeps = keeps_both c.args.doc.now c.loop-left.doc c.collect_next.new.doc i.keeps given.keeps;
    }

pub returns-clause-gives : goal.returns-clause-gives
returns-clause-gives c =
    let xs = c.args.list.now in
    let items = c.loop-left.items.items in
    let i = c.loop-left.invariant in
    let s = c.loop-left.doc.state in
    let first = c.args.doc.now.state in
    let tail = tail_is xs c.loop-left.at in
    elim c.loop-left-test.branch [
      | then-loop-left-test+else-goes_on w ↦
          let off : goes_on s (labels_of items, labels_of (drop c.loop-left.at xs)) ≡ false = rw (tail, w.deref.ensures.value) at (sym w.goes_on.ensures ∙ w.if-goes_on.false) in
          (stop_ends xs c.loop-left.left c.loop-left.at items s first off i.ends, stop_answers xs c.loop-left.left c.loop-left.at items s first off i.answers)
      | else-loop-left-test w ↦
          (end_ends xs c.loop-left.left c.loop-left.at items s first w.loop-left-test.false i.ends, end_answers xs c.loop-left.left c.loop-left.at items s first w.loop-left-test.false i.answers)
    ]
