use Rattle.edit_model.proofs.Steps.{first_label}
use Rattle.list_toggle.proofs.Turns.{next_ends, next_answers}
use Rattle.list_toggle.proofs.collecting.collect_next.Goals as goal

pub returns-clause-gives : goal.returns-clause-gives
returns-clause-gives c =
    let items = c.args.items.now.items in
    let more = c.push_made.new.items.items in
    let xs = c.args.list.now in
    let first = first_label xs c.requires.some in
    let s = c.args.doc.now.state in
    let t = c.make_item.new.doc.state in
    let gives = c.in_ok-item.ensures.gives in (
      next_ends items more xs _ s t c.in_ok-item.item c.in_ok-item.count first gives.0,
      next_answers items more xs _ s t c.in_ok-item.item c.in_ok-item.count first gives.1 c.in_ok-push_made.ensures.nodes,
    )
