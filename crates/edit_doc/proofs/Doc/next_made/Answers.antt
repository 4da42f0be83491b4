-- What reading the nodes that the commands of the entry made that redo would take needs and gives.
use Rattle.std.proofs.Common.{◌∙◌, arith}
use Rattle.std.proofs.lemmas.Result.{IfOk-weaker}
use Rattle.edit_doc.proofs.Inner.{closed_of}
use Rattle.edit_doc.proofs.Laid.{redo_count}
use Rattle.edit_doc.proofs.LoggedDocs.{some_of}
use Rattle.edit_doc.proofs.LoggedNext.{next_read}
use Rattle.edit_doc.proofs.Doc.next_made.Goals as goal

pub unwrap-steps-requires : goal.unwrap-steps-requires
unwrap-steps-requires c =
    let more = c.requires.more in
    some_of _ c.next_entry.result c.self.inside.history.log.redo c.next_entry.ensures (omega (arith, more, redo_count c.self.inside _ c.self.view_is c.self.invariant))

pub made_nodes-requires-clause-order : goal.made_nodes-requires-clause-order
made_nodes-requires-clause-order c =
    let d = c.self.inside in
    let closed = closed_of d _ c.self.view_is c.requires.closed in
    (next_read d _ c.self.view_is c.valid.ensures closed c.self.invariant c.next_entry.result c.unwrap-steps.result _ _
    c.next_entry.ensures c.unwrap-steps.ensures c.first_undone-first.ensures c.first_later-end.ensures).order

pub made_nodes-requires-clause-fresh : goal.made_nodes-requires-clause-fresh
made_nodes-requires-clause-fresh c =
    let d = c.self.inside in
    let closed = closed_of d _ c.self.view_is c.requires.closed in
    (next_read d _ c.self.view_is c.valid.ensures closed c.self.invariant c.next_entry.result c.unwrap-steps.result _ _
    c.next_entry.ensures c.unwrap-steps.ensures c.first_undone-first.ensures c.first_later-end.ensures).fresh

pub made_nodes-requires-clause-within : goal.made_nodes-requires-clause-within
made_nodes-requires-clause-within c =
    let d = c.self.inside in
    let closed = closed_of d _ c.self.view_is c.requires.closed in
    (next_read d _ c.self.view_is c.valid.ensures closed c.self.invariant c.next_entry.result c.unwrap-steps.result _ _
    c.next_entry.ensures c.unwrap-steps.ensures c.first_undone-first.ensures c.first_later-end.ensures).within

pub returns : goal.returns
returns c =
    let d = c.self.inside in
    let closed = closed_of d _ c.self.view_is c.requires.closed in
    let next = next_read d _ c.self.view_is c.valid.ensures closed c.self.invariant c.next_entry.result c.unwrap-steps.result _ _
    c.next_entry.ensures c.unwrap-steps.ensures c.first_undone-first.ensures c.first_later-end.ensures in
    IfOk-weaker c.made_nodes.result _ _ (λ nodes h. h ∙ next.made) c.made_nodes.ensures
