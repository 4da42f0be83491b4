use Rattle.std.proofs.Common.{◌≡◌, true, [], ◌∷◌, None, Ok, sym, subst}
use Rattle.edit_model.specs.Action.{stepped_all}
use Rattle.edit_model.specs.State.{State}
use Rattle.edit_model.specs.Edit.{Insert, is_made_edit}
use Rattle.edit_model.specs.Possible.{freed}
use Rattle.edit_model.specs.Tail.{carried}
use Rattle.edit_doc.specs.Extracting.{TellsIndex}
use Rattle.edit_doc.proofs.Carried.{tells_next}
use Rattle.edit_doc.proofs.Tails.{carried_possible, carried_child, carry_steps, exit_steps, memory_fails}
use Rattle.edit_doc.proofs.Doc.carry.Goals as goal

pub returns-in_default-clause-steps : goal.returns-in_default-clause-steps
returns-in_default-clause-steps c =
    let a = c.args in
    absurd (carried_child a.target.label a.node.label a.self.now.state c.requires.possible (sym c.in_default.ensures.is))

pub unlink-requires-clause-possible : goal.unlink-requires-clause-possible
unlink-requires-clause-possible c = (carried_possible c.args.target.label c.args.node.label c.args.self.now.state c.requires.possible).0

pub link-requires-clause-possible : goal.link-requires-clause-possible
link-requires-clause-possible c =
    let a = c.args in
    subst (λ (t : State). is_made_edit (Insert a.target.label None a.node.label) (freed t) ≡ true) (sym c.in_ok-unlink.ensures.unlinked) (carried_possible a.target.label a.node.label a.self.now.state c.requires.possible).1

pub returns-in_err-link-clause-steps : goal.returns-in_err-link-clause-steps
returns-in_err-link-clause-steps c =
    let a = c.args in
    exit_steps c.from_residual-in_err-link.result c.in_err-link.field-0.0 a.self.now.state c.link.new.self.state _ c.from_residual-in_err-link.ensures.1
    (memory_fails c.in_err-link.field-0.0 (stepped_all (carried a.target.label (a.node.label ∷ [])) a.self.now.state) c.in_err-link.ensures.fault)

pub returns-clause-steps : goal.returns-clause-steps
returns-clause-steps c =
    let a = c.args in
    carry_steps (Ok tt) a.self.now.state c.unlink.new.self.state c.link.new.self.state a.target.label a.node.label c.in_ok-unlink.ensures.unlinked c.in_ok-link.ensures.linked tt

pub returns-clause-known : goal.returns-clause-known
returns-clause-known c =
    let a = c.args in
    let may = subst (λ (t : State). is_made_edit (Insert a.target.label None a.node.label) (freed t) ≡ true) (sym c.in_ok-unlink.ensures.unlinked) (carried_possible a.target.label a.node.label a.self.now.state c.requires.possible).1 in
    subst (TellsIndex c.link.new.self.state.trees) (sym c.place_of.ensures)
    (tells_next a.self.now.state c.unlink.new.self.state c.link.new.self.state a.target.label a.node.label c.next-next.result c.index_from-index.result c.valid.ensures.valid.forest.distinct c.in_ok-unlink.ensures.unlinked c.in_ok-link.ensures.linked may c.next-next.ensures.is c.index_from-index.ensures)
