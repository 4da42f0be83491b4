use Rattle.std.proofs.Common.{refl, sym, ◌∙◌}
use Rattle.edit_model.specs.Edit.{Remove}
use Rattle.edit_model.proofs.Giving.{gives_left}
use Rattle.edit_doc.proofs.Edited.{gives_applied}
use Rattle.edit_doc.proofs.Freely.{freed_edit}
use Rattle.edit_doc.proofs.Removed.{not_remove_root, not_remove_here, may_remove_here}
use Rattle.edit_doc.proofs.Doc.remove.Goals as goal

pub returns-in_default-clause-gives : goal.returns-in_default-clause-gives
returns-in_default-clause-gives c =
    let a = c.args in
    gives_left (Remove a.node.label) a.self.now.state a.self.now.state (not_remove_root a.self.now.state a.node.label (sym c.in_default.ensures.is)) refl

pub returns-then-not-may_leave-clause-gives : goal.returns-then-not-may_leave-clause-gives
returns-then-not-may_leave-clause-gives c =
    let a = c.args in
    gives_left (Remove a.node.label) a.self.now.state a.self.now.state (not_remove_here a.self.now.state a.node.label c.in-Some.parent.label (sym c.in-Some.ensures.is) (sym c.may_leave.ensures ∙ c.if-not-may_leave.true)) refl

pub unlink-requires-clause-possible : goal.unlink-requires-clause-possible
unlink-requires-clause-possible c =
    let a = c.args in
    freed_edit (Remove a.node.label) a.self.now.state (may_remove_here a.self.now.state a.node.label c.in-Some.parent.label (sym c.in-Some.ensures.is) (sym c.may_leave.ensures ∙ c.if-not-may_leave.false))

pub returns-clause-gives : goal.returns-clause-gives
returns-clause-gives c =
    let a = c.args in
    gives_applied (Remove a.node.label) a.self.now.state c.unlink.new.self.state (may_remove_here a.self.now.state a.node.label c.in-Some.parent.label (sym c.in-Some.ensures.is) (sym c.may_leave.ensures ∙ c.if-not-may_leave.false)) c.in_ok-unlink.ensures.unlinked
