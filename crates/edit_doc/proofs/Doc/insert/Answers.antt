use Rattle.std.proofs.Common.{refl, sym, ◌∙◌}
use Rattle.edit_model.specs.Edit.{Insert}
use Rattle.edit_model.specs.Gives.{label_of}
use Rattle.edit_model.proofs.Giving.{gives_left}
use Rattle.edit_doc.proofs.Edited.{gives_applied}
use Rattle.edit_doc.proofs.Freely.{freed_edit}
use Rattle.edit_doc.proofs.Inserting.{not_inserted, is_inserted}
use Rattle.edit_doc.proofs.Doc.insert.Goals as goal

pub returns-then-not-may_insert-clause-gives : goal.returns-then-not-may_insert-clause-gives
returns-then-not-may_insert-clause-gives c =
    let a = c.args in
    gives_left (Insert a.parent.label (label_of a.before) a.node.label) a.self.now.state a.self.now.state (not_inserted a.self.now.state a.parent.label (label_of a.before) a.node.label (sym c.may_insert.ensures ∙ c.if-not-may_insert.true)) refl

pub link-requires-clause-possible : goal.link-requires-clause-possible
link-requires-clause-possible c =
    let a = c.args in
    freed_edit (Insert a.parent.label (label_of a.before) a.node.label) a.self.now.state (is_inserted a.self.now.state a.parent.label (label_of a.before) a.node.label (sym c.may_insert.ensures ∙ c.if-not-may_insert.false))

pub returns-clause-gives : goal.returns-clause-gives
returns-clause-gives c =
    let a = c.args in
    gives_applied (Insert a.parent.label (label_of a.before) a.node.label) a.self.now.state c.link.new.self.state (is_inserted a.self.now.state a.parent.label (label_of a.before) a.node.label (sym c.may_insert.ensures ∙ c.if-not-may_insert.false)) c.in_ok-link.ensures.linked
