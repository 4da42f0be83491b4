use Rattle.std.proofs.Common.{sym, ap, ◌∙◌}
use Rattle.edit_model.specs.NodeArena.Held.{label}
use Rattle.edit_doc.proofs.Asking.{so_none, so_some}
use Rattle.edit_doc.proofs.Doc.stands_so.Goals as goal

pub returns-in-None-None : goal.returns-in-None-None
returns-in-None-None c = sym (so_none c.args.self.now.state.trees c.args.node.label c.args.from.label c.args.parent.label c.args.before _ c.in-None-None.is-1 c.if-from-parent.true (sym c.next.ensures.is ∙ ap label c.in-None-None.is-0))

pub returns-in-Some-Some : goal.returns-in-Some-Some
returns-in-Some-Some c = sym (so_some c.args.self.now.state.trees c.args.node.label c.args.from.label c.args.parent.label c.args.before c.in-Some-Some.before _ c.in-Some-Some.is-1 c.if-from-parent.true (sym c.next.ensures.is ∙ ap label c.in-Some-Some.is-0))

pub returns-in_default : goal.returns-in_default
returns-in_default c = sym (so_some c.args.self.now.state.trees c.args.node.label c.args.from.label c.args.parent.label c.args.before c.in_default.field-0-1 _ c.in_default.is-1 c.if-from-parent.true (sym c.next.ensures.is ∙ ap label c.in_default.is-0))

pub returns-in_default-2 : goal.returns-in_default-2
returns-in_default-2 c = sym (so_none c.args.self.now.state.trees c.args.node.label c.args.from.label c.args.parent.label c.args.before _ c.in_default.is-1 c.if-from-parent.true (sym c.next.ensures.is ∙ ap label c.in_default.is-0))
