use Rattle.std.proofs.Common.{sym, ◌∙◌}
use Rattle.edit_model.specs.Gives.{label_of}
use Rattle.edit_doc.proofs.Asking.{taken, insert_zero, insert_child, insert_loose}
use Rattle.edit_doc.proofs.Placing.{and_first, and_none}
use Rattle.edit_doc.proofs.Doc.may_insert.Goals as goal

pub returns-then-node-eq0 : goal.returns-then-node-eq0
returns-then-node-eq0 c = sym (insert_zero c.args.self.now c.args.parent.label (label_of c.args.before) c.args.node c.requires.node_held c.if-node-eq0.true)

pub returns-in-Some : goal.returns-in-Some
returns-in-Some c = sym (insert_child c.args.self.now c.args.parent.label (label_of c.args.before) c.args.node c.requires.node_held _ (sym c.in-Some.ensures.is))

pub returns-then-takes : goal.returns-then-takes
returns-then-takes c = c.is_open.ensures ∙ (and_first (taken c.args.self.now c.args.parent.label (label_of c.args.before) c.args.node.label) _ (sym c.takes.ensures ∙ c.if-takes.true) ∙ sym (insert_loose c.args.self.now c.args.parent.label (label_of c.args.before) c.args.node c.requires.node_held c.if-node-eq0.false (sym c.in-None.ensures.is)))

pub returns-else-takes : goal.returns-else-takes
returns-else-takes c = c.takes.ensures ∙ (and_none (taken c.args.self.now c.args.parent.label (label_of c.args.before) c.args.node.label) _ (sym c.takes.ensures ∙ c.if-takes.false) ∙ sym (insert_loose c.args.self.now c.args.parent.label (label_of c.args.before) c.args.node c.requires.node_held c.if-node-eq0.false (sym c.in-None.ensures.is)))
