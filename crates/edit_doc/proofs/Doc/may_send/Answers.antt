use Rattle.std.proofs.Common.{sym, ap, ◌∙◌, ◌+◌}
use Rattle.std.specs.Prelude.{not, nat_le}
use Rattle.edit_model.specs.Confined.{is_own}
use Rattle.edit_doc.proofs.Asking.{first_false, second_false, third_false, three_true}
use Rattle.edit_doc.proofs.Confining.{same_label, other_label}
use Rattle.edit_doc.proofs.Placing.{send_is}
use Rattle.edit_doc.proofs.Doc.may_send.Goals as goal

pub returns-then-not-is_own : goal.returns-then-not-is_own
returns-then-not-is_own c = sym (send_is c.nodes-arena.ensures c.args.node.label c.args.at c.args.tail.label ∙ first_false (is_own c.args.self.now.state c.args.node.label) _ (sym c.is_own.ensures ∙ c.if-not-is_own.true))

pub returns-then-not-is_in_document : goal.returns-then-not-is_in_document
returns-then-not-is_in_document c = sym (send_is c.nodes-arena.ensures c.args.node.label c.args.at c.args.tail.label ∙ second_false (is_own c.args.self.now.state c.args.node.label) _ _ (sym c.is_in_document.ensures ∙ c.if-not-is_in_document.true))

pub returns-then-node-tail : goal.returns-then-node-tail
returns-then-node-tail c = sym (send_is c.nodes-arena.ensures c.args.node.label c.args.at c.args.tail.label ∙ third_false (is_own c.args.self.now.state c.args.node.label) _ _ _ (ap not (same_label c.args.node.label c.args.tail.label c.if-node-tail.true)))

pub returns : goal.returns
returns c =
    (λ i. nat_le (c.length-length.ensures i) (c.args.at + c.length.ensures i))
    ∙ sym (send_is c.nodes-arena.ensures c.args.node.label c.args.at c.args.tail.label ∙ three_true _ _ _ _ (sym c.is_own.ensures ∙ c.if-not-is_own.false) (sym c.is_in_document.ensures ∙ c.if-not-is_in_document.false) (ap not (other_label c.args.node.label c.args.tail.label c.if-node-tail.false)))
