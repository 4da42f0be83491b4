use Rattle.std.proofs.Common.{sym, ap, ◌∙◌}
use Rattle.std.specs.Prelude.{not, ◌||◌}
use Rattle.edit_model.specs.PointOrder.PointOrder.{is_in_document}
use Rattle.edit_model.specs.Gives.{label_of}
use Rattle.edit_doc.proofs.Asking.{go_away, go_there, or_right}
use Rattle.edit_doc.proofs.Placing.{document_seen}
use Rattle.edit_doc.proofs.Doc.may_go.Goals as goal
use Rattle.edit_doc.proofs.Doc.may_go.Goals.{else-is_in_document-via-then-is_in_document+else-not-is_in_document, else-is_in_document-via-else-is_in_document}

pub returns-then-not-is_in_document : goal.returns-then-not-is_in_document
returns-then-not-is_in_document c = sym (go_away c.args.self.now c.args.node.label c.args.from.label c.args.parent.label (label_of c.args.before)
    (λ i. not ((document_seen c.nodes-arena.ensures c.args.node.label ∙ (sym c.is_in_document.ensures ∙ c.if-is_in_document.true)) i) || (document_seen c.nodes-arena.ensures c.args.parent.label ∙ (sym c.is_in_document-then-is_in_document.ensures ∙ c.if-not-is_in_document.true)) i))

pub returns : goal.returns
returns c = go_there c.args.self.now c.args.node.label c.args.from.label c.args.parent.label (label_of c.args.before) c.stands_so.result (sym c.is_open.ensures ∙ c.if-not-is_open.false) (sym c.is_open-2.ensures ∙ c.if-not-is_open-2.false) (sym c.takes.ensures ∙ c.if-not-takes.false)
    (elim c.else-is_in_document.branch [
      | else-is_in_document-via-then-is_in_document+else-not-is_in_document w ↦ or_right (not (is_in_document c.args.self.now.state.trees c.args.node.label)) _ (document_seen c.nodes-arena.ensures c.args.parent.label ∙ (sym w.is_in_document-then-is_in_document.ensures ∙ w.if-not-is_in_document.false))
      | else-is_in_document-via-else-is_in_document w ↦ ap (λ x. not x || is_in_document c.args.self.now.state.trees c.args.parent.label) (document_seen c.nodes-arena.ensures c.args.node.label ∙ (sym c.is_in_document.ensures ∙ w.if-is_in_document.false))
    ])
    c.stands_so.ensures
