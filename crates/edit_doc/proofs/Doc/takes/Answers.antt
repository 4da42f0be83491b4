use Rattle.std.proofs.Common.{sym, ◌∙◌}
use Rattle.edit_doc.proofs.Placing.{takes_so, within_told}
use Rattle.edit_doc.proofs.SeenNodes.{within_seen}
use Rattle.edit_doc.proofs.Doc.takes.Goals as goal
use Rattle.edit_doc.proofs.Doc.takes.Goals.{then-is_parent, else-is_parent}

pub returns-then-is_place : goal.returns-then-is_place
returns-then-is_place c = elim c.if-is_parent.branch [
  | then-is_parent w ↦ takes_so _ _ _ c.is_within.result (sym c.is_parent.ensures ∙ w.if-is_parent.true) (sym w.is_place.ensures ∙ (sym w.value-is ∙ c.if-is_place.true))
      (within_told c.nodes.result.now.trees c.args.node.label c.args.parent.label c.is_within.result c.is_within.ensures ∙ sym (within_seen c.nodes.ensures c.args.node c.requires.node_held c.args.parent.label))
  | else-is_parent w ↦ absurd (cc)
]
