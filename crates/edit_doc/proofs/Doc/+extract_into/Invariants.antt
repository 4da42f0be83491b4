use Rattle.edit_model.proofs.TailEnds.{size_at}
use Rattle.edit_doc.proofs.Doc.+extract_into.Given as goal

-- how many nodes the tree of `end` has
abbrev pub decreases-extract_into : goal.decreases-extract_into
decreases-extract_into l = size_at l.self.now.state.trees l.end.label
