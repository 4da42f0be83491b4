use Rattle.document_edits.proofs.Growing.{grown-flat}
use Rattle.document_edits.proofs.trees_grow.Goals as goal

pub returns : goal.returns
returns c = grown-flat
