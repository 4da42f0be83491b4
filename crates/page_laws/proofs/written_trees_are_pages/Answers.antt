use Rattle.page_laws.proofs.ReadBack.{written_tree}
use Rattle.page_laws.proofs.written_trees_are_pages.Goals as goal

pub returns : goal.returns
returns c = written_tree
