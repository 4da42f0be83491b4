use Rattle.page_grammar.proofs.OneTree.{one_tree_bytes}
use Rattle.page_grammar.proofs.one_tree.Goals as goal

pub returns : goal.returns
returns _ = one_tree_bytes
