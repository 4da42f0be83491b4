use Rattle.page_grammar.proofs.Labels.{labels_drawn, labels_reach}
use Rattle.page_grammar.proofs.labels_in_tree_order.Goals as goal

pub returns : goal.returns
returns _ = record { drawn = labels_drawn; reached = labels_reach }
