use Rattle.node_arena.specs.DomModel.Forest.{depth_of}
use Rattle.node_paths.proofs.+push_indexes.Given as goal

abbrev pub decreases-push_indexes : goal.decreases-push_indexes
decreases-push_indexes l = depth_of l.arena.now.trees l.node.label
