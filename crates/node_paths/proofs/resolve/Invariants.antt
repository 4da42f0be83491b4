use Rattle.std.proofs.Common.{◌≡◌, drop}
use Rattle.node_arena.specs.Held.{Holds}
use Rattle.node_paths.specs.Onward.{node_below}
use Rattle.node_paths.specs.Paths.{label_at}
use Rattle.node_paths.proofs.resolve.Given as goal

-- the rest of the path leads on from here
abbrev pub invariant-loop-index : goal.invariant-loop-index
invariant-loop-index l = record {
  held : Holds l.arena l.at;
  way : node_below l.arena.trees l.at.label (drop l.index-index l.path) ≡ label_at l.arena.trees l.path;
}
