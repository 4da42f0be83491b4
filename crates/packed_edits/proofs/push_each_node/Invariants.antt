use Rattle.std.proofs.Common.{◌≡◌, ◌++◌, take}
use Rattle.std.specs.List.{flat_map}
use Rattle.packed_edits.specs.Packed.{node_bytes}
use Rattle.packed_edits.proofs.push_each_node.Given as goal

-- the nodes so far are appended
abbrev pub invariant-loop-node : goal.invariant-loop-node
invariant-loop-node l = l.bytes.items ≡ l.initial.bytes.items ++ flat_map node_bytes (take l.node-index l.nodes)
