use Rattle.std.proofs.Common.{◌++◌}
use Rattle.std.specs.List.{flat_map}
use Rattle.std.specs.Vec.Iter.{into_iter_items, into_iter_len}
use Rattle.edit_engine.proofs.Logging.{made_text, Written}
use Rattle.edit_engine.proofs.log.push_all_made.Given as goal

abbrev pub invariant-loop-node : goal.invariant-loop-node
invariant-loop-node l =
    let at = l.node-iterator in
    Written made_text l.bytes.items (into_iter_len at) (into_iter_items at) (l.initial.bytes.items ++ flat_map made_text (into_iter_items l.initial.node-iterator))
