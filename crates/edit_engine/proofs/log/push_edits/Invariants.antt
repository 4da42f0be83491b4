use Rattle.std.proofs.Common.{◌++◌}
use Rattle.std.specs.List.{flat_map}
use Rattle.std.specs.Vec.Iter.{into_iter_items, into_iter_len}
use Rattle.edit_engine.proofs.Logging.{edit_text, Written}
use Rattle.edit_engine.proofs.log.push_edits.Given as goal

abbrev pub invariant-loop-edit : goal.invariant-loop-edit
invariant-loop-edit l =
    let at = l.edit-iterator in
    Written edit_text l.bytes.items (into_iter_len at) (into_iter_items at) (l.initial.bytes.items ++ flat_map edit_text (into_iter_items l.initial.edit-iterator))
