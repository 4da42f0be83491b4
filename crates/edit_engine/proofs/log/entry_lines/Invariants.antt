use Rattle.std.proofs.Common.{◌++◌}
use Rattle.std.specs.List.{flat_map}
use Rattle.std.specs.Vec.Iter.{into_iter_items, into_iter_len}
use Rattle.edit_engine.proofs.Logging.{entry_text, Written}
use Rattle.edit_engine.proofs.log.entry_lines.Given as goal

abbrev pub invariant-loop-entry : goal.invariant-loop-entry
invariant-loop-entry l =
    let at = l.entry-iterator in
    Written entry_text l.bytes.items (into_iter_len at) (into_iter_items at) (l.initial.bytes.items ++ flat_map entry_text (into_iter_items l.initial.entry-iterator))
