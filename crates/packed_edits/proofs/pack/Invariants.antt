use Rattle.std.proofs.Common.{◌≡◌, ◌++◌, take}
use Rattle.std.specs.List.{flat_map}
use Rattle.packed_edits.specs.Packed.{edit_bytes}
use Rattle.packed_edits.proofs.pack.Given as goal

-- the edits so far are packed
abbrev pub invariant-loop-edit : goal.invariant-loop-edit
invariant-loop-edit l = l.bytes.items ≡ flat_map edit_bytes (take l.edit-index l.edits)
