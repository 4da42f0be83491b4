use Rattle.std.proofs.Common.{◌≡◌, ◌++◌, take}
use Rattle.std.specs.List.{flat_map}
use Rattle.packed_edits.specs.Packed.{attribute_bytes}
use Rattle.packed_edits.proofs.push_each_attribute.Given as goal

-- the attributes before this place are appended
abbrev pub invariant-loop-place : goal.invariant-loop-place
invariant-loop-place l = l.bytes.items ≡ l.initial.bytes.items ++ flat_map attribute_bytes (take l.place l.list)
