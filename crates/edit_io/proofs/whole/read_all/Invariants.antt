use Rattle.std.proofs.Common.{◌+◌, ◌<◌, ◌≤◌, ◌-◌, vec_len, length}
use Rattle.std.specs.Io.KnownBytes.{Consumes}
use Rattle.edit_io.proofs.Handed.{HasHanded}
use Rattle.edit_io.proofs.whole.read_all.Given as goal

abbrev pub invariant-loop-bytes : goal.invariant-loop-bytes
invariant-loop-bytes g l = record {
  some : 0 < length l.buffer;
  within : vec_len l.bytes ≤ l.limit;
  given : Consumes (g.I.Source.left l.initial.input) (g.I.Source.left l.input) l.bytes.items;
  counted : g.I.Source.faults l.initial.input ≤ g.I.Source.faults l.input;
  amount : HasHanded (g.I.Source.handed l.initial.input) (g.I.Source.handed l.input) (vec_len l.bytes);
  at_most : g.I.Source.handed l.input ≤ g.I.Source.handed l.initial.input + vec_len l.bytes;
}

abbrev pub decreases-loop-bytes : goal.decreases-loop-bytes
decreases-loop-bytes g l = l.limit - vec_len l.bytes
