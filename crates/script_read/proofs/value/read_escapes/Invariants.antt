use Rattle.std.proofs.Common.{chars, IsUtf8}
use Rattle.std.specs.Str.Iter.{chars_rest}
use Rattle.script_read.specs.declared.value.Escape.TheVariants.{Outside}
use Rattle.script_read.specs.Reading.{Fits, value_from}
use Rattle.script_read.proofs.Values.{Follows}
use Rattle.script_read.proofs.value.read_escapes.Given as goal

abbrev pub invariant-loop-c : goal.invariant-loop-c
invariant-loop-c l =
    Fits l.state
    × IsUtf8 (chars_rest l.c-iterator)
    × Follows l.printed l.value.items l.state (chars (chars_rest l.c-iterator)) (value_from l.printed Outside (chars l.text))
