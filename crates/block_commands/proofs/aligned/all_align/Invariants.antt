use Rattle.std.proofs.Common.{◌≡◌, drop}
use Rattle.std.specs.List.{list_all}
use Rattle.inline_value.specs.WrapSplit.Target.{aligns}
use Rattle.block_commands.proofs.aligned.all_align.Given as goal

abbrev pub invariant-loop-place : goal.invariant-loop-place
invariant-loop-place l = list_all (aligns l.alignment) (drop l.place l.attributes) ≡ list_all (aligns l.alignment) l.attributes
