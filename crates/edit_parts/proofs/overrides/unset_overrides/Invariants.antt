use Rattle.std.proofs.Common.{◌≡◌, ◌++◌, drop}
use Rattle.std.specs.Prelude.{replicate}
use Rattle.edit_model.specs.declared.settings.Setting.TheVariants.{Absent}
use Rattle.edit_parts.proofs.overrides.unset_overrides.Given as goal

abbrev pub invariant-loop-i : goal.invariant-loop-i
invariant-loop-i l = l.overrides ≡ replicate l.i Absent ++ drop l.i l.initial.overrides
