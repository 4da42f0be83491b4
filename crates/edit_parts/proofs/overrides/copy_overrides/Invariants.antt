use Rattle.std.proofs.Common.{◌≡◌, ℕ, take}
use Rattle.edit_parts.proofs.overrides.copy_overrides.Given as goal

abbrev pub invariant-loop-setting : goal.invariant-loop-setting
invariant-loop-setting l = l.list.items ≡ take l.setting-index l.overrides
