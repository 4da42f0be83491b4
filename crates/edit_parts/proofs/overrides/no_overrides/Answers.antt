use Rattle.std.proofs.Common.{◌≡◌, ap, ◌∙◌, arith}
use Rattle.std.specs.Prelude.{replicate}
use Rattle.edit_model.specs.declared.settings.Setting.TheVariants.{Absent}
use Rattle.edit_model.specs.Overrides.{no_overrides}
use Rattle.edit_parts.proofs.overrides.no_overrides.Goals as goal

pub returns : goal.returns
unfolding no_overrides
returns c = let n : c.loop.counter ≡ 32 = omega arith in c.loop.invariant ∙ ap (λ k. replicate k Absent) n
