use Rattle.std.proofs.Common.{◌≡◌, length, take, sym, ap, ◌∙◌, arith}
use Rattle.std.specs.Prelude.{replicate}
use Rattle.std.proofs.lemmas.List.{take_all}
use Rattle.edit_model.specs.declared.settings.Setting.TheVariants.{Absent}
use Rattle.edit_model.specs.Overrides.{no_overrides}
use Rattle.edit_parts.proofs.overrides.has_override.Goals as goal

pub returns : goal.returns
unfolding no_overrides
returns c = λ _.
    let n : c.loop-setting.setting-index ≡ 32 = omega arith in
    sym (take_all c.loop-setting.setting-index c.args.overrides.now (omega arith)) ∙ (c.loop-setting.invariant ∙ ap (λ k. replicate k Absent) n)
