use Rattle.std.proofs.Common.{◌≡◌, ◌++◌, drop, ap, ◌∙◌, arith}
use Rattle.std.specs.Prelude.{replicate, slice_set}
use Rattle.edit_model.specs.declared.settings.Setting.TheVariants.{Absent}
use Rattle.edit_model.specs.Overrides.{no_overrides}
use Rattle.edit_parts.proofs.Settings.{set_next, all_set}
use Rattle.edit_parts.proofs.overrides.unset_overrides.Goals as goal

pub loop-i-preserved : goal.loop-i-preserved
loop-i-preserved c = ap (λ xs. slice_set xs c.loop-i.i Absent) c.loop-i.invariant ∙ set_next Absent c.loop-i.i c.args.overrides.now (omega arith)

pub returns : goal.returns
unfolding no_overrides
returns c =
    let n : c.loop-i.i ≡ 32 = omega arith in
    c.loop-i.invariant ∙ (ap (λ k. replicate k Absent ++ drop k c.args.overrides.now) n ∙ all_set Absent 32 c.args.overrides.now c.requires)
