use Rattle.std.proofs.Common.{◌∙◌, arith}
use Rattle.command_value.proofs.Shown.{heavy_on}
use Rattle.command_value.proofs.matching.is_bold_weight.Goals as goal

pub returns : goal.returns
returns c = c.is_heavy.ensures ∙ heavy_on c.args.weight (omega (arith, c.ranges.weight.fits))
