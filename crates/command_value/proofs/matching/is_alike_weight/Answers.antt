use Rattle.std.proofs.Common.{◌∙◌, ◌||◌, ap, sym, arith}
use Rattle.command_value.specs.Lines.{is_named_weight}
use Rattle.command_value.proofs.Shown.{weight_alike}
use Rattle.command_value.proofs.matching.is_alike_weight.Goals as goal

pub returns-then-is_decimal : goal.returns-then-is_decimal
returns-then-is_decimal c =
    c.if-is_decimal.true
    ∙ sym (weight_alike c.args.weight c.args.text.now (omega (arith, c.ranges.weight.fits)) ∙ ap (λ b. b || is_named_weight c.args.weight c.args.text.now) (sym c.is_decimal.ensures ∙ c.if-is_decimal.true))

pub returns-else-is_decimal : goal.returns-else-is_decimal
returns-else-is_decimal c =
    c.is_named_weight.ensures
    ∙ sym (weight_alike c.args.weight c.args.text.now (omega (arith, c.ranges.weight.fits)) ∙ ap (λ b. b || is_named_weight c.args.weight c.args.text.now) (sym c.is_decimal.ensures ∙ c.if-is_decimal.false))
