use Rattle.std.proofs.Common.{◌∙◌, sym, ap, arith}
use Rattle.css_value.proofs.Numerals.{printed-some, printed-none}
use Rattle.css_value.proofs.printed.is_decimal.Goals as goal

pub returns-in-Some : goal.returns-in-Some
returns-in-Some c =
    printed-some 65535 c.args.number_wanted c.in-Some.found c.args.text.now (omega arith) (omega arith) (omega arith) (ap (λ o. o) (sym c.in-Some.is ∙ c.number.ensures.number))

pub returns-in-None : goal.returns-in-None
returns-in-None c =
    printed-none 65535 c.args.number_wanted c.args.text.now (omega arith) (omega arith) (sym c.in-None.is ∙ c.number.ensures.number)
