use Rattle.std.proofs.Common.{◌≡◌, Some, ap, ◌∙◌, rules}
use Rattle.std.specs.Fmt.{decimal}
use Rattle.std.proofs.lemmas.Result.{IfOk-weaker}
use Rattle.css_value.specs.Values.{font_weight_of}
use Rattle.css_value.proofs.PrintedNumbers.{weight-read_back}
use Rattle.css_value.proofs.value_text.print_font_weight.Goals as goal

pub returns-clause-read_back : goal.returns-clause-read_back
returns-clause-read_back c h =
    let bytes : c.as_bytes.result.now ≡ decimal c.args.weight = search rules in
    IfOk-weaker c.chars_of.result (λ text. text.items ≡ c.as_bytes.result.now) (λ text. font_weight_of text.items ≡ Some c.args.weight) (λ text is. ap font_weight_of (is ∙ bytes) ∙ weight-read_back c.args.weight h) c.chars_of.ensures
