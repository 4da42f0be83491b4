use Rattle.std.proofs.Common.{◌≡◌, Some, ap, ◌∙◌, rules}
use Rattle.std.proofs.lemmas.Result.{IfOk-weaker}
use Rattle.css_value.specs.Values.{pixels_text, font_size_of}
use Rattle.css_value.proofs.PrintedNumbers.{size-read_back}
use Rattle.css_value.proofs.value_text.print_font_size.Goals as goal

pub returns-clause-read_back : goal.returns-clause-read_back
unfolding pixels_text
returns-clause-read_back c h =
    let bytes : c.as_bytes.result.now ≡ pixels_text c.args.px = search rules in
    IfOk-weaker c.chars_of.result (λ text. text.items ≡ c.as_bytes.result.now) (λ text. font_size_of text.items ≡ Some c.args.px) (λ text is. ap font_size_of (is ∙ bytes) ∙ size-read_back c.args.px h) c.chars_of.ensures
