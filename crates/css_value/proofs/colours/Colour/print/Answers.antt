use Rattle.std.proofs.Common.{◌≡◌, ◌<◌, Some, ap, ◌∙◌, rules}
use Rattle.std.proofs.lemmas.Result.{IfOk-weaker}
use Rattle.css_value.specs.Colours.{colour_text, colour_of}
use Rattle.css_value.proofs.PrintedColours.{colour-read_back}
use Rattle.css_value.proofs.colours.Colour.print.Goals as goal

pub returns-clause-read_back : goal.returns-clause-read_back
unfolding colour_text
returns-clause-read_back c opaque =
    let colour = c.args.self in
    let bytes : c.as_bytes.result.now ≡ colour_text c.args.self = search rules in
    let red : colour.red < 256 = search rules in
    let green : colour.green < 256 = search rules in
    let blue : colour.blue < 256 = search rules in
    IfOk-weaker c.chars_of-2.result (λ text. text.items ≡ c.as_bytes.result.now) (λ text. colour_of text.items ≡ Some colour) (λ text is. ap colour_of (is ∙ bytes) ∙ colour-read_back colour red green blue opaque) c.chars_of-2.ensures
