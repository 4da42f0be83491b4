use Rattle.std.proofs.Common.{◌≡◌, ◌-◌, ◌∙◌, ◌&&◌, length, take, sym, ap, rules, codes, bytes_eq}
use Rattle.std.specs.Prelude.{decimal}
use Rattle.css_value.proofs.Numerals.{pixels-parts}
use Rattle.css_value.proofs.printed.is_pixels.Goals as goal

pub returns-then-has_codes : goal.returns-then-has_codes
returns-then-has_codes c =
    let k = c.saturating_sub.result in
    let at : k ≡ length c.args.text.now - 2 = search rules in
    c.is_decimal.ensures
    ∙ ap (bytes_eq (decimal c.args.px)) c.split_at.ensures.front
    ∙ sym (
    pixels-parts c.args.px k c.args.text.now at
    ∙ ap (λ b. b && bytes_eq (decimal c.args.px) (take k c.args.text.now)) (ap (bytes_eq (codes "px")) (sym c.split_at.ensures.back) ∙ (sym c.has_codes.ensures ∙ c.if-has_codes.true)))

pub returns-else-has_codes : goal.returns-else-has_codes
returns-else-has_codes c =
    let k = c.saturating_sub.result in
    let at : k ≡ length c.args.text.now - 2 = search rules in
    c.if-has_codes.false
    ∙ sym (
    pixels-parts c.args.px k c.args.text.now at
    ∙ ap (λ b. b && bytes_eq (decimal c.args.px) (take k c.args.text.now)) (ap (bytes_eq (codes "px")) (sym c.split_at.ensures.back) ∙ (sym c.has_codes.ensures ∙ c.if-has_codes.false)))
