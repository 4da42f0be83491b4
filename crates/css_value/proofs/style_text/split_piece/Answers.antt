use Rattle.std.proofs.Common.{◌+◌, take, drop, sym, ap, ◌∙◌, arith}
use Rattle.std.specs.List.{cons_option}
use Rattle.std.proofs.lemmas.List.{take_rest}
use Rattle.css_value.specs.StyleText as spec
use Rattle.css_value.proofs.PieceLengths.{stated-cut, stated-whole}
use Rattle.css_value.proofs.style_text.split_piece.Goals as goal

pub returns-then-end-text-clause-stated : goal.returns-then-end-text-clause-stated
returns-then-end-text-clause-stated c =
    let text = c.args.text.now in
    let end = c.piece_len-end.result in
    stated-cut text (take end text) (drop (end + 1) text) (c.piece_len-end.ensures.cut (omega arith))
    ∙ ap (λ rest. cons_option (spec.declaration_of (take end text)) (spec.stated rest)) (sym (take_rest text (end + 1)))

pub returns-else-end-text-clause-stated : goal.returns-else-end-text-clause-stated
returns-else-end-text-clause-stated c =
    stated-whole c.args.text.now c.args.text.now (c.piece_len-end.ensures.whole (omega arith))
