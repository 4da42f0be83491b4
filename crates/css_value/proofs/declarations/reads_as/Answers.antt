use Rattle.std.proofs.Common.{sym, ap, ◌∙◌, ◌&&◌, drop, take, ◌+◌, arith, bytes_eq}
use Rattle.css_value.specs.StyleText as spec
use Rattle.css_value.proofs.Printing.{back-cut, back-none, back-some}
use Rattle.css_value.proofs.declarations.reads_as.Goals as goal

pub returns-then-piece_len-text : goal.returns-then-piece_len-text
returns-then-piece_len-text c =
    sym (back-cut c.args.text.now (record { name = c.args.name.now; value = c.args.value.now }) (take c.piece_len.result c.args.text.now) (drop (c.piece_len.result + 1) c.args.text.now) c.requires (c.piece_len.ensures.cut (omega arith)))

pub returns-in-None : goal.returns-in-None
returns-in-None c = sym (back-none c.args.text.now (record { name = c.args.name.now; value = c.args.value.now }) c.requires c.in-None.ensures)

pub returns-then-is_named : goal.returns-then-is_named
returns-then-is_named c =
    let e : spec.Declaration = record { name = spec.lowered c.in-Some.found.name.now; value = c.in-Some.found.value.now } in
    let d : spec.Declaration = record { name = c.args.name.now; value = c.args.value.now } in
    c.eq.ensures
    ∙ ap (λ b. b && bytes_eq e.value d.value) (sym c.if-is_named.true ∙ c.is_named.ensures)
    ∙ sym (back-some c.args.text.now d e c.requires (c.piece_len.ensures.whole (omega arith)) c.in-Some.ensures)

pub returns-else-is_named : goal.returns-else-is_named
returns-else-is_named c =
    let e : spec.Declaration = record { name = spec.lowered c.in-Some.found.name.now; value = c.in-Some.found.value.now } in
    let d : spec.Declaration = record { name = c.args.name.now; value = c.args.value.now } in
    c.if-is_named.false
    ∙ ap (λ b. b && bytes_eq e.value d.value) (sym c.if-is_named.false ∙ c.is_named.ensures)
    ∙ sym (back-some c.args.text.now d e c.requires (c.piece_len.ensures.whole (omega arith)) c.in-Some.ensures)
