use Rattle.std.proofs.Common.{ap, ◌∙◌, arith, eqb, ◌++◌, ◌∷◌, []}
use Rattle.css_value.specs.DeclarationList.{gap, text_of, printed}
use Rattle.css_value.specs.DeclarationMap.{declarations_of}
use Rattle.css_value.proofs.Printing.{print-step, printed-end}
use Rattle.css_value.proofs.declarations.printed_list.Goals as goal

pub loop-i-preserved : goal.loop-i-preserved
loop-i-preserved c =
    let es = c.args.list.now.items in
    let i = c.loop-i.i in
    let text = c.loop-i.text.items in
    let key = c.pair_at.result.0.now in
    let value = c.pair_at.result.1.now in
    print-step es i (key, value) text c.push_declaration.new.text.items (printed (declarations_of es))
    c.pair_at.ensures
    (c.in_ok-push_declaration.ensures
    ∙ ap (λ n. text ++ (gap (eqb i 0) ++ (text_of (record { name = n; value = c.deref-in-loop-i.result.now }) ++ 59 ∷ []))) c.deref.ensures.value
    ∙ ap (λ v. text ++ (gap (eqb i 0) ++ (text_of (record { name = key.items; value = v }) ++ 59 ∷ []))) c.deref-in-loop-i.ensures.value)
    c.loop-i.invariant

pub returns : goal.returns
returns c =
    printed-end c.args.list.now.items c.loop-i.i c.loop-i.text.items (printed (declarations_of c.args.list.now.items)) (omega (arith, c.len-i-end.ensures)) c.loop-i.invariant
