use Rattle.std.proofs.Common.{sym, ◌∙◌, arith}
use Rattle.edit_doc.proofs.Lessened.{chars_outside, count_within, chars_inside, chars_fit}
use Rattle.edit_doc.proofs.numbers.chars_replaced.Goals as goal

pub returns-then-not-is_in_document : goal.returns-then-not-is_in_document
returns-then-not-is_in_document c =
    let a = c.args in
    c.requires.is ∙ sym (chars_outside a.arena.now c.valid.ensures a.node.label a.at a.count a.put.now c.requires.may (sym c.is_in_document.ensures ∙ c.if-not-is_in_document.true))

pub overflow_sub-result : goal.overflow_sub-result
overflow_sub-result c =
    let a = c.args in
    let w = count_within a.arena.now c.valid.ensures a.node.label a.at a.count a.put.now c.requires.may (sym c.is_in_document.ensures ∙ c.if-not-is_in_document.false) in
    let is = c.requires.is in
    omega (arith, w, is)

pub overflow_add-result : goal.overflow_add-result
overflow_add-result c =
    let a = c.args in
    let w = chars_fit a.arena.now c.valid.ensures a.node.label a.at a.count a.put.now c.requires.may (sym c.is_in_document.ensures ∙ c.if-not-is_in_document.false) in
    let is = c.requires.is in
    omega (arith, w, is)

pub returns : goal.returns
returns c =
    let a = c.args in
    let w = chars_inside a.arena.now c.valid.ensures a.node.label a.at a.count a.put.now c.requires.may (sym c.is_in_document.ensures ∙ c.if-not-is_in_document.false) in
    let is = c.requires.is in
    omega (arith, w, is)
