use Rattle.std.proofs.Common.{sym, ◌∙◌, arith}
use Rattle.edit_model.specs.DomModel.Contents.{words_length}
use Rattle.edit_doc.proofs.Lessened.{less_inside, less_outside}
use Rattle.edit_doc.proofs.numbers.counts_without.Goals as goal

pub returns-then-not-is_in_document-clause-nodes : goal.returns-then-not-is_in_document-clause-nodes
returns-then-not-is_in_document-clause-nodes c =
    let a = c.args in
    c.requires.nodes ∙ sym (less_outside a.arena.now c.valid.ensures a.node.label a.parent.label c.requires.child (λ _ _. 1) (sym c.is_in_document.ensures ∙ c.if-not-is_in_document.true))

pub returns-then-not-is_in_document-clause-chars : goal.returns-then-not-is_in_document-clause-chars
returns-then-not-is_in_document-clause-chars c =
    let a = c.args in
    c.requires.chars ∙ sym (less_outside a.arena.now c.valid.ensures a.node.label a.parent.label c.requires.child (λ _ d. words_length d) (sym c.is_in_document.ensures ∙ c.if-not-is_in_document.true))

pub overflow_sub-result : goal.overflow_sub-result
overflow_sub-result c =
    let a = c.args in
    let w = less_inside a.arena.now c.valid.ensures a.node.label a.parent.label c.requires.child (λ _ _. 1) (sym c.is_in_document.ensures ∙ c.if-not-is_in_document.false) in
    let n = c.tree_counts-less.ensures.nodes in
    let is = c.requires.nodes in
    omega (arith, w, n, is)

pub overflow_sub-result-2 : goal.overflow_sub-result-2
overflow_sub-result-2 c =
    let a = c.args in
    let w = less_inside a.arena.now c.valid.ensures a.node.label a.parent.label c.requires.child (λ _ d. words_length d) (sym c.is_in_document.ensures ∙ c.if-not-is_in_document.false) in
    let n = c.tree_counts-less.ensures.chars in
    let is = c.requires.chars in
    omega (arith, w, n, is)

pub returns-clause-nodes : goal.returns-clause-nodes
returns-clause-nodes c =
    let a = c.args in
    let w = less_inside a.arena.now c.valid.ensures a.node.label a.parent.label c.requires.child (λ _ _. 1) (sym c.is_in_document.ensures ∙ c.if-not-is_in_document.false) in
    let n = c.tree_counts-less.ensures.nodes in
    let is = c.requires.nodes in
    omega (arith, w, n, is)

pub returns-clause-chars : goal.returns-clause-chars
returns-clause-chars c =
    let a = c.args in
    let w = less_inside a.arena.now c.valid.ensures a.node.label a.parent.label c.requires.child (λ _ d. words_length d) (sym c.is_in_document.ensures ∙ c.if-not-is_in_document.false) in
    let n = c.tree_counts-less.ensures.chars in
    let is = c.requires.chars in
    omega (arith, w, n, is)
