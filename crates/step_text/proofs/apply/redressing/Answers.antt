use Rattle.std.proofs.Common.{◌≡◌, ℕ, false, subst, sym, ◌∙◌}
use Rattle.std.proofs.lemmas.Result.{err_from_is_err_and}
use Rattle.page_grammar.specs.DomModel.Contents.{has_name}
use Rattle.step_text.specs.declared.line.StepLine.TheVariants.{Tag}
use Rattle.step_text.specs.Applying.{labelled}
use Rattle.step_text.proofs.Fitting.{exit, tag_of_other, tag_step, tag_unfound}
use Rattle.step_text.proofs.apply.redressing.Goals as goal

pub returns-in_err-node : goal.returns-in_err-node
returns-in_err-node c =
    let a = c.args in
    let p = err_from_is_err_and c.from_residual.result c.from_residual.ensures.1 in
    exit (Tag a.label a.name a.attributes) a.arena.now c.from_residual.result p.0 p.1 (p.2 ∙ c.in_err-node.ensures.absent) (tag_unfound (labelled a.arena.now) a.label a.name a.attributes (sym c.in_err-node.ensures.there))

pub returns-then-not-is_named : goal.returns-then-not-is_named
returns-then-not-is_named c =
    let a = c.args in
    let off = subst (λ (k : ℕ). has_name a.arena.now.trees k a.name ≡ false) c.in_ok-node.ensures.found.0 (sym c.is_named.ensures ∙ c.if-not-is_named.true) in
    tag_of_other (labelled a.arena.now) a.label a.name a.attributes (sym c.in_ok-node.ensures.there) off

pub returns : goal.returns
returns c =
    let a = c.args in
    tag_step a.arena.now c.valid.ensures c.slotted.ensures a.label c.in_ok-node.node a.name a.attributes c.in_ok-node.ensures.found.0 c.in_ok-node.ensures.found.1 (sym c.in_ok-node.ensures.there) (sym c.is_named.ensures ∙ c.if-not-is_named.false) c.valid-2.ensures
