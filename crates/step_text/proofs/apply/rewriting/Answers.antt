use Rattle.std.proofs.Common.{◌≡◌, ℕ, false, subst, sym, ◌∙◌}
use Rattle.std.proofs.lemmas.Result.{err_from_is_err_and}
use Rattle.step_text.specs.Applying.{is_text_at}
use Rattle.step_text.specs.declared.line.StepLine.TheVariants.{Words}
use Rattle.step_text.specs.Applying.{labelled}
use Rattle.step_text.proofs.Fitting.{exit, words_of_other, words_step, words_unfound}
use Rattle.step_text.proofs.apply.rewriting.Goals as goal

pub returns-in_err-node : goal.returns-in_err-node
returns-in_err-node c =
    let a = c.args in
    let p = err_from_is_err_and c.from_residual.result c.from_residual.ensures.1 in
    exit (Words a.label a.words) a.arena.now c.from_residual.result p.0 p.1 (p.2 ∙ c.in_err-node.ensures.absent) (words_unfound (labelled a.arena.now) a.label a.words (sym c.in_err-node.ensures.there))

pub returns-then-not-is_text : goal.returns-then-not-is_text
returns-then-not-is_text c =
    let a = c.args in
    let off = subst (λ (k : ℕ). is_text_at a.arena.now.trees k ≡ false) c.in_ok-node.ensures.found.0 (sym c.is_text.ensures ∙ c.if-not-is_text.true) in
    words_of_other (labelled a.arena.now) a.label a.words (sym c.in_ok-node.ensures.there) off

pub returns : goal.returns
returns c =
    let a = c.args in
    words_step a.arena.now c.valid.ensures c.slotted.ensures a.label c.in_ok-node.node a.words c.in_ok-node.ensures.found.0 c.in_ok-node.ensures.found.1 (sym c.in_ok-node.ensures.there) (sym c.is_text.ensures ∙ c.if-not-is_text.false) c.requires
