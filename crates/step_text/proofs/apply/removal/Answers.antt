use Rattle.std.proofs.Common.{◌≡◌, ℕ, false, subst, sym, ◌∙◌}
use Rattle.std.proofs.lemmas.Result.{err_from_is_err_and}
use Rattle.std.specs.Prelude.{is_some}
use Rattle.page_grammar.specs.DomModel.Forest.{parent_of}
use Rattle.step_text.specs.declared.line.StepLine.TheVariants.{Remove}
use Rattle.step_text.specs.Applying.{labelled}
use Rattle.step_text.proofs.Fitting.{exit, remove_loose, remove_step, remove_unfound}
use Rattle.step_text.proofs.apply.removal.Goals as goal

pub returns-in_err-node : goal.returns-in_err-node
returns-in_err-node c =
    let a = c.args in
    let p = err_from_is_err_and c.from_residual.result c.from_residual.ensures.1 in
    exit (Remove a.label) a.arena.now c.from_residual.result p.0 p.1 (p.2 ∙ c.in_err-node.ensures.absent) (remove_unfound (labelled a.arena.now) a.label (sym c.in_err-node.ensures.there))

pub returns-then-not-has_parent : goal.returns-then-not-has_parent
returns-then-not-has_parent c =
    let a = c.args in
    let off = subst (λ (k : ℕ). is_some (parent_of a.arena.now.trees k) ≡ false) c.in_ok-node.ensures.found.0 (sym c.has_parent.ensures ∙ c.if-not-has_parent.true) in
    remove_loose (labelled a.arena.now) a.label (sym c.in_ok-node.ensures.there) off

pub returns : goal.returns
returns c =
    let a = c.args in
    remove_step a.arena.now c.valid.ensures c.slotted.ensures a.label c.in_ok-node.node c.in_ok-node.ensures.found.0 c.in_ok-node.ensures.found.1 (sym c.in_ok-node.ensures.there) (sym c.has_parent.ensures ∙ c.if-not-has_parent.false)
