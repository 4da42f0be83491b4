use Rattle.std.proofs.Common.{◌+◌, ◌<◌, sym, ap, subst, ◌∙◌, take}
use Rattle.step_edits.specs.ForestChanges.Named.{Each, named, named_in}
use Rattle.step_edits.specs.EditSteps.Step.{change_of, changes_of}
use Rattle.edit_doc.specs.Logged.{TellNamed}
use Rattle.edit_doc.proofs.StepNodes.{item_at, each_named_at, named_more}
use Rattle.edit_doc.proofs.logged.mark_named.Goals as goal

pub mark_step-requires : goal.mark_step-requires
mark_step-requires c =
    subst (λ n. Each (λ l. l < n) (named (change_of c.step-item.result))) (sym c.loop-step.invariant.0)
    (each_named_at (λ l. l < c.args.end) c.args.steps.now c.loop-step.step-index c.step-item.result (item_at c.args.steps.now c.loop-step.step-index c.step-item.result c.step-item.result c.loop-step-test.true c.step-item.is) c.requires.within)

pub loop-step-preserved : goal.loop-step-preserved
loop-step-preserved c =
    let marks = c.mark_step.new.marks.items in
    let ls = named_in (changes_of (take c.loop-step.step-index c.args.steps.now)) in
    let more = named_more c.args.steps.now c.loop-step.step-index c.step-item.result (item_at c.args.steps.now c.loop-step.step-index c.step-item.result c.step-item.result c.loop-step-test.true c.step-item.is) in (
      ap (λ n. n + c.args.first) c.mark_step.ensures.count ∙ c.loop-step.invariant.0,
      subst (λ ns. TellNamed c.args.first ns marks) (sym more) (c.mark_step.ensures.marked ls c.loop-step.invariant.1),
    )
