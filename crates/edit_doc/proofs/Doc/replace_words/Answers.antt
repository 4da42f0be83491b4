use Rattle.std.proofs.Common.{◌≡◌, ℕ, true, false, Option, Some, refl, sym, ap, subst, ◌∙◌, arith}
use Rattle.std.specs.Option.{is_some}
use Rattle.std.specs.Prelude.{IfSome}
use Rattle.step_edits.specs.EditSteps.declared.step.Step.{Step}
use Rattle.step_edits.specs.EditSteps.Step.{StepFits, step_applied, step_inverse}
use Rattle.edit_model.specs.Confined.{may_change}
use Rattle.edit_model.specs.Edit.{Replace}
use Rattle.edit_model.proofs.Giving.{gives_left}
use Rattle.edit_doc.specs.Counted.{IsCounted}
use Rattle.edit_doc.specs.Splicing.{splice_step}
use Rattle.edit_doc.specs.Trail.{with_note}
use Rattle.edit_doc.proofs.Edited.{Done}
use Rattle.edit_doc.proofs.Freely.{freed_edit}
use Rattle.edit_doc.proofs.Lessened.{changes}
use Rattle.edit_doc.proofs.Replaced.{not_own_replace, not_replace_here, may_replace_here, points_fit, fits, detached, trees, points_are, counted_replaced, replace_done}
use Rattle.edit_doc.proofs.Settling.{points_now, placed_called, settled_items}
use Rattle.edit_doc.proofs.ShortTexts.{short_chars}
use Rattle.edit_doc.proofs.Doc.replace_words.Goals as goal

pub returns-then-not-is_own-clause-gives : goal.returns-then-not-is_own-clause-gives
returns-then-not-is_own-clause-gives c =
    let a = c.args in
    gives_left (Replace a.node.label a.at a.count a.put.now) a.self.now.state a.self.now.state (not_own_replace a.self.now.state a.node.label a.at a.count a.put.now (sym c.is_own.ensures ∙ c.if-not-is_own.true)) refl

pub returns-in_default-clause-gives : goal.returns-in_default-clause-gives
returns-in_default-clause-gives c =
    let a = c.args in
    let off : may_change (Some c.content-content.result.now) a.at a.count a.put.now ≡ false = sym c.in_ok-step.ensures.changes ∙ ap is_some c.in_default.is in
    gives_left (Replace a.node.label a.at a.count a.put.now) a.self.now.state a.self.now.state
    (not_replace_here c.self.inside c.valid.ensures a.self.now c.self.view_is a.node c.requires.node_held a.at a.count a.put.now c.content-content.result.now c.content-content.ensures off) refl

pub watch-watch-requires : goal.watch-watch-requires
watch-watch-requires c = (points_now c.self.inside c.valid.ensures c.self.invariant).selection

pub overflow_cast-put : goal.overflow_cast-put
overflow_cast-put c =
    let a = c.args in
    let change : may_change (Some c.content-content.result.now) a.at a.count a.put.now ≡ true = sym c.in_ok-step.ensures.changes ∙ ap is_some c.in-Some.is in
    let t = changes (Some c.content-content.result.now) a.at a.count a.put.now change in
    let l = t.length_is in
    let s = t.short in
    omega (arith, l, s)

pub replaced-requires : goal.replaced-requires
replaced-requires c =
    let a = c.args in
    let change : may_change (Some c.content-content.result.now) a.at a.count a.put.now ≡ true = sym c.in_ok-step.ensures.changes ∙ ap is_some c.in-Some.is in
    points_fit c.self.inside c.valid.ensures a.self.now c.self.view_is a.node c.requires.node_held a.at a.count a.put.now c.content-content.result.now c.content-content.ensures c.self.invariant (sym c.is_own.ensures ∙ c.if-not-is_own.false) change

-- the step that is made
made_is : (o : Option Step) (x y : Step) → o ≡ Some x → IfSome o (λ s. s ≡ y) → x ≡ y
made_is o x y is same = subst (λ q. IfSome q (λ s. s ≡ y)) is same

pub splice_step-requires : goal.splice_step-requires
splice_step-requires c = short_chars c.self.inside.tree.nodes.arena c.valid.ensures c.args.node.label c.content-content.result.now c.content-content.ensures

pub change-requires-clause-fits : goal.change-requires-clause-fits
change-requires-clause-fits c =
    let a = c.args in
    let d = c.self.inside in
    let con = c.content-content.result.now in
    let own = sym c.is_own.ensures ∙ c.if-not-is_own.false in
    let change : may_change (Some con) a.at a.count a.put.now ≡ true = sym c.in_ok-step.ensures.changes ∙ ap is_some c.in-Some.is in
    let made = made_is _ c.in-Some.step (splice_step a.node a.at a.count a.put.now con) c.in-Some.is c.in_ok-step.ensures.step in
    subst (λ x. StepFits x d.tree.nodes.arena) (sym made)
    (fits d c.valid.ensures a.self.now c.self.view_is a.node c.requires.node_held a.at a.count a.put.now con c.content-content.ensures c.slotted.ensures c.requires.open c.self.invariant own change)

pub change-requires-clause-counted : goal.change-requires-clause-counted
change-requires-clause-counted c =
    let a = c.args in
    let d = c.self.inside in
    let con = c.content-content.result.now in
    let own = sym c.is_own.ensures ∙ c.if-not-is_own.false in
    let change : may_change (Some con) a.at a.count a.put.now ≡ true = sym c.in_ok-step.ensures.changes ∙ ap is_some c.in-Some.is in
    let made = made_is _ c.in-Some.step (splice_step a.node a.at a.count a.put.now con) c.in-Some.is c.in_ok-step.ensures.step in
    subst (λ x. IsCounted (step_applied x d.tree.nodes.arena).trees (record d.tree.nodes.counts { chars = c.chars_replaced-chars.result })) (sym made)
    (counted_replaced d c.valid.ensures a.self.now c.self.view_is a.node c.requires.node_held a.at a.count a.put.now con c.content-content.ensures c.slotted.ensures c.requires.open c.self.invariant own change c.chars_replaced-chars.result c.chars_replaced-chars.ensures)

pub unset_if_range_changed-requires : goal.unset_if_range_changed-requires
unset_if_range_changed-requires c =
    let a = c.args in
    let d = c.self.inside in
    let v = a.self.now in
    let con = c.content-content.result.now in
    let own = sym c.is_own.ensures ∙ c.if-not-is_own.false in
    let change : may_change (Some con) a.at a.count a.put.now ≡ true = sym c.in_ok-step.ensures.changes ∙ ap is_some c.in-Some.is in
    let made = made_is _ c.in-Some.step (splice_step a.node a.at a.count a.put.now con) c.in-Some.is c.in_ok-step.ensures.step in
    let x = fits d c.valid.ensures v c.self.view_is a.node c.requires.node_held a.at a.count a.put.now con c.content-content.ensures c.slotted.ensures c.requires.open c.self.invariant own change in
    let l = detached d c.valid.ensures v c.self.view_is a.node c.requires.node_held a.at a.count a.put.now con c.content-content.ensures c.slotted.ensures c.requires.open c.self.invariant own change in
    let t = trees d c.valid.ensures v c.self.view_is a.node c.requires.node_held a.at a.count a.put.now con c.content-content.ensures c.slotted.ensures c.requires.open c.self.invariant own change in
    let p = points_are d c.valid.ensures v c.self.view_is a.node c.requires.node_held a.at a.count a.put.now con c.content-content.ensures c.slotted.ensures c.requires.open c.self.invariant own change in
    let may = freed_edit (Replace a.node.label a.at a.count a.put.now) v.state (may_replace_here d c.valid.ensures v c.self.view_is a.node c.requires.node_held a.at a.count a.put.now con c.content-content.ensures own change) in
    let arena_is = c.in_ok-change.ensures.arena ∙ ap (λ x. step_applied x d.tree.nodes.arena) made in
    (placed_called d v c.self.view_is c.valid.ensures c.requires.open c.self.invariant (Replace a.node.label a.at a.count a.put.now) (splice_step a.node a.at a.count a.put.now con) x l may t c.replaced.new.self c.change.new.self.arena (c.replaced.ensures ∙ p) arena_is).selection

done : (c : goal.After-unset_if_range_changed) → Done c.self.inside c.args.self.now (Replace c.args.node.label c.args.at c.args.count c.args.put.now) c.change.new.self.arena c.replaced.new.self c.unset_if_range_changed.new.self c.name.new.self c.change.new.history
done c =
    let a = c.args in
    let d = c.self.inside in
    let v = a.self.now in
    let con = c.content-content.result.now in
    let own = sym c.is_own.ensures ∙ c.if-not-is_own.false in
    let change : may_change (Some con) a.at a.count a.put.now ≡ true = sym c.in_ok-step.ensures.changes ∙ ap is_some c.in-Some.is in
    let made = made_is _ c.in-Some.step (splice_step a.node a.at a.count a.put.now con) c.in-Some.is c.in_ok-step.ensures.step in
    let x = fits d c.valid.ensures v c.self.view_is a.node c.requires.node_held a.at a.count a.put.now con c.content-content.ensures c.slotted.ensures c.requires.open c.self.invariant own change in
    let l = detached d c.valid.ensures v c.self.view_is a.node c.requires.node_held a.at a.count a.put.now con c.content-content.ensures c.slotted.ensures c.requires.open c.self.invariant own change in
    let t = trees d c.valid.ensures v c.self.view_is a.node c.requires.node_held a.at a.count a.put.now con c.content-content.ensures c.slotted.ensures c.requires.open c.self.invariant own change in
    let p = points_are d c.valid.ensures v c.self.view_is a.node c.requires.node_held a.at a.count a.put.now con c.content-content.ensures c.slotted.ensures c.requires.open c.self.invariant own change in
    let may = freed_edit (Replace a.node.label a.at a.count a.put.now) v.state (may_replace_here d c.valid.ensures v c.self.view_is a.node c.requires.node_held a.at a.count a.put.now con c.content-content.ensures own change) in
    let arena_is = c.in_ok-change.ensures.arena ∙ ap (λ x. step_applied x d.tree.nodes.arena) made in
    let trail_is = c.in_ok-change.ensures.history ∙ ap (λ x. with_note d.history (step_inverse x d.tree.nodes.arena)) made in
    let e = settled_items d v c.self.view_is c.valid.ensures c.requires.open c.self.invariant (Replace a.node.label a.at a.count a.put.now) (splice_step a.node a.at a.count a.put.now con) x l may t
    c.unset_if_range_changed.new.self c.replaced.new.self c.change.new.self.arena c.watch-watch.result (c.replaced.ensures ∙ p) arena_is c.watch-watch.ensures c.unset_if_range_changed.ensures in
    replace_done d c.valid.ensures v c.self.view_is a.node c.requires.node_held a.at a.count a.put.now con c.content-content.ensures c.slotted.ensures c.requires.open c.self.invariant own change
    c.replaced.new.self c.unset_if_range_changed.new.self c.name.new.self c.name.ensures c.replaced.ensures
    e c.change.new.self.arena c.change.new.history arena_is trail_is

pub invariant_of-self-2 : goal.invariant_of-self-2
invariant_of-self-2 c = (done c).invariant

pub returns-clause-gives : goal.returns-clause-gives
returns-clause-gives c = (done c).gives

pub returns-clause-keeps : goal.returns-clause-keeps
returns-clause-keeps c = (done c).keeps
