use Rattle.std.proofs.Common.{Err, sym, subst, ◌∙◌}
use Rattle.edit_steps.specs.NodeArena.Held.{Makes}
use Rattle.step_text.specs.declared.line.StepFault.TheVariants.{Memory}
use Rattle.step_text.specs.declared.line.StepLine.TheVariants.{Make}
use Rattle.step_text.specs.Applying.{made_content}
use Rattle.step_text.specs.Planning.{Applies}
use Rattle.step_text.proofs.Taken.{at_err, at_ok, make_done, make_failed, make_refused, set_back}
use Rattle.step_text.proofs.apply.make.Goals as goal

pub returns-then-not-can_draw : goal.returns-then-not-can_draw
returns-then-not-can_draw c = make_refused c.args.label c.args.made c.args.arena.now (sym c.can_draw.ensures ∙ c.if-not-can_draw.true)

pub returns-then-is_err : goal.returns-then-is_err
returns-then-is_err c =
    let a = c.args in
    let same = at_err c.skip_to.result (sym c.is_err.ensures.value ∙ c.if-is_err.true) c.skip_to.ensures.err in
    subst (λ t. Applies (Make a.label a.made) a.arena.now t (Err Memory)) (sym same) (make_failed a.label a.made a.arena.now (sym c.can_draw.ensures ∙ c.if-not-can_draw.false))

pub returns-then-is_err-2 : goal.returns-then-is_err-2
returns-then-is_err-2 c =
    let a = c.args in
    let on = (at_ok _ c.skip_to.result (sym c.is_err.ensures.value ∙ c.if-is_err.false) c.skip_to.ensures.ok).1 in
    let same = at_err c.make_node.result (sym c.is_err-2.ensures.value ∙ c.if-is_err-2.true) c.make_node.ensures.err in
    let back = set_back a.arena.now c.skip_to.new.self c.make_node.new.arena c.rewind.new.self a.label c.next_label-next.result on same c.next_label-next.ensures c.rewind.ensures in
    subst (λ t. Applies (Make a.label a.made) a.arena.now t (Err Memory)) (sym back) (make_failed a.label a.made a.arena.now (sym c.can_draw.ensures ∙ c.if-not-can_draw.false))

pub returns : goal.returns
returns c =
    let a = c.args in
    let on = (at_ok _ c.skip_to.result (sym c.is_err.ensures.value ∙ c.if-is_err.false) c.skip_to.ensures.ok).1 in
    let made = at_ok (λ r. Makes c.skip_to.new.self c.make_node.new.arena r (made_content a.made)) c.make_node.result (sym c.is_err-2.ensures.value ∙ c.if-is_err-2.false) c.make_node.ensures.made in
    make_done a.label a.made a.arena.now c.make_node.new.arena made.0 _ (sym c.can_draw.ensures ∙ c.if-not-can_draw.false) (subst (λ s. Makes s c.make_node.new.arena made.0 (made_content a.made)) on made.1)
