use Rattle.std.proofs.Common.{◌≡◌, true, sym, ap, subst, ◌∙◌}
use Rattle.edit_model.specs.Action.{stepped_all}
use Rattle.edit_model.specs.Gives.{Fails}
use Rattle.edit_model.specs.Possible.{are_possible}
use Rattle.edit_model.specs.Tail.{carried}
use Rattle.edit_doc.proofs.Edited.{keeps_same, keeps_on}
use Rattle.edit_doc.proofs.Tails.{labels-drop, exit_steps, carry_may, carry_fault, detached_may, detached_ends, carried_end}
use Rattle.edit_doc.proofs.Doc.carry_from.Goals as goal

pub loop-i-init : goal.loop-i-init
loop-i-init c =
    let a = c.args in
    let s = a.self.now.state in
    record {
      possible = subst (λ ns. are_possible (carried a.target.label ns) s ≡ true) (sym (labels-drop a.from a.list.now)) c.requires.possible;
      ends = ap (λ ns. stepped_all (carried a.target.label ns) s) (labels-drop a.from a.list.now);
      known = tt;
      keeps = keeps_same a.self.now;
    }

pub carry-requires-clause-possible : goal.carry-requires-clause-possible
carry-requires-clause-possible c = carry_may c.args.target.label c.args.list.now c.loop-i.i c.loop-i-test.true c.loop-i.self.state c.loop-i.invariant.possible

pub returns-in_err-known-clause-steps : goal.returns-in_err-known-clause-steps
returns-in_err-known-clause-steps c =
    let a = c.args in
    exit_steps c.from_residual.result c.in_err-known.field-0.0 a.self.now.state c.carry.new.self.state _ c.from_residual.ensures.1
    (subst (Fails c.in_err-known.field-0.0) c.loop-i.invariant.ends (carry_fault a.target.label a.list.now c.loop-i.i c.loop-i-test.true c.loop-i.self.state c.in_err-known.field-0.0 c.in_err-known.ensures.steps))

pub loop-i-preserved : goal.loop-i-preserved
loop-i-preserved c =
    let a = c.args in
    let s = c.loop-i.self.state in
    let t = c.carry.new.self.state in
    let is = c.in_ok-known.ensures.steps in
    record {
      possible = detached_may a.target.label a.list.now c.loop-i.i c.loop-i-test.true s t is c.loop-i.invariant.possible;
      ends = detached_ends a.target.label a.list.now c.loop-i.i c.loop-i-test.true s t is ∙ c.loop-i.invariant.ends;
      known = c.in_ok-known.ensures.known;
      keeps = keeps_on a.self.now c.loop-i.self c.carry.new.self c.loop-i.invariant.keeps c.in_ok-known.ensures.keeps;
    }

pub returns-clause-steps : goal.returns-clause-steps
returns-clause-steps c = sym (carried_end c.args.target.label c.args.list.now c.loop-i.i c.loop-i-test.false c.loop-i.self.state) ∙ c.loop-i.invariant.ends
