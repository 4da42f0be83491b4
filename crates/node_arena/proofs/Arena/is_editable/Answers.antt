use Rattle.std.proofs.Common.{Some, sym, ap, ◌∙◌, arith}
use Rattle.std.specs.Option.{option_map}
use Rattle.dom_model.proofs.Within.{depth_of-parent}
use Rattle.node_arena.specs.EditableStates.{editable_state_of, is_true}
use Rattle.node_arena.proofs.HostsOk.{refused, at_host, passed_on, at_root, true_state}
use Rattle.node_arena.proofs.Arena.is_editable.Goals as goal

pub returns-then-not-takes_host : goal.returns-then-not-takes_host
returns-then-not-takes_host c =
    sym (refused c.args.self.now.trees c.valid.ensures.distinct c.args.host.label c.loop-parent.at.label c.in-Some.parent.label c.content-content.result.now c.content-above.result.now (sym c.in-Some.ensures.is) c.content-content.ensures c.content-above.ensures (sym c.takes_host.ensures ∙ c.if-not-takes_host.true))
    ∙ c.loop-parent.invariant.same

pub returns-then-is_true : goal.returns-then-is_true
returns-then-is_true c =
    sym (at_host c.args.self.now.trees c.valid.ensures.distinct c.args.host.label c.loop-parent.at.label c.in-Some.parent.label c.content-content.result.now c.content-above.result.now (sym c.in-Some.ensures.is) c.content-content.ensures c.content-above.ensures (sym c.takes_host.ensures ∙ c.if-not-takes_host.false) (sym (true_state c.content-above.result.now) ∙ sym (ap is_true c.of-own-in-Some.ensures) ∙ sym c.is_true.ensures ∙ c.if-is_true.true))
    ∙ c.loop-parent.invariant.same

pub loop-parent-smaller : goal.loop-parent-smaller
loop-parent-smaller c = omega (arith, depth_of-parent c.args.self.now.trees c.loop-parent.at.label c.in-Some.parent.label c.valid.ensures.distinct (sym c.in-Some.ensures.is))

pub loop-parent-preserved : goal.loop-parent-preserved
loop-parent-preserved c = record {
  held = c.in-Some.ensures.held;
  own = ap (option_map editable_state_of) c.content-above.ensures ∙ ap Some (sym c.of-own-in-Some.ensures);
  same =
      sym (passed_on c.args.self.now.trees c.valid.ensures.distinct c.args.host.label c.loop-parent.at.label c.in-Some.parent.label c.content-content.result.now c.content-above.result.now (sym c.in-Some.ensures.is) c.content-content.ensures c.content-above.ensures (sym c.takes_host.ensures ∙ c.if-not-takes_host.false) (sym (true_state c.content-above.result.now) ∙ sym (ap is_true c.of-own-in-Some.ensures) ∙ sym c.is_true.ensures ∙ c.if-is_true.false))
      ∙ c.loop-parent.invariant.same;
}

pub returns : goal.returns
returns c = sym (at_root c.args.self.now.trees c.valid.ensures.distinct c.args.host.label c.loop-parent.at.label (sym c.in_default.ensures.is)) ∙ c.loop-parent.invariant.same
