use Rattle.std.proofs.Common.{sym, ◌∙◌, ◌⊎◌, inl, inr, arith, ◌≡◌, true, false}
use Rattle.node_styles.specs.DomModel.Editing.{is_host}
use Rattle.node_styles.specs.DomModel.Forest.{IsWithin}
use Rattle.node_styles.proofs.DomModel.Within.{depth_of-parent}
use Rattle.node_tests.specs.AffectedHost.{common_host}
use Rattle.node_tests.proofs.Hosting.{found_here, found_above}
use Rattle.node_tests.proofs.affected.common_host.Goals as goal
use Rattle.node_tests.proofs.affected.common_host.Goals.{After-parent, else-is_host-via-then-is_host+else-is_within, else-is_host-via-else-is_host}

pub returns-then-is_within : goal.returns-then-is_within
unfolding common_host
returns-then-is_within g c =
    let f = (g.N.Nodes.trees c.args.nodes.now) in
    let law = c.valid.ensures in
    let within : IsWithin f c.loop-b.at.label c.args.b.label = c.is_within.ensures.0 c.if-is_within.true in
    record {
      is =
          sym (found_here f law.distinct c.args.b.label c.loop-b.at.label (law.here c.args.b c.requires.second_held) (law.here c.loop-b.at c.loop-b.invariant.held) (sym c.is_host.ensures ∙ c.if-is_host.true) within)
          ∙ c.loop-b.invariant.same;
      held = c.loop-b.invariant.held;
    }

pub loop-b-smaller : goal.loop-b-smaller
loop-b-smaller g c =
    omega (arith, depth_of-parent (g.N.Nodes.trees c.args.nodes.now) c.loop-b.at.label c.in-Some.parent.label c.valid.ensures.distinct (sym c.in-Some.ensures.is))

-- the node isn't the host that is looked for
off : (g : _) (c : After-parent g) → (is_host (g.N.Nodes.trees c.args.nodes.now) c.loop-b.at.label ≡ false) ⊎ (IsWithin (g.N.Nodes.trees c.args.nodes.now) c.loop-b.at.label c.args.b.label → ⊥)
off g c =
    elim c.else-is_host.branch [
      | else-is_host-via-then-is_host+else-is_within w ↦ inr (λ h. let t : false ≡ true = sym w.if-is_within.false ∙ w.is_within.ensures.1 h in cc)
      | else-is_host-via-else-is_host w ↦ inl (sym c.is_host.ensures ∙ w.if-is_host.false)
    ]

pub loop-b-preserved : goal.loop-b-preserved
loop-b-preserved g c =
    let f = (g.N.Nodes.trees c.args.nodes.now) in
    let law = c.valid.ensures in
    record {
      held = c.in-Some.ensures.held;
      same =
          sym (found_above f law.distinct c.args.b.label c.loop-b.at.label (law.here c.args.b c.requires.second_held) (law.here c.loop-b.at c.loop-b.invariant.held) (off g (goal.at.loop-b-preserved g c).After-parent) _ (sym c.in-Some.ensures.is))
          ∙ c.loop-b.invariant.same;
    }

pub returns-in-None : goal.returns-in-None
unfolding common_host
returns-in-None g c =
    let f = (g.N.Nodes.trees c.args.nodes.now) in
    let law = c.valid.ensures in
    record {
      is =
          sym (found_above f law.distinct c.args.b.label c.loop-b.at.label (law.here c.args.b c.requires.second_held) (law.here c.loop-b.at c.loop-b.invariant.held) (off g (goal.at.returns-in-None g c).After-parent) _ (sym c.in-None.ensures.is))
          ∙ c.loop-b.invariant.same;
      held = tt;
    }
