use Rattle.std.proofs.Common.{◌≡◌, Some, None, length, refl, sym, subst, ◌∙◌, arith}
use Rattle.node_styles.specs.DomModel.Forest.{IsWithin}
use Rattle.node_styles.proofs.DomModel.Within.{within_parent, within_self, within_up, depth_of-parent}
use Rattle.node_tests.specs.Listing.{Leads}
use Rattle.node_tests.proofs.Line.{step_leads}
use Rattle.node_tests.proofs.listing.line_to.Goals as goal

pub loop-at-init : goal.loop-at-init
loop-at-init g c =
    let law = c.valid.ensures in
    record {
      held = c.requires.node_held;
      within = c.requires.inside;
      below = within_self (g.N.Nodes.trees c.args.nodes.now) c.args.node.label law.distinct (law.here c.args.node c.requires.node_held);
      leads = rw c.new-line.ensures.items refl;
    }

pub loop-at-smaller : goal.loop-at-smaller
loop-at-smaller g c =
    omega (arith, depth_of-parent (g.N.Nodes.trees c.args.nodes.now) c.loop-at.at.label c.in-Some.parent.label c.valid.ensures.distinct (sym c.in-Some.ensures.is))

pub loop-at-preserved : goal.loop-at-preserved
loop-at-preserved g c =
    let f = g.N.Nodes.trees c.args.nodes.now in
    let law = c.valid.ensures in
    let at = c.loop-at.at in
    let parent = c.in-Some.parent.label in
    let child = sym c.in-Some.ensures.is in
    let up = within_parent f c.args.top.label law.distinct (law.here c.args.top c.requires.top_held) at.label (λ e. c.loop-at-test.true (sym e)) c.loop-at.invariant.within in
    let same : up.0 ≡ parent = (let t : Some up.0 ≡ Some parent = sym up.1 ∙ child in cc) in
    record {
      held = c.in-Some.ensures.held;
      within = subst (λ k. IsWithin f c.args.top.label k) same up.2;
      below = within_up f law.distinct at.label parent c.args.node.label child c.loop-at.invariant.below;
      leads = subst (λ xs. Leads (g.N.Nodes.holds c.args.nodes.now) f xs c.args.node.label (length xs) parent) (sym c.in_ok-push.ensures.items)
          (step_leads (g.N.Nodes.holds c.args.nodes.now) f c.loop-at.line.items c.args.node.label at parent c.loop-at.invariant.leads c.loop-at.invariant.held child c.loop-at.invariant.below);
    }

pub unreachable-requires : goal.unreachable-requires
unreachable-requires g c =
    let law = c.valid.ensures in
    let up = within_parent (g.N.Nodes.trees c.args.nodes.now) c.args.top.label law.distinct (law.here c.args.top c.requires.top_held) c.loop-at.at.label (λ e. c.loop-at-test.true (sym e)) c.loop-at.invariant.within in
    let t : None ≡ Some up.0 = c.in-None.ensures.is ∙ up.1 in
    cc
