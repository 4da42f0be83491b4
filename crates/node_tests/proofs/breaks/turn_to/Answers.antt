use Rattle.std.proofs.Common.{sym, subst, ◌∙◌}
use Rattle.node_tests.specs.LineBreaks.{end_of}
use Rattle.node_tests.specs.Sides.{other}
use Rattle.node_tests.specs.Gaps.{StandsAt, Comes}
use Rattle.node_tests.proofs.Turns.{turn_ends, turn_child, turn_out, past_seen, past_unseen}
use Rattle.node_tests.proofs.breaks.turn_to.Goals as goal

pub returns-then-is_boundary : goal.returns-then-is_boundary
returns-then-is_boundary g c = λ place stands. turn_ends (g.N.Nodes.trees c.args.nodes.now) c.args.at place stands c.args.side (sym c.is_boundary.ensures ∙ c.if-is_boundary.true)

pub returns-in-Some : goal.returns-in-Some
returns-in-Some g c =
    let f = (g.N.Nodes.trees c.args.nodes.now) in
    let k = c.in-Some.child in
    λ place stands.
    turn_child f c.args.at place stands c.args.side (sym c.is_boundary.ensures ∙ c.if-is_boundary.false) k (sym c.beside.ensures ∙ c.in-Some.is)
    ∙ past_seen c.args.side f k.label (sym c.is_visible.ensures ∙ c.if-is_visible.true)

pub returns-in-Some-2 : goal.returns-in-Some-2
returns-in-Some-2 g c =
    let f = (g.N.Nodes.trees c.args.nodes.now) in
    let k = c.in-Some.child in
    λ place stands. (
      end_of (other c.args.side) f k.label,
      turn_child f c.args.at place stands c.args.side (sym c.is_boundary.ensures ∙ c.if-is_boundary.false) k (sym c.beside.ensures ∙ c.in-Some.is)
          ∙ past_unseen c.args.side f k.label (sym c.is_visible.ensures ∙ c.if-is_visible.false),
      c.end_of.ensures.held,
      subst (λ side. StandsAt f c.end_of.result (end_of side f k.label)) c.other.ensures c.end_of.ensures.place,
    )

pub returns-in-None : goal.returns-in-None
returns-in-None g c =
    λ place stands.
    subst (Comes (g.N.Nodes.holds c.args.nodes.now) (g.N.Nodes.trees c.args.nodes.now) c.out_of.result) (sym (turn_out (g.N.Nodes.trees c.args.nodes.now) c.args.at place stands c.args.side (sym c.is_boundary.ensures ∙ c.if-is_boundary.false) (sym c.beside.ensures ∙ c.in-None.is))) c.out_of.ensures
