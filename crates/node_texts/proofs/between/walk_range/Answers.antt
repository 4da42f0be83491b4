use Rattle.std.proofs.Common.{◌≡◌, sym, ap, ◌∙◌}
use Rattle.node_styles.specs.NodeArena.Held.{label}
use Rattle.node_texts.specs.declared.between.Limit.TheVariants.{Inside}
use Rattle.node_texts.specs.Between as cut
use Rattle.node_texts.proofs.Cutting.{there_below}
use Rattle.node_texts.proofs.Ranges.{shown_nothing, shown_chars, shown_children}
use Rattle.node_texts.proofs.Visiting.{first_led}
use Rattle.node_texts.proofs.between.walk_range.Goals as goal

pub returns-in_default : goal.returns-in_default
returns-in_default g c =
    let f = g.N.Nodes.trees c.args.nodes.now in
    let start = c.args.range.0 in
    let end = c.args.range.1 in
    let both : cut.common_ancestor f start.label end.label ≡ label c.common_ancestor.result =
    rw (← c.node_of-start.ensures.label, ← c.node_of-end.ensures.label) (sym c.common_ancestor.ensures.is) in
    record { ok = shown_nothing g.V.Visitor.entered g.V.Visitor.left f start end (both ∙ ap label c.in_default.is) c.args.visitor.now }

pub returns-then-has_chars : goal.returns-then-has_chars
returns-then-has_chars g c =
    let f = g.N.Nodes.trees c.args.nodes.now in
    let start = c.args.range.0 in
    let end = c.args.range.1 in
    let both : cut.common_ancestor f start.label end.label ≡ label c.common_ancestor.result =
    rw (← c.node_of-start.ensures.label, ← c.node_of-end.ensures.label) (sym c.common_ancestor.ensures.is) in
    let top = c.in-Some.top in
    record {
      ok = shown_chars g.V.Visitor.entered g.V.Visitor.left f start end c.valid.ensures.distinct top.label c.content-content.result.now (c.valid.ensures.here top c.in-Some.ensures.held) c.content-content.ensures (both ∙ ap label c.in-Some.is)
          (sym c.has_chars.ensures ∙ c.if-has_chars.true) c.args.visitor.now c.enter_part.new.self c.leave.new.self
          (rw (← c.lower.ensures, ← c.upper.ensures) c.in_ok-enter_part.ensures.ok) c.in_ok-leave.ensures.ok
          (g.met.V.PartVisitor.leaves_parts c.enter_part.new.self top.label _ _ c.content-content.result.now);
    }

pub walk_between-requires-clause-inner : goal.walk_between-requires-clause-inner
walk_between-requires-clause-inner g c = first_led c.valid.ensures c.in-Some.top c.in-Some.ensures.held c.first_child-child.result c.first_child-child.ensures

pub walk_between-requires-clause-start : goal.walk_between-requires-clause-start
walk_between-requires-clause-start g c = rw c.below.ensures (there_below (g.N.Nodes.trees c.args.nodes.now) (Inside c.args.range.0) c.in-Some.top.label c.requires.start)

pub walk_between-requires-clause-end : goal.walk_between-requires-clause-end
walk_between-requires-clause-end g c = rw c.below-2.ensures (there_below (g.N.Nodes.trees c.args.nodes.now) (Inside c.args.range.1) c.in-Some.top.label c.requires.end)

pub returns : goal.returns
returns g c =
    let f = g.N.Nodes.trees c.args.nodes.now in
    let start = c.args.range.0 in
    let end = c.args.range.1 in
    let both : cut.common_ancestor f start.label end.label ≡ label c.common_ancestor.result =
    rw (← c.node_of-start.ensures.label, ← c.node_of-end.ensures.label) (sym c.common_ancestor.ensures.is) in
    let top = c.in-Some.top in
    record {
      ok = shown_children g.V.Visitor.entered g.V.Visitor.left f start end c.valid.ensures.distinct top.label c.content-content.result.now (c.valid.ensures.here top c.in-Some.ensures.held) c.content-content.ensures (both ∙ ap label c.in-Some.is)
          (sym c.has_chars.ensures ∙ c.if-has_chars.false) (label c.first_child-child.result) c.first_child-child.ensures.is c.args.visitor.now c.walk_between.new.visitor
          (rw (← c.below.ensures, ← c.below-2.ensures) c.in_ok-walk_between.ensures.ok);
    }
