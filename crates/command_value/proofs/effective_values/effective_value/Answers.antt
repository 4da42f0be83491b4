use Rattle.std.proofs.Common.{sym, ap, ◌∙◌}
use Rattle.command_value.specs.EffectiveValues.{value_at}
use Rattle.command_value.proofs.Grounds.{value_some, value_none}
use Rattle.command_value.proofs.effective_values.effective_value.Goals as goal

pub returns-in-Some : goal.returns-in-Some
returns-in-Some g c =
    let f = g.N.Nodes.trees c.args.nodes.now in
    c.element_value.ensures
    ∙ ap (value_at f c.in-Some.element.label) c.subject_of.ensures
    ∙ sym (value_some f c.args.node.label c.in-Some.element.label c.args.command (sym c.in-Some.ensures.is))

pub returns-in-None : goal.returns-in-None
returns-in-None g c = sym (value_none (g.N.Nodes.trees c.args.nodes.now) c.args.node.label c.args.command (sym c.in-None.ensures.is))
