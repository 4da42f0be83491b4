use Rattle.std.proofs.Common.{◌∙◌}
use Rattle.command_value.proofs.Finds.{link_found, link_none}
use Rattle.command_value.proofs.effective_values.link_value.Goals as goal

pub returns-in-Some : goal.returns-in-Some
returns-in-Some g c =
    c.attribute.ensures
    ∙ link_found (g.N.Nodes.holds c.args.nodes.now) (g.N.Nodes.trees c.args.nodes.now) c.args.element.label c.in-Some.link c.content.result.now c.in-Some.ensures.found c.content.ensures

pub returns-in-None : goal.returns-in-None
returns-in-None g c = link_none (g.N.Nodes.holds c.args.nodes.now) (g.N.Nodes.trees c.args.nodes.now) c.args.element.label c.in-None.ensures.none
