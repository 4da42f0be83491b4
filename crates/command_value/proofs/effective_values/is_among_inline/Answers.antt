use Rattle.std.proofs.Common.{◌∙◌, ap, not}
use Rattle.command_value.proofs.Finds.{inline_found, inline_none}
use Rattle.command_value.proofs.effective_values.is_among_inline.Goals as goal

pub returns-in-Some : goal.returns-in-Some
returns-in-Some g c =
    ap not c.is_block_content.ensures
    ∙ inline_found c.args.name.now (g.N.Nodes.holds c.args.nodes.now) (g.N.Nodes.trees c.args.nodes.now) c.args.element.label c.in-Some.found c.content.result.now c.in-Some.ensures.found c.content.ensures

pub returns-in-None : goal.returns-in-None
returns-in-None g c = inline_none c.args.name.now (g.N.Nodes.holds c.args.nodes.now) (g.N.Nodes.trees c.args.nodes.now) c.args.element.label c.in-None.ensures.none
