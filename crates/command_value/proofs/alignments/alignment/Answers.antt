use Rattle.std.proofs.Common.{◌∙◌, sym, ap}
use Rattle.std.specs.Option.{option_map, option_map_or}
use Rattle.node_styles.specs.CssValue.declared.values.TextAlign.TheVariants as text_align_values
use Rattle.node_styles.specs.Resolved.{text_align}
use Rattle.command_value.specs.Alignment.{alignment}
use Rattle.command_value.proofs.alignments.alignment.Goals as goal

pub returns-in-Some : goal.returns-in-Some
unfolding alignment
returns-in-Some g c =
    c.text_align.ensures
    ∙ sym (ap (λ o. option_map_or (text_align (g.N.Nodes.trees c.args.nodes.now)) (option_map (λ k. k.label) o) text_align_values.Left) c.in-Some.ensures.found.is)

pub returns-in-None : goal.returns-in-None
unfolding alignment
returns-in-None g c =
    sym (ap (λ o. option_map_or (text_align (g.N.Nodes.trees c.args.nodes.now)) (option_map (λ k. k.label) o) text_align_values.Left) c.in-None.ensures.none)
