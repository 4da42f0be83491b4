use Rattle.std.proofs.Common.{◌≡◌, ◌∙◌, false, subst, sym}
use Rattle.std.specs.Option.{option_map_or}
use Rattle.node_styles.specs.CssValue.declared.decoration.DecorationLine.TheVariants.{Underline, LineThrough}
use Rattle.node_styles.specs.HtmlNames.ActivatedValues.{activated_values}
use Rattle.node_styles.specs.HtmlNames.ElementNames.{is_one_of}
use Rattle.node_styles.specs.Lineage.{has_in_lineage}
use Rattle.command_value.specs.EffectiveValues.{draws, line_at, value_at}
use Rattle.command_value.specs.Subjects.{subject}
use Rattle.command_value.proofs.Shown.{under_on, through_on}
use Rattle.command_value.proofs.matching.is_on.Goals as goal

pub returns-in-Underline : goal.returns-in-Underline
unfolding line_at
returns-in-Underline g c =
    let f = g.N.Nodes.trees c.args.nodes.now in
    subst (λ k. c.draws_line.result ≡ option_map_or (is_one_of (activated_values k)) (value_at f c.args.element.label (subject k)) false) (sym c.in-Underline.is)
    (c.draws_line.ensures ∙ under_on (has_in_lineage (draws Underline) f c.args.element.label))

pub returns-in-Strikethrough : goal.returns-in-Strikethrough
unfolding line_at
returns-in-Strikethrough g c =
    let f = g.N.Nodes.trees c.args.nodes.now in
    subst (λ k. c.draws_line-in-Strikethrough.result ≡ option_map_or (is_one_of (activated_values k)) (value_at f c.args.element.label (subject k)) false) (sym c.in-Strikethrough.is)
    (c.draws_line-in-Strikethrough.ensures ∙ through_on (has_in_lineage (draws LineThrough) f c.args.element.label))
