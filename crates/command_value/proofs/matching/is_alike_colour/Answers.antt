use Rattle.std.proofs.Common.{◌∙◌, Some, sym, ap}
use Rattle.node_styles.specs.CssValue.Colours.{colour_text}
use Rattle.command_value.specs.Equivalence.{components, are_same_colours}
use Rattle.command_value.proofs.Shown.{colour_alike}
use Rattle.command_value.proofs.matching.is_alike_colour.Goals as goal

pub returns-in-Some : goal.returns-in-Some
returns-in-Some c =
    c.is_same_colour.ensures
    ∙ sym (
    colour_alike c.args.command (colour_text c.args.colour) c.args.text.now c.shown-own.result c.requires c.shown-own.ensures
    ∙ ap (λ o. are_same_colours o (components c.args.text.now)) c.shown-own.ensures
    ∙ ap (are_same_colours (Some c.shown-own.result)) (sym c.in-Some.ensures))

pub returns-in-None : goal.returns-in-None
returns-in-None c =
    sym (
    colour_alike c.args.command (colour_text c.args.colour) c.args.text.now c.shown-own.result c.requires c.shown-own.ensures
    ∙ ap (λ o. are_same_colours o (components c.args.text.now)) c.shown-own.ensures
    ∙ ap (are_same_colours (Some c.shown-own.result)) (sym c.in-None.ensures))
