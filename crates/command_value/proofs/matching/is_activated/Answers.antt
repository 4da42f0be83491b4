use Rattle.std.proofs.Common.{◌∙◌, ℕ, List, Option, false, sym, ap}
use Rattle.std.specs.Option.{option_map_or}
use Rattle.node_styles.specs.HtmlNames.ActivatedValues.{activated_values}
use Rattle.node_styles.specs.HtmlNames.ElementNames.{is_one_of}
use Rattle.command_value.specs.EffectiveValues.{is_activated}
use Rattle.command_value.proofs.Grounds.{value_some, value_none}
use Rattle.command_value.proofs.matching.is_activated.Goals as goal

pub returns-in-Some : goal.returns-in-Some
unfolding is_activated
returns-in-Some g c =
    c.is_on.ensures
    ∙ sym (ap (λ (v : Option (List ℕ)). option_map_or (is_one_of (activated_values c.args.command)) v false) (value_some (g.N.Nodes.trees c.args.nodes.now) c.args.node.label c.in-Some.element.label c.args.command (sym c.in-Some.ensures.is)))

pub returns-in-None : goal.returns-in-None
unfolding is_activated
returns-in-None g c =
    sym (ap (λ (v : Option (List ℕ)). option_map_or (is_one_of (activated_values c.args.command)) v false) (value_none (g.N.Nodes.trees c.args.nodes.now) c.args.node.label c.args.command (sym c.in-None.ensures.is)))
