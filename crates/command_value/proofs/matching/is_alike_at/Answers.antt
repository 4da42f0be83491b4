use Rattle.std.proofs.Common.{◌∙◌, ℕ, List, Option, false, sym, ap}
use Rattle.std.specs.Option.{option_map_or}
use Rattle.command_value.specs.Equivalence.{are_alike}
use Rattle.command_value.proofs.Grounds.{value_some, value_none}
use Rattle.command_value.proofs.matching.is_alike_at.Goals as goal

pub returns-in-Some : goal.returns-in-Some
returns-in-Some g c =
    c.is_alike.ensures
    ∙ sym (ap (λ (v : Option (List ℕ)). option_map_or (λ own. are_alike c.args.command own c.args.text.now) v false) (value_some (g.N.Nodes.trees c.args.nodes.now) c.args.node.label c.in-Some.element.label c.args.command (sym c.in-Some.ensures.is)))

pub returns-in-None : goal.returns-in-None
returns-in-None g c =
    sym (ap (λ (v : Option (List ℕ)). option_map_or (λ own. are_alike c.args.command own c.args.text.now) v false) (value_none (g.N.Nodes.trees c.args.nodes.now) c.args.node.label c.args.command (sym c.in-None.ensures.is)))
