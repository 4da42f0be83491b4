use Rattle.std.proofs.Common.{◌∙◌, sym, ap}
use Rattle.std.specs.Option.{option_copied}
use Rattle.command_value.specs.EffectiveValues.{effective}
use Rattle.command_value.specs.Equivalence.{alike}
use Rattle.command_value.proofs.Shown.{alike_some}
use Rattle.command_value.proofs.matching.has_alike_value.Goals as goal

pub returns-in-Some : goal.returns-in-Some
returns-in-Some g c =
    let value = effective (g.N.Nodes.trees c.args.nodes.now) c.args.node.label c.args.command in
    c.is_alike_at.ensures ∙ alike_some c.args.command value c.in-Some.text.now ∙ ap (λ o. alike c.args.command value (option_copied o)) (sym c.in-Some.is)
