use Rattle.std.proofs.Common.{◌<◌, rules}
use Rattle.command_value.proofs.Shown.{clear_shown, opaque_shown}
use Rattle.command_value.proofs.matching.shown.Goals as goal

pub returns-then-colour : goal.returns-then-colour
returns-then-colour c = clear_shown c.args.colour c.if-colour.true

pub returns-else-colour : goal.returns-else-colour
returns-else-colour c =
    let colour = c.args.colour in
    let red : colour.red < 256 = search rules in
    let green : colour.green < 256 = search rules in
    let blue : colour.blue < 256 = search rules in
    opaque_shown colour red green blue c.if-colour.false
