use Rattle.std.proofs.Common.{◌∙◌, ℕ, List, Option, false, ap}
use Rattle.std.specs.Option.{option_map_or}
use Rattle.command_value.specs.Modifiable.{is_line_word}
use Rattle.command_value.proofs.modifiable.is_one_line.Goals as goal

pub returns-in-None : goal.returns-in-None
returns-in-None c = ap (λ (o : Option (List ℕ)). option_map_or is_line_word o false) c.in-None.ensures

pub returns-in-Some : goal.returns-in-Some
returns-in-Some c = c.is_line_word.ensures ∙ ap (λ (o : Option (List ℕ)). option_map_or is_line_word o false) c.in-Some.ensures
