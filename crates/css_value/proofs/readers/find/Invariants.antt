use Rattle.std.proofs.Common.{◌≡◌, length}
use Rattle.css_value.specs.StyleText as spec
use Rattle.std.specs.Option.{option_copied}
use Rattle.css_value.specs.DeclarationList.{declarations_in, value_of}
use Rattle.css_value.proofs.NameValues.{last_value}
use Rattle.css_value.proofs.readers.find.Given as goal

abbrev pub invariant-loop-stated : goal.invariant-loop-stated
invariant-loop-stated l = last_value (option_copied l.found) l.name (spec.stated l.rest) ≡ value_of (declarations_in l.text) l.name

abbrev pub decreases-loop-stated : goal.decreases-loop-stated
decreases-loop-stated l = length l.rest
