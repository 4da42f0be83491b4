use Rattle.std.proofs.Common.{◌≡◌, length, bytes_eq}
use Rattle.css_value.specs.StyleText as spec
use Rattle.std.specs.List.{list_all}
use Rattle.css_value.specs.DeclarationList.{names_of}
use Rattle.css_value.proofs.only.all_named.Given as goal

abbrev pub invariant-loop-stated : goal.invariant-loop-stated
invariant-loop-stated l = list_all (λ n. bytes_eq l.name n) (names_of (spec.stated l.rest)) ≡ list_all (λ n. bytes_eq l.name n) (names_of (spec.stated l.text))

abbrev pub decreases-loop-stated : goal.decreases-loop-stated
decreases-loop-stated l = length l.rest
