use Rattle.std.proofs.Common.{◌≡◌, length}
use Rattle.css_value.specs.StyleText as spec
use Rattle.std.specs.List.{list_all}
use Rattle.html_names.specs.BoxNames.{is_box_name}
use Rattle.css_value.specs.DeclarationList.{names_of}
use Rattle.css_value.proofs.only.all_box_names.Given as goal

abbrev pub invariant-loop-stated : goal.invariant-loop-stated
invariant-loop-stated l = list_all is_box_name (names_of (spec.stated l.rest)) ≡ list_all is_box_name (names_of (spec.stated l.text))

abbrev pub decreases-loop-stated : goal.decreases-loop-stated
decreases-loop-stated l = length l.rest
