use Rattle.std.proofs.Common.{◌≡◌, drop, map}
use Rattle.css_value.specs.StyleText.{lowered}
use Rattle.css_value.specs.Colours as spec
use Rattle.css_value.proofs.colours.named_in.Given as goal

abbrev pub invariant-loop-row : goal.invariant-loop-row
invariant-loop-row l =
    spec.colour_in (map (λ row. (row.name.now, spec.opaque_colour row.red row.green row.blue)) (drop l.row-index l.table)) (lowered l.text)
    ≡ spec.colour_in (map (λ row. (row.name.now, spec.opaque_colour row.red row.green row.blue)) l.table) (lowered l.text)
