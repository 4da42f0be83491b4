use Rattle.std.proofs.Common.{◌≡◌, drop}
use Rattle.std.specs.Map.{values_of}
use Rattle.dom_model.specs.AttributeList.{value_of}
use Rattle.dom_model.proofs.attributes.scanned.Given as goal

abbrev pub invariant-loop-place : goal.invariant-loop-place
invariant-loop-place l = value_of (values_of (drop l.place l.rows.entries)) l.name ≡ value_of (values_of l.rows.entries) l.name
