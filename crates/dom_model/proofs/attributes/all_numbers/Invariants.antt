use Rattle.std.proofs.Common.{take}
use Rattle.std.specs.Map.{values_of}
use Rattle.dom_model.specs.AttributeList.{names_of}
use Rattle.dom_model.specs.AttributeMap.{IsNumbered}
use Rattle.dom_model.proofs.attributes.all_numbers.Given as goal

abbrev pub invariant-loop-place : goal.invariant-loop-place
invariant-loop-place l = IsNumbered l.tree.entries (names_of (values_of (take l.place l.rows.entries)))
