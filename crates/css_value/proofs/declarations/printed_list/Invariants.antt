use Rattle.std.proofs.Common.{◌≡◌, ◌++◌, drop, eqb}
use Rattle.css_value.specs.DeclarationList.{printed}
use Rattle.css_value.specs.DeclarationMap.{declarations_of}
use Rattle.css_value.proofs.Printing.{left_to_print}
use Rattle.css_value.proofs.declarations.printed_list.Given as goal

abbrev pub invariant-loop-i : goal.invariant-loop-i
invariant-loop-i l = l.text.items ++ left_to_print (eqb l.i 0) (declarations_of (drop l.i l.list.items)) ≡ printed (declarations_of l.list.items)
