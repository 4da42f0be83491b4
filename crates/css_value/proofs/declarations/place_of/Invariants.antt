use Rattle.std.proofs.Common.{◌≡◌, drop}
use Rattle.css_value.specs.DeclarationList.{value_of, unset_in}
use Rattle.css_value.specs.DeclarationMap.{declarations_of}
use Rattle.css_value.proofs.Entries.{unset_from}
use Rattle.css_value.proofs.declarations.place_of.Given as goal

abbrev pub invariant-loop-place : goal.invariant-loop-place
invariant-loop-place l = record {
  value : value_of (declarations_of (drop l.place l.list.items)) l.name ≡ value_of (declarations_of l.list.items) l.name;
  left : unset_from l.name l.place l.list.items ≡ unset_in (declarations_of l.list.items) l.name;
}
