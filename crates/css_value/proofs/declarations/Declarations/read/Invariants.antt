use Rattle.std.proofs.Common.{◌≡◌, length, fold, bytes_eq}
use Rattle.std.specs.List.{IsDistinct}
use Rattle.css_value.specs.StyleText as spec
use Rattle.css_value.specs.DeclarationList.{declarations_in, with_declaration, names_of}
use Rattle.css_value.specs.DeclarationMap.{declarations_of, EachReadsBack, IsPlaced}
use Rattle.css_value.proofs.declarations.Declarations.read.Given as goal

abbrev pub invariant-loop-stated : goal.invariant-loop-stated
invariant-loop-stated l = record {
  left : fold with_declaration (declarations_of l.list.items) (spec.stated l.rest) ≡ declarations_in l.text;
  back : EachReadsBack (declarations_of l.list.items);
  distinct : IsDistinct bytes_eq (names_of (declarations_of l.list.items));
  placed : IsPlaced l.places.entries (names_of (declarations_of l.list.items));
}

abbrev pub decreases-loop-stated : goal.decreases-loop-stated
decreases-loop-stated l = length l.rest
