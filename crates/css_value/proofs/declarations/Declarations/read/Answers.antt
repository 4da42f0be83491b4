use Rattle.std.proofs.Common.{ap, sym, subst, bytes_eq}
use Rattle.std.specs.List.{IsDistinct}
use Rattle.css_value.specs.StyleText as spec
use Rattle.css_value.specs.DeclarationList.{declarations_in, names_of}
use Rattle.css_value.specs.DeclarationMap.{declarations_of}
use Rattle.css_value.proofs.Entries.{read-start, read-step}
use Rattle.css_value.proofs.Places.{distinct-set, start-placed}
use Rattle.css_value.proofs.declarations.Declarations.read.Goals as goal

pub loop-stated-init : goal.loop-stated-init
loop-stated-init c =
    let start = read-start c.args.text.now (declarations_of c.new-list.result.items) (ap declarations_of c.new-list.ensures.items) in
    let none = start-placed c.new-places.result.entries (declarations_of c.new-list.result.items) c.new-places.ensures.empty (ap declarations_of c.new-list.ensures.items) in
    record { left = start.0; back = start.1; distinct = none.0; placed = none.1 }

pub loop-stated-preserved : goal.loop-stated-preserved
loop-stated-preserved c =
    let d : spec.Declaration = record { name = spec.lowered c.in-Some.stated.name.now; value = c.in-Some.stated.value.now } in
    let step = read-step c.loop-stated.rest.now c.in-Some.after.now (declarations_of c.loop-stated.list.items) (declarations_of c.declare.new.list.items) (declarations_in c.args.text.now) d c.in_ok-name.name.items c.in_ok-value.value.items c.in-Some.ensures.stated c.in_ok-name.ensures c.in_ok-value.ensures.items c.in_ok-declare.ensures.set c.loop-stated.invariant.left c.loop-stated.invariant.back in
    record {
      left = step.0;
      back = step.1;
      distinct = subst (λ list. IsDistinct bytes_eq (names_of list)) (sym c.in_ok-declare.ensures.set) (distinct-set (declarations_of c.loop-stated.list.items) c.in_ok-name.name.items c.in_ok-value.value.items c.loop-stated.invariant.distinct);
      placed = c.in_ok-declare.ensures.placed;
    }
