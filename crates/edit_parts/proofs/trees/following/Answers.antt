use Rattle.std.proofs.Common.{◌≡◌, arith, Some, None, Option, IfSome, sym, ℕ}
use Rattle.edit_model.specs.DomModel.declared.Content.{Content}
use Rattle.edit_model.specs.DomModel.TreeOrder.{total_from, total_after}
use Rattle.edit_parts.specs.declared.trees.Place.{Place}
use Rattle.edit_parts.specs.Walk.{IsIn, Goes}
use Rattle.edit_parts.proofs.Below.{child_low, goes_down, goes_on, stops}
use Rattle.edit_parts.proofs.trees.following.Goals as goal

pub returns-in-Some-clause-found : goal.returns-in-Some-clause-found
returns-in-Some-clause-found c =
    goes_down c.args.arena.now c.valid.ensures c.args.top c.requires.top_held c.args.place c.in-Some.child c.requires.inside (sym c.in-Some.ensures.is) c.in-Some.ensures.held

pub returns-in-None-clause-found : goal.returns-in-None-clause-found
returns-in-None-clause-found c = each c.after.result c.after.ensures.found
  where
    each : (o : Option Place) → IfSome o (λ next. IsIn c.args.arena.now c.args.top next × ((w : ℕ → Content → ℕ) → total_after w c.args.arena.now.trees c.args.place.node.label ≡ total_from w c.args.arena.now.trees next.node.label)) → IfSome o (Goes c.args.arena.now c.args.top c.args.place)
    each None h = tt
    each (Some next) h = goes_on c.args.arena.now c.valid.ensures c.args.top c.requires.top_held c.args.place next c.requires.inside (sym c.in-None.ensures.is) h.0 h.1

pub returns-in-None-clause-none : goal.returns-in-None-clause-none
returns-in-None-clause-none c = λ none. stops c.args.arena.now c.valid.ensures c.args.top c.requires.top_held c.args.place c.requires.inside (sym c.in-None.ensures.is) (c.after.ensures.none none)

pub overflow_add-result : goal.overflow_add-result
overflow_add-result c =
    omega (arith, child_low c.args.arena.now c.valid.ensures c.args.top c.requires.top_held c.args.place c.in-Some.child c.requires.inside (sym c.in-Some.ensures.is) c.in-Some.ensures.held)
