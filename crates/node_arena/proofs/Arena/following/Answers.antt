use Rattle.std.proofs.Common.{◌≡◌, Some, None, Option, IfSome, sym, arith, ℕ}
use Rattle.dom_model.specs.declared.Content.{Content}
use Rattle.dom_model.specs.TreeOrder.{total_from, total_after}
use Rattle.dom_model.proofs.Within.{depth_of_low}
use Rattle.node_arena.specs.declared.counts.Place.{Place}
use Rattle.node_arena.specs.Walk.{IsPlace, Goes}
use Rattle.node_arena.proofs.CountsOk.{child_place, goes_down, goes_on, stops}
use Rattle.node_arena.proofs.Arena.following.Goals as goal

pub overflow_add-result : goal.overflow_add-result
overflow_add-result c =
    let s = c.args.self.now in
    let law = c.valid.ensures in
    let down = child_place s law c.args.place c.in-Some.child c.requires (sym c.in-Some.ensures.is) c.in-Some.ensures.held in
    omega (arith, down.deep, depth_of_low s.trees c.in-Some.child.label law.distinct (law.here c.in-Some.child.slot c.in-Some.child.label c.in-Some.ensures.held), law.few, law.capped, law.small)

pub returns-in-Some-clause-found : goal.returns-in-Some-clause-found
returns-in-Some-clause-found c = goes_down c.args.self.now c.valid.ensures c.args.place c.in-Some.child c.requires (sym c.in-Some.ensures.is) c.in-Some.ensures.held

pub returns-in-None-clause-found : goal.returns-in-None-clause-found
returns-in-None-clause-found c = each c.after.result c.after.ensures.found
  where
    each : (o : Option Place) → IfSome o (λ next. IsPlace c.args.self.now next × ((w : ℕ → Content → ℕ) → total_after w c.args.self.now.trees c.args.place.node.label ≡ total_from w c.args.self.now.trees next.node.label)) → IfSome o (Goes c.args.self.now c.args.place)
    each None h = tt
    each (Some next) h = goes_on c.args.self.now c.valid.ensures c.args.place next c.requires (sym c.in-None.ensures.is) h.0 h.1

pub returns-in-None-clause-none : goal.returns-in-None-clause-none
returns-in-None-clause-none c = λ none. stops c.args.self.now c.valid.ensures c.args.place c.requires (sym c.in-None.ensures.is) (c.after.ensures.none none)
