use Rattle.std.proofs.Common.{◌≡◌, ◌<◌, length, get_or, refl, sym, subst, ◌∙◌, arith}
use Rattle.std.proofs.lemmas.Grind.{get_or_default_zero}
use Rattle.dom_model.specs.ArenaState.{HoldsAt}
use Rattle.node_arena.proofs.FindOk.{indexed_here, none_of}
use Rattle.node_arena.proofs.MakeOk.{valid_state}
use Rattle.node_arena.proofs.Arena.find.Goals as goal

pub returns-then-label-self-clause-absent : goal.returns-then-label-self-clause-absent
returns-then-label-self-clause-absent c =
    let here = indexed_here c.self.inside.nodes.slots c.self.inside.next c.self.inside.cap c.self.inside.index.items c.self.invariant c.args.self.now c.self.view_is c.args.label in
    (λ _. none_of _ (λ some. let t = c.if-label-self.true in omega (arith, t, (here some).0)), λ _. refl)

pub returns-then-holds-clause-absent : goal.returns-then-holds-clause-absent
returns-then-holds-clause-absent c =
    let law = valid_state c.self.inside.nodes.slots c.self.inside.next c.self.inside.cap c.self.inside.index.items c.self.invariant c.args.self.now c.self.view_is in
    let here = law.here c.index.result.now c.args.label (c.holds.ensures.0 c.if-holds.true) in
    (λ e. absurd (let e' = e in cc), λ none. absurd (omega (arith, none, here)))

pub returns-else-holds-clause-absent : goal.returns-else-holds-clause-absent
returns-else-holds-clause-absent c =
    let items = c.self.inside.index.items in
    let here = indexed_here c.self.inside.nodes.slots c.self.inside.next c.self.inside.cap items c.self.invariant c.args.self.now c.self.view_is c.args.label in
    let inside : c.args.label < length items = (let t = c.if-label-self.false in omega (arith, t, c.self.invariant.long)) in
    let at : get_or items c.args.label 0 ≡ c.index.result.now = sym (c.index.ensures ∙ get_or_default_zero items c.args.label c.index.result.now inside) in
    (λ _. none_of _ (λ some. (let held = subst (λ k. HoldsAt c.args.self.now k c.args.label) at (here some).1 in let yes' = c.holds.ensures.1 held in let t = c.if-holds.false in cc)), λ _. refl)
