use Rattle.std.proofs.Common.{◌≡◌, ◌≢◌, ℕ, ◌+◌, [], ◌∷◌, ◌++◌, get_or, Some, None, ap, sym, subst, ◌∙◌, not, if◌then◌else◌}
use Rattle.slab.specs.Slab.{Slab}
use Rattle.node_arena.specs.declared.Node.{Node}
use Rattle.node_arena.proofs.MakeOk.{MakesTo, make_state}
use Rattle.node_arena.proofs.Arena.make.Goals as goal

made : (c : goal.After-self-1) → MakesTo c.args.self.now c.insert_reserved.new.self.slots (c.self.inside.next + 1) c.self.inside.cap c.push.new.self.items (record { slot = c.vacant_key-slot.result; label = c.self.inside.next }) c.args.content
made c =
    let slots = c.self.inside.nodes.slots in
    let new = c.insert_reserved.new.self.slots in
    let key = c.vacant_key-slot.result in
    let index = c.self.inside.index.items in
    let same = ap (λ (s : Slab Node). s.slots) c.reserve.ensures.rest_kept in
    let at : c.insert_reserved.result ≡ key = c.insert_reserved.ensures.key ∙ ap (λ (s : Slab Node). s.vacant_key) c.reserve.ensures.rest_kept ∙ sym c.vacant_key-slot.ensures.value in
    let pushed : c.push.new.self.items ≡ index ++ key ∷ [] = c.push.ensures.items ∙ ap (λ b. if b then index ++ key ∷ [] else index) (c.is_err-2.ensures.negation ∙ ap not c.if-is_err-2.false) in
    let put : get_or new key None ≡ Some c.leaf.result = ap (λ k. get_or new k None) (sym at) ∙ c.insert_reserved.ensures.updates.changed in
    let others : (j : ℕ) → j ≢ key → get_or new j None ≡ get_or slots j None = λ j off. c.insert_reserved.ensures.updates.others j (λ e. off (e ∙ at)) ∙ ap (λ xs. get_or xs j None) same in
    subst (λ items. MakesTo c.args.self.now new (c.self.inside.next + 1) c.self.inside.cap items (record { slot = key; label = c.self.inside.next }) c.args.content) (sym pushed)
    (make_state slots new c.self.inside.next c.self.inside.cap index c.self.invariant c.args.self.now c.self.view_is key c.args.content c.requires.plain c.requires.short c.requires.names c.if-self.false c.vacant_key-slot.ensures.vacant (put ∙ ap Some c.leaf.ensures) others)

pub invariant_of-self-2 : goal.invariant_of-self-2
invariant_of-self-2 c = (made c).arena

pub returns-clause-made : goal.returns-clause-made
returns-clause-made c = (made c).makes
