use Rattle.std.proofs.Common.{◌≡◌, get_or, [], ◌∷◌, ◌++◌, Some, None, ap, sym, subst, ◌∙◌, arith}
use Rattle.slab.specs.Slab.{Slab}
use Rattle.node_arena.specs.declared.Node.{Node}
use Rattle.node_arena.specs.Sound.{IsArena}
use Rattle.node_arena.proofs.MakeOk.{NewTo, new_state}
use Rattle.node_arena.proofs.Arena.new.Goals as goal

made : (c : goal.After-insert_reserved) → NewTo c.insert_reserved.new.self.slots c.args.cap
made c =
    let ins = c.insert_reserved in
    let none : c.reserve.new.self.slots ≡ [] = ap (λ (s : Slab Node). s.slots) c.reserve.ensures.rest_kept ∙ c.new-nodes.ensures.empty in
    let zero : ins.result ≡ 0 = ins.ensures.key ∙ (ap (λ (s : Slab Node). s.vacant_key) c.reserve.ensures.rest_kept ∙ c.new-nodes.ensures.first_key) in
    new_state ins.new.self.slots c.args.cap c.requires (omega (arith, c.ranges.cap.fits))
    (ap (λ k. get_or ins.new.self.slots k None) (sym zero) ∙ (ins.ensures.updates.changed ∙ ap Some c.leaf.ensures))
    (λ j off. ins.ensures.updates.others j (λ e. off (e ∙ zero)) ∙ ap (λ xs. get_or xs j None) none)

pub invariant_of-result : goal.invariant_of-result
invariant_of-result c =
    let index : c.push.new.self.items ≡ 0 ∷ [] = c.in_ok-push.ensures.items ∙ ap (λ xs. xs ++ 0 ∷ []) c.new-index.ensures.items in
    subst (λ items. IsArena c.insert_reserved.new.self.slots 1 c.args.cap items) (sym index) (made c).arena

pub returns : goal.returns
returns c = (made c).is
