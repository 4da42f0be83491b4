-- Every arena has one slot for each node.
use Rattle.std.proofs.Common.{◌≡◌, ℕ, zero, suc, ◌<◌, true, List, [], ◌∷◌, get_or, map, Option, Some, None, sym, ap, subst, ◌∙◌, inl, inr, arith, add-one}
use Rattle.dom_model.specs.Forest.{count_of, is_label}
use Rattle.dom_model.specs.ArenaState.{ArenaState}
use Rattle.dom_model.proofs.Stands.{true_or_false}
use Rattle.dom_model.proofs.Links.{seen, found_count, eqb_refl_true}
use Rattle.node_arena.specs.declared.Node.{Node}
use Rattle.node_arena.specs.Nodes.{label_in, trees_of, state_of}
use Rattle.node_arena.specs.Sound.{IsSoundArena, IsArena}
use Rattle.dom_model.specs.ArenaState.{slot_of, IsSlotted}
use Rattle.node_arena.proofs.Rebuild.{trees_of-sound}
use Rattle.node_arena.proofs.SoundLink.{get_or-map-label_in, held_node}

first_slot : (xs : List (Option ℕ)) (i l : ℕ) → get_or xs i None ≡ Some l → get_or xs (slot_of xs l) None ≡ Some l
unfolding slot_of
first_slot [] i l e = absurd (let h : None ≡ Some l = e in cc)
first_slot (o ∷ os) zero l e =
    let t : is_label o l ≡ true = rw e (eqb_refl_true l) in rw t e
first_slot (o ∷ os) (suc i) l e =
    elim (true_or_false (is_label o l)) [
      | inl t ↦ rw t (is_it o t)
      | inr t ↦ rw (t, add-one) (first_slot os i l e)
    ]
  where
    is_it : (p : Option ℕ) → is_label p l ≡ true → p ≡ Some l
    is_it None u = absurd (cc)
    is_it (Some m) u = ap Some (let u' = u in grind (arith))

pub slotted : (slots : List (Option Node)) (next cap : ℕ) (index : List ℕ) → IsArena slots next cap index → (s : ArenaState) → state_of slots next cap ≡ s → IsSlotted s
slotted slots next cap index arena s is = subst IsSlotted is (record {
  kept = λ l here. (
      let here' : 0 < count_of sound.trees l = subst (λ f. 0 < count_of f l) same here in
      let r = seen sound.trees l sound.distinct here' in
      first_slot (map label_in slots) (sound.at l) l (get_or-map-label_in slots (sound.at l) ∙ ap label_in (sound.stored l r.0 r.2)));
  at = λ slot l held. (
      let a = held_node slots next cap sound slot l held in
      let b = held_node slots next cap sound (slot_of (map label_in slots) l) l (first_slot (map label_in slots) slot l held) in
      a.2 ∙ sym b.2);
  here = λ slot l held. (
      let a = held_node slots next cap sound slot l held in
      subst (λ f. 0 < count_of f l) (sym same) (found_count sound.trees l a.0 a.1));
})
  where
    sound : IsSoundArena slots next cap
    sound = arena.sound

    same : trees_of slots next ≡ sound.trees
    same = trees_of-sound slots next cap sound
