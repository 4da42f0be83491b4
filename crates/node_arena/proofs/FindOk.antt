-- The index tells the slot of each label that is there.
use Rattle.std.proofs.Common.{◌≡◌, ℕ, zero, suc, ◌<◌, List, get_or, map, Option, Some, None, refl, ap, subst, ◌∙◌, arith}
use Rattle.dom_model.specs.Forest.{count_of}
use Rattle.dom_model.specs.ArenaState.{ArenaState}
use Rattle.dom_model.proofs.Links.{seen}
use Rattle.node_arena.specs.declared.Node.{Node}
use Rattle.node_arena.specs.Nodes.{label_in, state_of}
use Rattle.node_arena.specs.Sound.{IsArena}
use Rattle.node_arena.specs.Held.{Holds}
use Rattle.node_arena.proofs.Rebuild.{trees_of-sound}
use Rattle.node_arena.proofs.SoundLink.{get_or-map-label_in}

pub indexed_here : (slots : List (Option Node)) (next cap : ℕ) (index : List ℕ) → IsArena slots next cap index → (old : ArenaState) → state_of slots next cap ≡ old → (l : ℕ) → 0 < count_of old.trees l → (l < next) × Holds old (record { slot = get_or index l 0; label = l })
indexed_here slots next cap index arena old is l =
    subst (λ (o : ArenaState). 0 < count_of o.trees l → (l < next) × Holds o (record { slot = get_or index l 0; label = l })) is
    (λ here.
    let s = arena.sound in
    let here' : 0 < count_of s.trees l = subst (λ f. 0 < count_of f l) (trees_of-sound slots next cap s) here in
    let r = seen s.trees l s.distinct here' in
    let held : get_or (map label_in slots) (s.at l) None ≡ Some l = get_or-map-label_in slots (s.at l) ∙ ap label_in (s.stored l r.0 r.2) in
    let at : get_or index l 0 ≡ s.at l = arena.indexed (s.at l) l held in
    (s.below l here', ap (λ k. get_or (map label_in slots) k None) at ∙ held))

pub none_of : (n : ℕ) → (0 < n → ⊥) → n ≡ 0
none_of zero h = refl
none_of (suc n) h = absurd (h (omega arith))
