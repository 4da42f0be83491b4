-- What a held node shows.
use Rattle.std.proofs.Common.{◌≡◌, ℕ, ◌<◌, List, get_or, map, Option, Some, None, IfSome, refl, sym, ap, subst}
use Rattle.std.specs.Option.{option_map, option_and_then}
use Rattle.dom_model.specs.declared.Content.{Content}
use Rattle.dom_model.specs.ArenaState.{ArenaState}
use Rattle.dom_model.specs.Forest.{Seen, count_of, parent_of, first_of, last_of, prev_of, next_of, content_of}
use Rattle.dom_model.proofs.Links.{found_count, parent_here, first_here, last_here, prev_here, next_here}
use Rattle.node_arena.specs.declared.Node.{Node}
use Rattle.node_arena.specs.declared.NodeRef.{NodeRef}
use Rattle.node_arena.specs.Nodes.{label_in, link_to, node_for, state_of}
use Rattle.node_arena.specs.Sound.{IsSoundArena, IsArena}
use Rattle.node_arena.specs.Held.{Holds, NamesHeld, Shows}
use Rattle.node_arena.proofs.Rebuild.{trees_of-sound, label_at-link_to}
use Rattle.node_arena.proofs.SoundLink.{held_node}
use Rattle.node_arena.proofs.LinkOk.{link_held}

module _ (slots : List (Option Node)) (next cap : ℕ) (sound : IsSoundArena slots next cap) where
  names : (o : Option ℕ) → IfSome o (λ k. 0 < count_of sound.trees k) → NamesHeld (record { trees = sound.trees; next = next; cap = cap; held = map label_in slots }) (link_to sound.at o) o
  names o h = record { is = label_at-link_to sound.at o; held = link_held slots next cap sound o h }

  pub shows : (r : NodeRef) (n : Node) → Holds (state_of slots next cap) r → get_or slots r.slot None ≡ Some n → Shows (state_of slots next cap) r.label n
  shows r n h e =
      let x = held_node slots next cap sound r.slot r.label h in
      let f = sound.trees in
      let once = sound.distinct in
      let same : node_for f sound.at r.label x.0 ≡ n = (let t = x.3 in cc) in
      let par : parent_of f r.label ≡ x.0.parent = ap (λ (o : Option (Seen Content)). option_and_then (λ s. s.parent) o) x.1 in
      let about : Shows (record { trees = f; next = next; cap = cap; held = map label_in slots }) r.label (node_for f sound.at r.label x.0) = record {
        label = refl;
        here = found_count f r.label x.0 x.1;
        content = ap (λ (o : Option (Seen Content)). option_map (λ s. s.content) o) x.1;
        parent = subst (λ o. NamesHeld (record { trees = f; next = next; cap = cap; held = map label_in slots }) (link_to sound.at o) (parent_of f r.label)) par (names (parent_of f r.label) (parent_here f r.label once));
        first = names (first_of f r.label) (first_here f r.label once);
        last = names (last_of f r.label) (last_here f r.label once);
        prev = names (prev_of f r.label) (prev_here f r.label once);
        next = names (next_of f r.label) (next_here f r.label once);
      } in
      subst (λ g. Shows (record { trees = g; next = next; cap = cap; held = map label_in slots }) r.label n) (sym (trees_of-sound slots next cap sound))
      (subst (λ m. Shows (record { trees = f; next = next; cap = cap; held = map label_in slots }) r.label m) same about)

pub shows_state : (slots : List (Option Node)) (next cap : ℕ) (index : List ℕ) → IsArena slots next cap index → (old : ArenaState) → state_of slots next cap ≡ old → (r : NodeRef) (n : Node) → Holds old r → get_or slots r.slot None ≡ Some n → Shows old r.label n
shows_state slots next cap index sound old is r n =
    subst (λ (o : ArenaState). Holds o r → get_or slots r.slot None ≡ Some n → Shows o r.label n) is (shows slots next cap sound.sound r n)

-- the node that a held reference names
pub record Stored (slots : List (Option Node)) (old : ArenaState) (r : NodeRef) : Type 0 where
  pub node : Node
  pub at : get_or slots r.slot None ≡ Some node
  pub content : content_of old.trees r.label ≡ Some node.content

pub stored_state : (slots : List (Option Node)) (next cap : ℕ) (index : List ℕ) → IsArena slots next cap index → (old : ArenaState) → state_of slots next cap ≡ old → (r : NodeRef) → Holds old r → Stored slots old r
stored_state slots next cap index arena old is r held =
    let x = held_node slots next cap arena.sound r.slot r.label (subst (λ (o : ArenaState). Holds o r) (sym is) held) in
    record {
      node = node_for arena.sound.trees arena.sound.at r.label x.0;
      at = x.3;
      content = (shows_state slots next cap index arena old is r (node_for arena.sound.trees arena.sound.at r.label x.0) held x.3).content;
    }
