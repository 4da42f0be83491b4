-- The next label can go back to one above all that are there.
use Rattle.std.proofs.Common.{◌≡◌, ℕ, ◌<◌, ◌≤◌, List, take, map, Option, sym, ap, subst, ◌∙◌, arith}
use Rattle.std.proofs.lemmas.List.{get_or-take, length-take-le}
use Rattle.dom_model.specs.ArenaState.{ArenaState}
use Rattle.dom_model.specs.Forest.{count_of, parent_of}
use Rattle.dom_model.proofs.Links.{found_count}
use Rattle.dom_model.proofs.Few.{total-few}
use Rattle.node_arena.specs.declared.Node.{Node}
use Rattle.node_arena.specs.Nodes.{label_in, trees_of, state_of}
use Rattle.node_arena.specs.Sound.{IsSoundArena, IsArena}
use Rattle.dom_model.proofs.NodesKept.{AreNodes}
use Rattle.node_arena.proofs.Rebuild.{trees_of-sound}
use Rattle.node_arena.proofs.SoundLink.{held_node}
use Rattle.node_arena.proofs.UnlinkOk.{Leaves}

module _ (slots : List (Option Node)) (next cap : ℕ) (sound : IsSoundArena slots next cap) (label : ℕ) (le : label ≤ next) (low : (l : ℕ) → 0 < count_of sound.trees l → l < label) where
  pub sound-rewound : IsSoundArena slots label cap
  sound-rewound = record {
    trees = sound.trees;
    at = sound.at;
    stored = sound.stored;
    back = sound.back;
    distinct = sound.distinct;
    rising = sound.rising;
    below = low;
    few = total-few sound.trees label sound.distinct low;
    capped = omega (arith, le, sound.capped);
  }

  pub rewound_trees : trees_of slots label ≡ trees_of slots next
  unfolding sound-rewound
  rewound_trees = trees_of-sound slots label cap sound-rewound ∙ sym (trees_of-sound slots next cap sound)

pub rewind_state : (slots : List (Option Node)) (next cap : ℕ) (index : List ℕ) → IsArena slots next cap index → (old : ArenaState) → state_of slots next cap ≡ old → (label : ℕ) → label ≤ old.next → ((l : ℕ) → 0 < count_of old.trees l → l < label) → Leaves slots label cap (take label index) (record old { next = label })
rewind_state slots next cap index arena old is label =
    subst (λ (o : ArenaState). label ≤ o.next → ((l : ℕ) → 0 < count_of o.trees l → l < label) → Leaves slots label cap (take label index) (record o { next = label })) is
    (λ le low.
    let s = arena.sound in
    let same = trees_of-sound slots next cap s in
    let low' : (l : ℕ) → 0 < count_of s.trees l → l < label = λ l h. low l (subst (λ f. 0 < count_of f l) (sym same) h) in
    let trees = rewound_trees slots next cap s label le low' in
    record {
      arena = record {
        sound = sound-rewound slots next cap s label le low';
        document = arena.document;
        root = ap (λ h. parent_of h 0) trees ∙ arena.root;
        small = arena.small;
        nodes = subst AreNodes (sym trees) arena.nodes;
        long = length-take-le label index (omega (arith, le, arena.long));
        indexed = λ slot l h. (let r = held_node slots next cap s slot l h in get_or-take label index l 0 (low' l (found_count s.trees l r.0 r.1)) ∙ arena.indexed slot l h);
      };
      is = λ i. record { trees = trees i; next = label; cap = cap; held = map label_in slots };
    })
