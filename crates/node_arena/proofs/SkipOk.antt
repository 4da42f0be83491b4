-- The next label can go on, as far as the cap, where the index grows with it.
use Rattle.std.proofs.Common.{◌≡◌, ℕ, ◌+◌, ◌-◌, ◌≤◌, List, ◌++◌, length, take, map, Option, sym, ap, subst, ◌∙◌, arith}
use Rattle.std.specs.Prelude.{replicate}
use Rattle.std.proofs.lemmas.List.{get_or_append_left, take_all, length-append, length-replicate}
use Rattle.dom_model.specs.ArenaState.{ArenaState}
use Rattle.dom_model.specs.Forest.{parent_of}
use Rattle.dom_model.proofs.Links.{found_count}
use Rattle.node_arena.specs.declared.Node.{Node}
use Rattle.node_arena.specs.Nodes.{label_in, trees_of, state_of}
use Rattle.node_arena.specs.Sound.{IsSoundArena, IsArena}
use Rattle.dom_model.proofs.NodesKept.{AreNodes}
use Rattle.node_arena.proofs.Rebuild.{trees_of-sound}
use Rattle.node_arena.proofs.SoundLink.{held_node}
use Rattle.node_arena.proofs.UnlinkOk.{Leaves}

module _ (slots : List (Option Node)) (next cap : ℕ) (sound : IsSoundArena slots next cap) (label : ℕ) (le : next ≤ label) (high : label ≤ cap) where
  pub sound-skipped : IsSoundArena slots label cap
  sound-skipped = record {
    trees = sound.trees;
    at = sound.at;
    stored = sound.stored;
    back = sound.back;
    distinct = sound.distinct;
    rising = sound.rising;
    below = λ l h. (let b = sound.below l h in omega (arith, le, b));
    few = omega (arith, le, sound.few);
    capped = high;
  }

  pub skipped_trees : trees_of slots label ≡ trees_of slots next
  unfolding sound-skipped
  skipped_trees = trees_of-sound slots label cap sound-skipped ∙ sym (trees_of-sound slots next cap sound)

pub skip_state : (slots : List (Option Node)) (next cap : ℕ) (index : List ℕ) → IsArena slots next cap index → (old : ArenaState) → state_of slots next cap ≡ old → (label : ℕ) → old.next ≤ label → label ≤ old.cap → Leaves slots label cap (take label index ++ replicate (label - length index) 0) (record old { next = label })
skip_state slots next cap index arena old is label =
    subst (λ (o : ArenaState). o.next ≤ label → label ≤ o.cap → Leaves slots label cap (take label index ++ replicate (label - length index) 0) (record o { next = label })) is
    (λ le high.
    let s = arena.sound in
    let trees = skipped_trees slots next cap s label le high in
    let long = arena.long in
    let all : take label index ≡ index = take_all label index (omega (arith, le, long)) in
    let index' = index ++ replicate (label - length index) 0 in
    let whole : take label index ++ replicate (label - length index) 0 ≡ index' = ap (λ xs. xs ++ replicate (label - length index) 0) all in
    let wide : length index' ≡ label = length-append index (replicate (label - length index) 0) ∙ (ap (λ n. length index + n) (length-replicate (label - length index) 0) ∙ omega (arith, le, long)) in
    subst (λ xs. Leaves slots label cap xs (record (state_of slots next cap) { next = label })) (sym whole)
    (record {
      arena = record {
        sound = sound-skipped slots next cap s label le high;
        document = arena.document;
        root = ap (λ h. parent_of h 0) trees ∙ arena.root;
        small = arena.small;
        nodes = subst AreNodes (sym trees) arena.nodes;
        long = wide;
        indexed = λ slot l h. (let r = held_node slots next cap s slot l h in let low = s.below l (found_count s.trees l r.0 r.1) in get_or_append_left index (replicate (label - length index) 0) 0 l (omega (arith, low, long)) ∙ arena.indexed slot l h);
      };
      is = λ i. record { trees = trees i; next = label; cap = cap; held = map label_in slots };
    }))
