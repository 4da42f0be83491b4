-- The nodes from a label on given up leave the slots sound.
use Rattle.std.proofs.Common.{◌≡◌, ℕ, ◌<◌, Bool, false, List, get_or, map, Option, Some, None, refl, sym, ap, subst, ◌∙◌, inl, inr, arith}
use Rattle.std.proofs.lemmas.Bool.Decides.{nat_tests}
use Rattle.std.specs.Prelude.{nat_le}
use Rattle.std.specs.Option.{option_and_then}
use Rattle.dom_model.specs.declared.Content.{Content}
use Rattle.dom_model.specs.ArenaState.{ArenaState}
use Rattle.dom_model.specs.Forest.{Forest, Seen, count_of, seek, parent_of, children_of, before_in, after_in, first_in, last_in}
use Rattle.dom_model.specs.Pruned.{pruned, IsWhole}
use Rattle.dom_model.proofs.Few.{total-few}
use Rattle.dom_model.proofs.Links.{found_count, parent_count}
use Rattle.dom_model.proofs.Stands.{true_or_false}
use Rattle.dom_model.proofs.Pruning.{count_of-pruned, IsDistinct-pruned, RisesFrom-pruned, seek-pruned, parent_of-pruned, children_of-pruned, whole_out, whole_stays}
use Rattle.node_arena.specs.declared.Node.{Node}
use Rattle.node_arena.specs.Nodes.{label_in, link_to, node_for, trees_of, state_of}
use Rattle.node_arena.specs.Sound.{IsSoundArena, IsArena, IsIndexed}
use Rattle.node_arena.specs.Held.{DropsMade}
use Rattle.node_arena.specs.Made.{kept_below}
use Rattle.dom_model.proofs.NodesKept.{AreNodes}
use Rattle.node_arena.proofs.Rebuild.{trees_of-sound}
use Rattle.node_arena.proofs.SoundLink.{get_or-map-label_in, held_node, same_node}

pub arena_indexed : (slots : List (Option Node)) (next cap : ℕ) (index : List ℕ) → IsArena slots next cap index → IsIndexed slots index
arena_indexed slots next cap index arena = record {
  below = λ slot n e. (let b = arena.sound.back slot n e in let low = arena.sound.below n.label b.0 in omega (arith, low, arena.long));
  at = λ slot n e. arena.indexed slot n.label (get_or-map-label_in slots slot ∙ ap label_in e);
}

above : (a b : ℕ) → nat_le a b ≡ false → b < a
above a b e = grind (arith, nat_tests)

below : (a b : ℕ) → b < a → nat_le a b ≡ false
below a b lt = grind (arith, nat_tests)

module _ (slots new : List (Option Node)) (next cap first : ℕ) (sound : IsSoundArena slots next cap) (whole : IsWhole (nat_le first) sound.trees) (kept : (j : ℕ) → get_or new j None ≡ kept_below first (get_or slots j None)) where
  abbrev f : Forest Content
  f = sound.trees

  abbrev k : ℕ → Bool
  k l = nat_le first l

  abbrev g : Forest Content
  g = pruned k f

  pub left_low : (l : ℕ) → 0 < count_of g l → l < first
  left_low l here = above first l (whole_out k f sound.distinct whole l here)

  left_here : (l : ℕ) → l < first → 0 < count_of f l → 0 < count_of g l
  left_here l low here = omega (arith, here, whole_stays k f sound.distinct whole l (below first l low))

  pub left_parent : (l : ℕ) → 0 < count_of g l → parent_of g l ≡ parent_of f l
  left_parent l here = parent_of-pruned k f l sound.distinct here

  kids : (l : ℕ) → 0 < count_of g l → children_of g l ≡ children_of f l
  kids l here = children_of-pruned k f l sound.distinct here

  node_same : (l : ℕ) (s : Seen Content) → 0 < count_of g l → node_for f sound.at l s ≡ node_for g sound.at l s
  node_same l s here =
      same_node
      refl
      refl
      refl
      (ap (λ ks. link_to sound.at (first_in ks)) (sym (kids l here)))
      (ap (λ ks. link_to sound.at (last_in ks)) (sym (kids l here)))
      (ap (λ o. link_to sound.at (option_and_then (λ p. before_in (children_of f p) l) o)) (sym (left_parent l here)) ∙ each_before (parent_of g l) refl)
      (ap (λ o. link_to sound.at (option_and_then (λ p. after_in (children_of f p) l) o)) (sym (left_parent l here)) ∙ each_after (parent_of g l) refl)
    where
      each_before : (o : Option ℕ) → parent_of g l ≡ o → link_to sound.at (option_and_then (λ p. before_in (children_of f p) l) o) ≡ link_to sound.at (option_and_then (λ p. before_in (children_of g p) l) o)
      each_before None e = refl
      each_before (Some p) e = ap (λ ks. link_to sound.at (before_in ks l)) (sym (kids p (parent_count g l p (IsDistinct-pruned k f sound.distinct) e).1))

      each_after : (o : Option ℕ) → parent_of g l ≡ o → link_to sound.at (option_and_then (λ p. after_in (children_of f p) l) o) ≡ link_to sound.at (option_and_then (λ p. after_in (children_of g p) l) o)
      each_after None e = refl
      each_after (Some p) e = ap (λ ks. link_to sound.at (after_in ks l)) (sym (kids p (parent_count g l p (IsDistinct-pruned k f sound.distinct) e).1))

  -- a slot with a lower label keeps its node, and no other does
  stays : (j : ℕ) (n : Node) → get_or slots j None ≡ Some n → n.label < first → get_or new j None ≡ Some n
  stays j n e low = kept j ∙ rw e (let t = below first n.label low in rw t refl)

  was : (j : ℕ) (n : Node) → get_or new j None ≡ Some n → (get_or slots j None ≡ Some n) × (n.label < first)
  was j n e = by_slot (get_or slots j None) refl (sym (kept j) ∙ e)
    where
      by_slot : (o : Option Node) → get_or slots j None ≡ o → kept_below first o ≡ Some n → (get_or slots j None ≡ Some n) × (n.label < first)
      by_slot None t h = absurd (let h' : None ≡ Some n = h in cc)
      by_slot (Some m) t h = elim (true_or_false (nat_le first m.label)) [
        | inl u ↦ absurd (let h' : None ≡ Some n = rw u at h in cc)
        | inr u ↦ (let h' : Some m ≡ Some n = rw u at h in let same : m ≡ n = cc in
            (t ∙ h', subst (λ (x : Node). x.label < first) same (above first m.label u)))
      ]

  pub sound-made : IsSoundArena new next cap
  sound-made = record {
    trees = g;
    at = sound.at;
    stored = λ l s e. (
        let here = found_count g l s e in
        let old : seek None f l ≡ Some s = sym (seek-pruned k None f l sound.distinct here) ∙ e in
        stays (sound.at l) (node_for f sound.at l s) (sound.stored l s old) (left_low l here) ∙ ap Some (node_same l s here));
    back = λ slot x e. (
        let w = was slot x e in
        let b = sound.back slot x w.0 in
        (left_here x.label w.1 b.0, b.1));
    distinct = IsDistinct-pruned k f sound.distinct;
    rising = RisesFrom-pruned k f 0 sound.rising;
    below = λ l h. sound.below l (omega (arith, h, count_of-pruned k f l));
    few = total-few g next (IsDistinct-pruned k f sound.distinct) (λ l h. sound.below l (omega (arith, h, count_of-pruned k f l)));
    capped = sound.capped;
  }

  pub made_trees : trees_of new next ≡ g
  unfolding sound-made
  made_trees = trees_of-sound new next cap sound-made

  pub made_nodes : AreNodes f → AreNodes g
  made_nodes nodes l s e = nodes l s (sym (seek-pruned k None f l sound.distinct (found_count g l s e)) ∙ e)

  pub made_root : 0 < first → 0 < count_of f 0 → parent_of f 0 ≡ None → parent_of g 0 ≡ None
  made_root inner here root = left_parent 0 (left_here 0 inner here) ∙ root

-- ---- for the value that a contract sees

pub record MadeTo (old : ArenaState) (new : List (Option Node)) (next cap : ℕ) (index : List ℕ) (first : ℕ) : Type 0 where
  pub arena : IsArena new next cap index
  pub drops : DropsMade old (state_of new next cap) first
  pub spent : (l : ℕ) → 0 < count_of (trees_of new next) l → l < first

kept_label : (first : ℕ) (o : Option Node) (l : ℕ) → label_in o ≡ Some l → l < first → label_in (kept_below first o) ≡ Some l
kept_label first None l h low = h
kept_label first (Some m) l h low =
    let same : m.label ≡ l = (let h' : Some m.label ≡ Some l = h in cc) in
    let t : nat_le first m.label ≡ false = rw same (below first l low) in
    rw t h

kept_was : (first : ℕ) (o : Option Node) (l : ℕ) → label_in (kept_below first o) ≡ Some l → (label_in o ≡ Some l) × (l < first)
kept_was first None l h = absurd (let h' : None ≡ Some l = h in cc)
kept_was first (Some m) l h = elim (true_or_false (nat_le first m.label)) [
  | inl u ↦ absurd (let h' : None ≡ Some l = rw u at h in cc)
  | inr u ↦ (let h' : Some m.label ≡ Some l = rw u at h in let same : m.label ≡ l = cc in (h', subst (λ i. i < first) same (above first m.label u)))
]

pub made_state : (slots new : List (Option Node)) (next cap : ℕ) (index : List ℕ) → IsArena slots next cap index → (old : ArenaState) → state_of slots next cap ≡ old → (first : ℕ) → 0 < first → IsWhole (nat_le first) old.trees → ((j : ℕ) → get_or new j None ≡ kept_below first (get_or slots j None)) → MadeTo old new next cap index first
made_state slots new next cap index arena old is first inner =
    subst (λ (o : ArenaState). IsWhole (nat_le first) o.trees → ((j : ℕ) → get_or new j None ≡ kept_below first (get_or slots j None)) → MadeTo o new next cap index first) is
    (λ whole kept.
    let s = arena.sound in
    let same : trees_of slots next ≡ s.trees = trees_of-sound slots next cap s in
    let whole' : IsWhole (nat_le first) s.trees = subst (λ t. IsWhole (nat_le first) t) same whole in
    let x = held_node slots next cap s 0 0 arena.document in
    let trees = made_trees slots new next cap first s whole' kept in
    let labels : (j : ℕ) → get_or (map label_in new) j None ≡ label_in (kept_below first (get_or slots j None)) = λ j. get_or-map-label_in new j ∙ ap label_in (kept j) in
    let keeps : (j l : ℕ) → get_or (map label_in slots) j None ≡ Some l → l < first → get_or (map label_in new) j None ≡ Some l = λ j l h low. labels j ∙ kept_label first (get_or slots j None) l (sym (get_or-map-label_in slots j) ∙ h) low in
    let was_held : (j l : ℕ) → get_or (map label_in new) j None ≡ Some l → (get_or (map label_in slots) j None ≡ Some l) × (l < first) = λ j l h. (let w = kept_was first (get_or slots j None) l (sym (labels j) ∙ h) in (get_or-map-label_in slots j ∙ w.0, w.1)) in
    record {
      arena = record {
        sound = sound-made slots new next cap first s whole' kept;
        document = keeps 0 0 arena.document inner;
        root = ap (λ t. parent_of t 0) trees ∙ made_root slots new next cap first s whole' kept inner (found_count s.trees 0 x.0 x.1) (ap (λ t. parent_of t 0) (sym same) ∙ arena.root);
        small = arena.small;
        nodes = subst AreNodes (sym trees) (made_nodes slots new next cap first s whole' kept (subst AreNodes same arena.nodes));
        long = arena.long;
        indexed = λ slot l h. arena.indexed slot l (was_held slot l h).0;
      };
      drops = record {
        trees = trees ∙ ap (pruned (nat_le first)) (sym same);
        next = refl;
        cap = refl;
        held = λ q. (λ h. was_held q.slot q.label h, λ h. keeps q.slot q.label h.0 h.1);
      };
      spent = λ l h. left_low slots new next cap first s whole' kept l (subst (λ t. 0 < count_of t l) trees h);
    })
