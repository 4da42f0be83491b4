-- A link keeps the slots sound, and they give back the linked list.
use Rattle.std.proofs.Common.{◌≡◌, ℕ, ◌<◌, cond, List, get_or, map, Option, Some, None, IsSome, IfSome, refl, sym, ap, subst, ◌∙◌, arith, eqb}
use Rattle.std.specs.Option.{option_map, option_and_then}
use Rattle.dom_model.specs.declared.Content.{Content}
use Rattle.dom_model.specs.Forest.{Forest, Seen, count_of, IsDistinct, seek, parent_of, children_of, before_in, prior_in, tree_of, without, link, CanPut, relinked}
use Rattle.dom_model.proofs.Links.{seen, found_count, parent_of-link_root, seek-link, total-link, IsDistinct-link}
use Rattle.dom_model.proofs.Rising.{RisesFrom-without, RisesFrom-put_under}
use Rattle.node_arena.specs.declared.Node.{Node}
use Rattle.node_arena.specs.declared.NodeRef.{NodeRef}
use Rattle.node_arena.specs.Nodes.{label_in, link_to, node_for, trees_of, state_of}
use Rattle.node_arena.specs.Sound.{IsSoundArena, IsArena}
use Rattle.node_arena.specs.Held.{Holds, label}
use Rattle.dom_model.specs.ArenaState.{ArenaState, CanLink}
use Rattle.node_arena.specs.Change.{placed, with_first, with_last, with_prev, with_next, next_changed, prev_changed, linked_slots, prior_link}
use Rattle.node_arena.proofs.ChangeLemmas.{map-label_in-change}
use Rattle.dom_model.proofs.NodesKept.{AreNodes, nodes-link}
use Rattle.node_arena.proofs.Rebuild.{trees_of-sound}
use Rattle.node_arena.proofs.SoundLink.{get_or-map-label_in, held_node, new_slots, linked_at, prior, prior_here}

pub labels-next_changed : (xs : List (Option Node)) (p : NodeRef) (q to : Option NodeRef) → map label_in (next_changed xs p q to) ≡ map label_in xs
labels-next_changed xs p None to = map-label_in-change xs p.slot (with_first to) (λ n. refl)
labels-next_changed xs p (Some q) to = map-label_in-change xs q.slot (with_next to) (λ n. refl)

pub labels-prev_changed : (xs : List (Option Node)) (p : NodeRef) (q to : Option NodeRef) → map label_in (prev_changed xs p q to) ≡ map label_in xs
labels-prev_changed xs p None to = map-label_in-change xs p.slot (with_last to) (λ n. refl)
labels-prev_changed xs p (Some q) to = map-label_in-change xs q.slot (with_prev to) (λ n. refl)

pub labels-linked : (xs : List (Option Node)) (p : NodeRef) (prior before : Option NodeRef) (n : NodeRef) → map label_in (linked_slots xs p prior before n) ≡ map label_in xs
labels-linked xs p prior before n =
    labels-prev_changed _ p before (Some n) ∙ (labels-next_changed _ p prior (Some n) ∙ map-label_in-change xs n.slot (placed (Some p) prior before) (λ x. refl))

module _ (slots : List (Option Node)) (next cap : ℕ) (sound : IsSoundArena slots next cap) (p : ℕ) (b : Option ℕ) (n : ℕ) (can : CanPut sound.trees p b n) where
  pub sound-link : IsSoundArena (new_slots slots next cap sound p b n can) next cap
  sound-link = record {
    trees = link sound.trees p b n;
    at = sound.at;
    stored = λ l s e. stored l s e;
    back = λ slot x e. back slot x e;
    distinct = IsDistinct-link sound.trees p b n sound.distinct can;
    rising = RisesFrom-put_under (without sound.trees n) 0 p b (tree_of sound.trees n) (RisesFrom-without sound.trees 0 n sound.rising);
    below = λ l h. sound.below l (omega (arith, h, counts l));
    few = omega (arith, sound.few, total-link sound.trees p b n sound.distinct can (λ _ _. 1));
    capped = sound.capped;
  }
    where
      counts : (l : ℕ) → count_of (link sound.trees p b n) l ≡ count_of sound.trees l
      counts l = total-link sound.trees p b n sound.distinct can (λ m _. cond (eqb m l) 1 0)

      stored : (l : ℕ) (s : Seen Content) → seek None (link sound.trees p b n) l ≡ Some s → get_or (new_slots slots next cap sound p b n can) (sound.at l) None ≡ Some (node_for (link sound.trees p b n) sound.at l s)
      stored l s e = by_seen (seek None sound.trees l) refl (sym (seek-link sound.trees p b n sound.distinct can l) ∙ e)
        where
          by_seen : (o : Option (Seen Content)) → seek None sound.trees l ≡ o → option_map (relinked p b n l) o ≡ Some s → get_or (new_slots slots next cap sound p b n can) (sound.at l) None ≡ Some (node_for (link sound.trees p b n) sound.at l s)
          by_seen None t h = absurd (let h' = h in cc)
          by_seen (Some o) t h =
              let same : relinked p b n l o ≡ s = (let h' = h in cc) in
              linked_at slots next cap sound p b n can l o t ∙ ap (λ x. Some (node_for (link sound.trees p b n) sound.at l x)) same

      back : (slot : ℕ) (x : Node) → get_or (new_slots slots next cap sound p b n can) slot None ≡ Some x → (0 < count_of (link sound.trees p b n) x.label) × (slot ≡ sound.at x.label)
      back slot x e =
          let labels = labels-linked slots (record { slot = sound.at p; label = p }) (link_to sound.at (prior slots next cap sound p b n can)) (link_to sound.at b) (record { slot = sound.at n; label = n }) in
          let held : get_or (map label_in slots) slot None ≡ Some x.label =
          ap (λ ls. get_or ls slot None) (sym labels) ∙ (get_or-map-label_in (new_slots slots next cap sound p b n can) slot ∙ ap label_in e) in
          let r = held_node slots next cap sound slot x.label held in
          (rw (counts x.label) (found_count sound.trees x.label r.0 r.1), r.2)

-- ---- the same for the references that the code has

-- each of these references names a held node
abbrev pub Held : List (Option Node) → NodeRef → Type 0
Held slots r = get_or (map label_in slots) r.slot None ≡ Some r.label

module _ (slots : List (Option Node)) (next cap : ℕ) (sound : IsSoundArena slots next cap) where
  pub ref_is : (r : NodeRef) → Held slots r → Some r ≡ link_to sound.at (Some r.label)
  ref_is r h = ap (λ k. Some (record { slot = k; label = r.label })) (held_node slots next cap sound r.slot r.label h).2

  pub link_is : (o : Option NodeRef) → IfSome o (Held slots) → o ≡ link_to sound.at (label o)
  link_is None h = refl
  link_is (Some r) h = ref_is r h

  pub prior_is : (parent : NodeRef) (before : Option NodeRef) → Held slots parent → IfSome before (Held slots) → IfSome (label before) (λ m. parent_of sound.trees m ≡ Some parent.label) → prior_link slots parent before ≡ link_to sound.at (prior_in (children_of sound.trees parent.label) (label before))
  prior_is parent None hp hb child = ap (λ (o : Option Node). option_and_then (λ n. n.last) o) (held_node slots next cap sound parent.slot parent.label hp).3
  prior_is parent (Some b) hp hb child =
      ap (λ (o : Option Node). option_and_then (λ n. n.prev) o) (held_node slots next cap sound b.slot b.label hb).3
      ∙ ap (λ q. link_to sound.at (option_and_then (λ k. before_in (children_of sound.trees k) b.label) q)) child

  -- a link to a label that stands in the list names a held node
  pub link_held : (o : Option ℕ) → IfSome o (λ k. 0 < count_of sound.trees k) → IfSome (link_to sound.at o) (Held slots)
  link_held None h = tt
  link_held (Some k) h =
      let r = seen sound.trees k sound.distinct h in
      get_or-map-label_in slots (sound.at k) ∙ ap label_in (sound.stored k r.0 r.2)

  pub some_of_held : (r : NodeRef) → Held slots r → IsSome (get_or slots r.slot None)
  some_of_held r h = rw (held_node slots next cap sound r.slot r.label h).3 refl

pub distinct_trees : (slots : List (Option Node)) (next cap : ℕ) → IsSoundArena slots next cap → IsDistinct (trees_of slots next)
distinct_trees slots next cap sound = subst IsDistinct (sym (trees_of-sound slots next cap sound)) sound.distinct

-- the slots are sound for this list
pub record Gives (slots new : List (Option Node)) (next cap : ℕ) (f : Forest Content) : Type 0 where
  pub sound : IsSoundArena new next cap
  pub trees : trees_of new next ≡ f
  pub held : map label_in new ≡ map label_in slots

module _ (slots : List (Option Node)) (next cap : ℕ) (sound : IsSoundArena slots next cap) (parent : NodeRef) (before : Option NodeRef) (node : NodeRef) (hp : Held slots parent) (hb : IfSome before (Held slots)) (hn : Held slots node) where
  same_trees : trees_of slots next ≡ sound.trees
  same_trees = trees_of-sound slots next cap sound

  gives_new : (can : CanPut sound.trees parent.label (label before) node.label) → Gives slots (new_slots slots next cap sound parent.label (label before) node.label can) next cap (link sound.trees parent.label (label before) node.label)
  unfolding sound-link
  gives_new can = record {
    sound = sound-link slots next cap sound parent.label (label before) node.label can;
    trees = trees_of-sound _ next cap (sound-link slots next cap sound parent.label (label before) node.label can);
    held = labels-linked slots _ _ _ _;
  }

  slots_are : (can : CanPut sound.trees parent.label (label before) node.label) → new_slots slots next cap sound parent.label (label before) node.label can ≡ linked_slots slots parent (prior_link slots parent before) before node
  slots_are can =
      let pr = prior_is slots next cap sound parent before hp hb can.before in
      let bs = link_is slots next cap sound before hb in
      let ps : record { slot = sound.at parent.label; label = parent.label } ≡ parent = ap (λ k. record { slot = k; label = parent.label }) (sym (held_node slots next cap sound parent.slot parent.label hp).2) in
      let ns : record { slot = sound.at node.label; label = node.label } ≡ node = ap (λ k. record { slot = k; label = node.label }) (sym (held_node slots next cap sound node.slot node.label hn).2) in
      λ i. linked_slots slots (ps i) (sym pr i) (sym bs i) (ns i)

  pub link_gives : CanPut (trees_of slots next) parent.label (label before) node.label → Gives slots (linked_slots slots parent (prior_link slots parent before) before node) next cap (link (trees_of slots next) parent.label (label before) node.label)
  link_gives can =
      let can' : CanPut sound.trees parent.label (label before) node.label = subst (λ f. CanPut f parent.label (label before) node.label) same_trees can in
      subst (λ f. Gives slots (linked_slots slots parent (prior_link slots parent before) before node) next cap (link f parent.label (label before) node.label)) (sym same_trees)
      (subst (λ xs. Gives slots xs next cap (link sound.trees parent.label (label before) node.label)) (slots_are can') (gives_new can'))

  -- the node before the place is held
  pub prior_some : CanPut (trees_of slots next) parent.label (label before) node.label → IfSome (prior_link slots parent before) (λ r. IsSome (get_or slots r.slot None))
  prior_some can =
      let can' : CanPut sound.trees parent.label (label before) node.label = subst (λ f. CanPut f parent.label (label before) node.label) same_trees can in
      let pr = prior_is slots next cap sound parent before hp hb can'.before in
      subst (λ o. IfSome o (λ (r : NodeRef). IsSome (get_or slots r.slot None))) (sym pr)
      (each_some (link_to sound.at (prior_in (children_of sound.trees parent.label) (label before))) (link_held slots next cap sound _ (prior_here slots next cap sound parent.label (label before) node.label can')))
    where
      each_some : (o : Option NodeRef) → IfSome o (Held slots) → IfSome o (λ r. IsSome (get_or slots r.slot None))
      each_some None h = tt
      each_some (Some r) h = some_of_held slots next cap sound r h

-- ---- for the value that a contract sees

pub record LinksTo (slots new : List (Option Node)) (next cap : ℕ) (index : List ℕ) (value : ArenaState) (prior : Option NodeRef) : Type 0 where
  pub arena : IsArena new next cap index
  pub is : state_of new next cap ≡ value
  pub prior_some : IfSome prior (λ r. IsSome (get_or slots r.slot None))

link_root : (slots : List (Option Node)) (next cap : ℕ) → IsSoundArena slots next cap → parent_of (trees_of slots next) 0 ≡ None → (p : ℕ) (b : Option ℕ) (n : ℕ) → CanPut (trees_of slots next) p b n → parent_of (link (trees_of slots next) p b n) 0 ≡ None
link_root slots next cap sound root p b n can =
    parent_of-link_root (trees_of slots next) p b n (distinct_trees slots next cap sound) can 0 (λ e. (let inner = can.inner in let none = rw e at inner in omega (arith, none))) root

pub link_state : (slots : List (Option Node)) (next cap : ℕ) (index : List ℕ) → IsArena slots next cap index → (old : ArenaState) → state_of slots next cap ≡ old → (parent : NodeRef) (before : Option NodeRef) (node : NodeRef) → Holds old parent → IfSome before (λ r. Holds old r) → Holds old node → CanLink old.trees parent.label (label before) node.label → LinksTo slots (linked_slots slots parent (prior_link slots parent before) before node) next cap index (record old { trees = link old.trees parent.label (label before) node.label }) (prior_link slots parent before)
link_state slots next cap index arena old is parent before node =
    subst (λ (o : ArenaState). Holds o parent → IfSome before (λ r. Holds o r) → Holds o node → CanLink o.trees parent.label (label before) node.label → LinksTo slots (linked_slots slots parent (prior_link slots parent before) before node) next cap index (record o { trees = link o.trees parent.label (label before) node.label }) (prior_link slots parent before)) is
    (λ hp hb hn can.
    let g = link_gives slots next cap arena.sound parent before node hp hb hn can.place in
    let once = distinct_trees slots next cap arena.sound in
    record {
      arena = record {
        sound = g.sound;
        document = ap (λ ls. get_or ls 0 None) g.held ∙ arena.document;
        root = ap (λ f. parent_of f 0) g.trees ∙ link_root slots next cap arena.sound arena.root parent.label (label before) node.label can.place;
        small = arena.small;
        nodes = subst AreNodes (sym g.trees) (nodes-link (trees_of slots next) parent.label (label before) node.label once can.place can.parent arena.nodes);
        long = arena.long;
        indexed = λ slot l h. arena.indexed slot l (ap (λ ls. get_or ls slot None) (sym g.held) ∙ h);
      };
      is = λ i. record { trees = g.trees i; next = next; cap = cap; held = g.held i };
      prior_some = prior_some slots next cap arena.sound parent before node hp hb hn can.place;
    })
