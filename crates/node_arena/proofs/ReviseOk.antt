-- A change of content keeps the slots sound.
use Rattle.std.proofs.Common.{◌≡◌, ℕ, ◌<◌, true, false, cond, List, get_or, map, Option, Some, None, refl, sym, ap, subst, ◌∙◌, arith, eqb}
use Rattle.std.specs.Option.{option_map, option_and_then}
use Rattle.dom_model.specs.declared.Content.{Content}
use Rattle.dom_model.specs.Contents.{IsNode}
use Rattle.dom_model.specs.ArenaState.{ArenaState}
use Rattle.dom_model.specs.Forest.{Forest, Seen, count_of, seek, parent_of, children_of, first_in, last_in, before_in, after_in}
use Rattle.dom_model.specs.Revised.{revised, revised_seen}
use Rattle.dom_model.proofs.Links.{found_count}
use Rattle.dom_model.proofs.Revising.{total-revised, seek-revised, RisesFrom-revised, parent_of-revised, children_of-revised}
use Rattle.node_arena.specs.declared.Node.{Node}
use Rattle.node_arena.specs.declared.NodeRef.{NodeRef}
use Rattle.node_arena.specs.Nodes.{label_in, link_to, node_for, trees_of, state_of}
use Rattle.node_arena.specs.Sound.{IsSoundArena, IsArena}
use Rattle.node_arena.specs.Held.{Holds}
use Rattle.node_arena.specs.Change.{change, with_content}
use Rattle.node_arena.proofs.ChangeLemmas.{map-label_in-change}
use Rattle.dom_model.proofs.NodesKept.{AreNodes, nodes-revised}
use Rattle.node_arena.proofs.Rebuild.{trees_of-sound}
use Rattle.node_arena.proofs.SoundLink.{get_or-map-label_in, held_node, changed_at, at_apart, same_node}
use Rattle.node_arena.proofs.UnlinkOk.{Leaves}

module _ (slots : List (Option Node)) (next cap : ℕ) (sound : IsSoundArena slots next cap) (n : ℕ) (here : 0 < count_of sound.trees n) (g : Content → Content) where
  abbrev f : Forest Content
  f = sound.trees

  abbrev new : List (Option Node)
  new = change slots (sound.at n) (with_content g)

  labels : map label_in new ≡ map label_in slots
  labels = map-label_in-change slots (sound.at n) (with_content g) (λ x. refl)

  counts : (l : ℕ) → count_of (revised f n g) l ≡ count_of f l
  counts l = total-revised n g (λ m. cond (eqb m l) 1 0) f

  node_is : (l : ℕ) (o : Seen Content) → cond (eqb n l) (with_content g (node_for f sound.at l o)) (node_for f sound.at l o) ≡ node_for (revised f n g) sound.at l (revised_seen n g l o)
  node_is l o = elim (eqb n l) as (λ v. cond v (with_content g (node_for f sound.at l o)) (node_for f sound.at l o) ≡ node_for (revised f n g) sound.at l (record { parent = o.parent; content = cond v (g o.content) o.content; children = o.children })) [
    | true ↦ fields (g o.content)
    | false ↦ fields o.content
  ]
    where
      kids : (k : ℕ) → children_of f k ≡ children_of (revised f n g) k
      kids k = sym (children_of-revised n g f k)

      par : parent_of f l ≡ parent_of (revised f n g) l
      par = sym (parent_of-revised n g f l)

      each_before : (q : Option ℕ) → option_and_then (λ p. before_in (children_of f p) l) q ≡ option_and_then (λ p. before_in (children_of (revised f n g) p) l) q
      each_before None = refl
      each_before (Some p) = ap (λ ks. before_in ks l) (kids p)

      each_after : (q : Option ℕ) → option_and_then (λ p. after_in (children_of f p) l) q ≡ option_and_then (λ p. after_in (children_of (revised f n g) p) l) q
      each_after None = refl
      each_after (Some p) = ap (λ ks. after_in ks l) (kids p)

      fields : (c : Content) → record (node_for f sound.at l o) { content = c } ≡ node_for (revised f n g) sound.at l (record { parent = o.parent; content = c; children = o.children })
      fields c =
          same_node
          refl
          refl
          refl
          (ap (λ ks. link_to sound.at (first_in ks)) (kids l))
          (ap (λ ks. link_to sound.at (last_in ks)) (kids l))
          (ap (link_to sound.at) (ap (option_and_then (λ p. before_in (children_of f p) l)) par ∙ each_before (parent_of (revised f n g) l)))
          (ap (link_to sound.at) (ap (option_and_then (λ p. after_in (children_of f p) l)) par ∙ each_after (parent_of (revised f n g) l)))

  pub sound-revised : IsSoundArena new next cap
  sound-revised = record {
    trees = revised f n g;
    at = sound.at;
    stored = λ l s e. stored l s e;
    back = λ slot x e. back slot x e;
    distinct = λ l. omega (arith, counts l, sound.distinct l);
    rising = RisesFrom-revised n g f 0 sound.rising;
    below = λ l h. sound.below l (omega (arith, h, counts l));
    few = omega (arith, sound.few, total-revised n g (λ _. 1) f);
    capped = sound.capped;
  }
    where
      stored : (l : ℕ) (s : Seen Content) → seek None (revised f n g) l ≡ Some s → get_or new (sound.at l) None ≡ Some (node_for (revised f n g) sound.at l s)
      stored l s e = by_seen (seek None f l) refl (sym (seek-revised n g None f l) ∙ e)
        where
          by_seen : (o : Option (Seen Content)) → seek None f l ≡ o → option_map (revised_seen n g l) o ≡ Some s → get_or new (sound.at l) None ≡ Some (node_for (revised f n g) sound.at l s)
          by_seen None t h = absurd (let h' = h in cc)
          by_seen (Some o) t h =
              let same : revised_seen n g l o ≡ s = (let h' = h in cc) in
              let one = changed_at slots (sound.at n) (sound.at l) (with_content g) (node_for f sound.at l o) (eqb n l) (sound.stored l o t) (at_apart slots next cap sound n l here (found_count f l o t)) in
              one ∙ (ap Some (node_is l o) ∙ ap (λ x. Some (node_for (revised f n g) sound.at l x)) same)

      back : (slot : ℕ) (x : Node) → get_or new slot None ≡ Some x → (0 < count_of (revised f n g) x.label) × (slot ≡ sound.at x.label)
      back slot x e =
          let held : get_or (map label_in slots) slot None ≡ Some x.label = ap (λ ls. get_or ls slot None) (sym labels) ∙ (get_or-map-label_in new slot ∙ ap label_in e) in
          let r = held_node slots next cap sound slot x.label held in
          (rw (counts x.label) (found_count f x.label r.0 r.1), r.2)

  pub revised_trees : trees_of new next ≡ revised (trees_of slots next) n g
  unfolding sound-revised
  revised_trees = trees_of-sound new next cap sound-revised ∙ ap (λ h. revised h n g) (sym (trees_of-sound slots next cap sound))

  pub revised_labels : map label_in new ≡ map label_in slots
  revised_labels = labels

pub revise_state : (slots : List (Option Node)) (next cap : ℕ) (index : List ℕ) → IsArena slots next cap index → (old : ArenaState) → state_of slots next cap ≡ old → (r : NodeRef) (g : Content → Content) → Holds old r → ((o : Seen Content) → seek None old.trees r.label ≡ Some o → IsNode r.label o → IsNode r.label (record { parent = o.parent; content = g o.content; children = o.children })) → Leaves (change slots r.slot (with_content g)) next cap index (record old { trees = revised old.trees r.label g })
revise_state slots next cap index arena old is r g =
    subst (λ (o : ArenaState). Holds o r → ((x : Seen Content) → seek None o.trees r.label ≡ Some x → IsNode r.label x → IsNode r.label (record { parent = x.parent; content = g x.content; children = x.children })) → Leaves (change slots r.slot (with_content g)) next cap index (record o { trees = revised o.trees r.label g })) is
    (λ held keeps.
    let s = arena.sound in
    let x = held_node slots next cap s r.slot r.label held in
    let here = found_count s.trees r.label x.0 x.1 in
    let trees = revised_trees slots next cap s r.label here g in
    let labels = revised_labels slots next cap s r.label here g in
    subst (λ k. Leaves (change slots k (with_content g)) next cap index (record { trees = revised (trees_of slots next) r.label g; next = next; cap = cap; held = map label_in slots })) (sym x.2)
    (record {
      arena = record {
        sound = sound-revised slots next cap s r.label here g;
        document = ap (λ ls. get_or ls 0 None) labels ∙ arena.document;
        root = ap (λ h. parent_of h 0) trees ∙ (parent_of-revised r.label g (trees_of slots next) 0 ∙ arena.root);
        small = arena.small;
        nodes = subst AreNodes (sym trees) (nodes-revised (trees_of slots next) r.label g keeps arena.nodes);
        long = arena.long;
        indexed = λ slot l h. arena.indexed slot l (ap (λ ls. get_or ls slot None) (sym labels) ∙ h);
      };
      is = λ i. record { trees = trees i; next = next; cap = cap; held = labels i };
    }))
