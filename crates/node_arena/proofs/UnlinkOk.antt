-- Making a tree loose keeps the slots sound, and they give back the list with that tree loose.
use Rattle.std.proofs.Common.{◌≡◌, ℕ, ◌<◌, Bool, true, false, cond, List, get_or, map, Option, Some, None, refl, sym, ap, subst, ◌∙◌, inl, inr, arith, eqb}
use Rattle.std.proofs.lemmas.Bool.Decides.{eqb_tells}
use Rattle.std.specs.Option.{option_map}
use Rattle.dom_model.specs.declared.Content.{Content}
use Rattle.dom_model.specs.ArenaState.{ArenaState}
use Rattle.dom_model.specs.Forest.{Seen, count_of, seek, parent_of, children_of, first_of, last_of, prev_of, next_of, is_label, tops, times, without, put_rising, unlink, unlinked, RisesFrom}
use Rattle.dom_model.proofs.Totals.{total-unlink}
use Rattle.dom_model.proofs.Stands.{times-tops}
use Rattle.dom_model.proofs.Lists.{before_not_self, after_not_self}
use Rattle.dom_model.proofs.Links.{found_count, parent_of-unlink_root, parent_count, prev_here, next_here, once_of_p, gone_n, tree_n, seek-unlink, first_of-unlink, last_of-unlink, prev_of-unlink, next_of-unlink, IsDistinct-unlink}
use Rattle.dom_model.proofs.Rising.{RisesFrom-without, RisesFrom-put_rising}
use Rattle.node_arena.specs.declared.Node.{Node}
use Rattle.node_arena.specs.declared.NodeRef.{NodeRef}
use Rattle.node_arena.specs.Nodes.{label_in, link_to, node_for, trees_of, state_of}
use Rattle.node_arena.specs.Sound.{IsSoundArena, IsArena}
use Rattle.node_arena.specs.Held.{Holds, NamesHeld}
use Rattle.node_arena.specs.Change.{placed, unlinked_slots}
use Rattle.node_arena.proofs.ChangeLemmas.{map-label_in-change}
use Rattle.node_arena.proofs.Rebuild.{trees_of-sound}
use Rattle.node_arena.proofs.Merge.{mark, next_step, prev_step, after_unlink, merge_unlink}
use Rattle.node_arena.proofs.SoundLink.{get_or-map-label_in, held_node, changed_at, at_apart, next_changed_at, prev_changed_at, same_node, link_to-cond, is_none-link_to, mark-link_to, pick_inner}
use Rattle.dom_model.proofs.NodesKept.{AreNodes, nodes-unlink}
use Rattle.node_arena.proofs.LinkOk.{distinct_trees, labels-next_changed, labels-prev_changed, Gives, link_is}

pub labels-unlinked : (xs : List (Option Node)) (p : NodeRef) (prior after : Option NodeRef) (n : NodeRef) → map label_in (unlinked_slots xs p prior after n) ≡ map label_in xs
labels-unlinked xs p prior after n =
    labels-prev_changed _ p after prior ∙ (labels-next_changed _ p prior after ∙ map-label_in-change xs n.slot (placed None None None) (λ x. refl))

-- the same two picks, where the outer one is None
pub pick_none : (at : ℕ → ℕ) (v w w' : Bool) (b c : Option ℕ) → w ≡ w' → cond v None (cond w (link_to at b) (link_to at c)) ≡ link_to at (cond v None (cond w' b c))
pick_none at true w w' b c e = refl
pick_none at false w w' b c e = rw e (sym (link_to-cond at w' b c))

module _ (slots : List (Option Node)) (next cap : ℕ) (sound : IsSoundArena slots next cap) (p n : ℕ) (child : parent_of sound.trees n ≡ Some p) where
  abbrev ref : ℕ → NodeRef
  ref l = record { slot = sound.at l; label = l }

  abbrev prior : Option ℕ
  prior = prev_of sound.trees n

  abbrev after : Option ℕ
  after = next_of sound.trees n

  abbrev loose_slots : List (Option Node)
  loose_slots = unlinked_slots slots (ref p) (link_to sound.at prior) (link_to sound.at after) (ref n)

  not_prior : is_label prior n ≡ false
  not_prior = rw child (before_not_self (children_of sound.trees p) n)

  not_after : is_label after n ≡ false
  not_after = rw child (after_not_self (children_of sound.trees p) n (once_of_p sound.trees p n sound.distinct child n))

  loose_at : (l : ℕ) (s : Seen Content) → seek None sound.trees l ≡ Some s → get_or loose_slots (sound.at l) None ≡ Some (node_for (unlink sound.trees n) sound.at l (unlinked p n l s))
  loose_at l s e =
      let hl = found_count sound.trees l s e in
      let here = parent_count sound.trees n p sound.distinct child in
      let one = changed_at slots (sound.at n) (sound.at l) (placed None None None) (node_for sound.trees sound.at l s) (eqb n l) (sound.stored l s e) (at_apart slots next cap sound n l here.0 hl) in
      let two = next_changed_at slots next cap sound _ p l prior (link_to sound.at after) _ here.1 hl (prev_here sound.trees n sound.distinct) one in
      let three = prev_changed_at slots next cap sound _ p l after (link_to sound.at prior) _ here.1 hl (next_here sound.trees n sound.distinct) two in
      three ∙ ap Some (merged ∙ fields)
    where
      same : eqb n l ≡ true → n ≡ l
      same t = elim (eqb_tells n l) [ inl (_, is) ↦ is | inr (u, _) ↦ absurd cc ]

      at_l : (o : Option ℕ) → is_label o n ≡ false → eqb n l ≡ true → mark (link_to sound.at o) (is_label o l) ≡ false
      at_l o off t = mark-link_to sound.at o l ∙ subst (λ k. is_label o k ≡ false) (same t) off

      merged : prev_step (link_to sound.at after) (link_to sound.at prior) (eqb p l) (is_label after l) (next_step (link_to sound.at prior) (link_to sound.at after) (eqb p l) (is_label prior l) (cond (eqb n l) (placed None None None (node_for sound.trees sound.at l s)) (node_for sound.trees sound.at l s))) ≡ after_unlink (link_to sound.at prior) (link_to sound.at after) (eqb n l) (eqb p l) (is_label prior l) (is_label after l) (node_for sound.trees sound.at l s)
      merged = merge_unlink (link_to sound.at prior) (link_to sound.at after) (eqb n l) (eqb p l) (is_label prior l) (is_label after l) (node_for sound.trees sound.at l s) (at_l prior not_prior) (at_l after not_after)

      fields : after_unlink (link_to sound.at prior) (link_to sound.at after) (eqb n l) (eqb p l) (is_label prior l) (is_label after l) (node_for sound.trees sound.at l s) ≡ node_for (unlink sound.trees n) sound.at l (unlinked p n l s)
      fields =
          same_node
          refl
          refl
          (sym (link_to-cond sound.at (eqb n l) None s.parent))
          (pick_inner sound.at (eqb p l) _ _ after (first_of sound.trees l) (first_of sound.trees l) (is_none-link_to sound.at prior) ∙ ap (link_to sound.at) (sym (first_of-unlink sound.trees p n sound.distinct child l)))
          (pick_inner sound.at (eqb p l) _ _ prior (last_of sound.trees l) (last_of sound.trees l) (is_none-link_to sound.at after) ∙ ap (link_to sound.at) (sym (last_of-unlink sound.trees p n sound.distinct child l)))
          (pick_none sound.at (eqb n l) _ _ prior (prev_of sound.trees l) (mark-link_to sound.at after l) ∙ ap (link_to sound.at) (sym (prev_of-unlink sound.trees p n sound.distinct child l s e)))
          (pick_none sound.at (eqb n l) _ _ after (next_of sound.trees l) (mark-link_to sound.at prior l) ∙ ap (link_to sound.at) (sym (next_of-unlink sound.trees p n sound.distinct child l s e)))

  sound-unlink : IsSoundArena loose_slots next cap
  sound-unlink = record {
    trees = unlink sound.trees n;
    at = sound.at;
    stored = λ l s e. stored l s e;
    back = λ slot x e. back slot x e;
    distinct = IsDistinct-unlink sound.trees p n sound.distinct child;
    rising = rising;
    below = λ l h. sound.below l (omega (arith, h, counts l));
    few = omega (arith, sound.few, total-unlink (λ _ _. 1) sound.trees n);
    capped = sound.capped;
  }
    where
      counts : (l : ℕ) → count_of (unlink sound.trees n) l ≡ count_of sound.trees l
      counts l = total-unlink (λ m _. cond (eqb m l) 1 0) sound.trees n

      rising : RisesFrom 0 (unlink sound.trees n)
      rising =
          let t = tree_n sound.trees p n sound.distinct child in
          let none : times (tops (without sound.trees n)) n ≡ 0 = omega (arith, times-tops (without sound.trees n) n, gone_n sound.trees p n sound.distinct child) in
          subst (λ g. RisesFrom 0 (put_rising (without sound.trees n) n g)) (sym t.2)
          (RisesFrom-put_rising (without sound.trees n) 0 n t.0 t.1 (RisesFrom-without sound.trees 0 n sound.rising) (omega arith) none)

      stored : (l : ℕ) (s : Seen Content) → seek None (unlink sound.trees n) l ≡ Some s → get_or loose_slots (sound.at l) None ≡ Some (node_for (unlink sound.trees n) sound.at l s)
      stored l s e = by_seen (seek None sound.trees l) refl (sym (seek-unlink sound.trees p n sound.distinct child l) ∙ e)
        where
          by_seen : (o : Option (Seen Content)) → seek None sound.trees l ≡ o → option_map (unlinked p n l) o ≡ Some s → get_or loose_slots (sound.at l) None ≡ Some (node_for (unlink sound.trees n) sound.at l s)
          by_seen None t h = absurd (let h' = h in cc)
          by_seen (Some o) t h =
              let same : unlinked p n l o ≡ s = (let h' = h in cc) in
              loose_at l o t ∙ ap (λ x. Some (node_for (unlink sound.trees n) sound.at l x)) same

      back : (slot : ℕ) (x : Node) → get_or loose_slots slot None ≡ Some x → (0 < count_of (unlink sound.trees n) x.label) × (slot ≡ sound.at x.label)
      back slot x e =
          let labels = labels-unlinked slots (ref p) (link_to sound.at prior) (link_to sound.at after) (ref n) in
          let held : get_or (map label_in slots) slot None ≡ Some x.label =
          ap (λ ls. get_or ls slot None) (sym labels) ∙ (get_or-map-label_in loose_slots slot ∙ ap label_in e) in
          let r = held_node slots next cap sound slot x.label held in
          (rw (counts x.label) (found_count sound.trees x.label r.0 r.1), r.2)

  gives_loose : Gives slots loose_slots next cap (unlink sound.trees n)
  unfolding sound-unlink
  gives_loose = record {
    sound = sound-unlink;
    trees = trees_of-sound _ next cap sound-unlink;
    held = labels-unlinked slots (ref p) (link_to sound.at prior) (link_to sound.at after) (ref n);
  }

-- ---- for the value that a contract sees

pub record Leaves (new : List (Option Node)) (next cap : ℕ) (index : List ℕ) (value : ArenaState) : Type 0 where
  pub arena : IsArena new next cap index
  pub is : state_of new next cap ≡ value

pub unlink_state : (slots : List (Option Node)) (next cap : ℕ) (index : List ℕ) → IsArena slots next cap index → (old : ArenaState) → state_of slots next cap ≡ old → (parent : NodeRef) (prior after : Option NodeRef) (node : NodeRef) → Holds old node → NamesHeld old (Some parent) (parent_of old.trees node.label) → NamesHeld old prior (prev_of old.trees node.label) → NamesHeld old after (next_of old.trees node.label) → Leaves (unlinked_slots slots parent prior after node) next cap index (record old { trees = unlink old.trees node.label })
unlink_state slots next cap index arena old is parent prior after node =
    subst (λ (o : ArenaState). Holds o node → NamesHeld o (Some parent) (parent_of o.trees node.label) → NamesHeld o prior (prev_of o.trees node.label) → NamesHeld o after (next_of o.trees node.label) → Leaves (unlinked_slots slots parent prior after node) next cap index (record o { trees = unlink o.trees node.label })) is
    (λ hn np nb na.
    let sound = arena.sound in
    let f = sound.trees in
    let same : trees_of slots next ≡ f = trees_of-sound slots next cap sound in
    let child : parent_of f node.label ≡ Some parent.label = ap (λ g. parent_of g node.label) (sym same) ∙ sym np.is in
    let g = gives_loose slots next cap sound parent.label node.label child in
    let ps : record { slot = sound.at parent.label; label = parent.label } ≡ parent = ap (λ k. record { slot = k; label = parent.label }) (sym (held_node slots next cap sound parent.slot parent.label np.held).2) in
    let ns : record { slot = sound.at node.label; label = node.label } ≡ node = ap (λ k. record { slot = k; label = node.label }) (sym (held_node slots next cap sound node.slot node.label hn).2) in
    let bs : link_to sound.at (prev_of f node.label) ≡ prior = sym (link_is slots next cap sound prior nb.held ∙ ap (link_to sound.at) (nb.is ∙ ap (λ h. prev_of h node.label) same)) in
    let al : link_to sound.at (next_of f node.label) ≡ after = sym (link_is slots next cap sound after na.held ∙ ap (link_to sound.at) (na.is ∙ ap (λ h. next_of h node.label) same)) in
    let all : Gives slots (unlinked_slots slots parent prior after node) next cap (unlink f node.label) = subst (λ xs. Gives slots xs next cap (unlink f node.label)) (λ i. unlinked_slots slots (ps i) (bs i) (al i) (ns i)) g in
    record {
      arena = record {
        sound = all.sound;
        document = ap (λ ls. get_or ls 0 None) all.held ∙ arena.document;
        root = ap (λ h. parent_of h 0) all.trees ∙ parent_of-unlink_root f parent.label node.label sound.distinct child 0 (ap (λ h. parent_of h 0) (sym same) ∙ arena.root);
        small = arena.small;
        nodes = subst AreNodes (sym (all.trees ∙ ap (λ h. unlink h node.label) (sym same))) (nodes-unlink (trees_of slots next) parent.label node.label (distinct_trees slots next cap sound) (sym np.is) arena.nodes);
        long = arena.long;
        indexed = λ slot l h. arena.indexed slot l (ap (λ ls. get_or ls slot None) (sym all.held) ∙ h);
      };
      is = λ i. record { trees = (all.trees ∙ ap (λ h. unlink h node.label) (sym same)) i; next = next; cap = cap; held = all.held i };
    })
