-- A new node keeps the slots sound, and they give back the list with a leaf more.
use Rattle.std.proofs.Math.ListN.{get_or-append}
use Rattle.std.proofs.Math.Seq.{get_or-append_seam}
use Rattle.std.proofs.Common.{◌≡◌, ◌≢◌, ◌↔◌, ℕ, zero, suc, ◌+◌, ◌<◌, ◌≤◌, ◌^◌, false, cond, List, [], ◌∷◌, ◌++◌, length, length-append, get_or, map, Option, Some, None, IfSome, refl, sym, ap, subst, ◌∙◌, inl, inr, arith, eqb}
use Rattle.std.proofs.lemmas.Bool.Decides.{eqb_tells}
use Rattle.std.specs.Option.{option_and_then}
use Rattle.dom_model.specs.declared.Content.{Content}
use Rattle.dom_model.specs.declared.Content.TheVariants.{Document}
use Rattle.dom_model.specs.ArenaState.{ArenaState, IsValid}
use Rattle.dom_model.specs.AttributeList.{IsDistinctNames}
use Rattle.dom_model.specs.Contents.{IsNode, attributes_in, char_length}
use Rattle.dom_model.specs.Forest.{Forest, Seen, total, count_of, IsDistinct, seek, parent_of, children_of, first_of, last_of, prev_of, next_of, before_in, after_in, first_in, last_in, with_leaf, RisesFrom}
use Rattle.dom_model.specs.Forest.Forest.{Nil, Tree}
use Rattle.dom_model.proofs.Stands.{times-tops, seek_absent}
use Rattle.dom_model.proofs.Links.{seen, found_count, parent_here, first_here, last_here, prev_here, next_here, total-with_leaf, seek-with_leaf_other, seek-with_leaf_new, parent_of-with_leaf, children_of-with_leaf, eqb_refl_true}
use Rattle.dom_model.proofs.Rising.{RisesFrom-with_leaf}
use Rattle.node_arena.specs.declared.Node.{Node}
use Rattle.node_arena.specs.declared.NodeRef.{NodeRef}
use Rattle.node_arena.specs.Nodes.{label_in, link_to, node_for, trees_of, state_of}
use Rattle.node_arena.specs.Sound.{IsSoundArena, IsArena}
use Rattle.node_arena.specs.Held.{Holds, label, leaf_node, Makes, IsNew}
use Rattle.dom_model.proofs.NodesKept.{AreNodes, nodes-with_leaf}
use Rattle.node_arena.proofs.Rebuild.{trees_of-sound}
use Rattle.node_arena.proofs.SoundLink.{get_or-map-label_in, held_node, same_node}

module _ (slots new : List (Option Node)) (next cap : ℕ) (sound : IsSoundArena slots next cap) (key : ℕ) (c : Content) (room : next < cap) (vacant : get_or slots key None ≡ None) (put : get_or new key None ≡ Some (leaf_node next c)) (others : (j : ℕ) → j ≢ key → get_or new j None ≡ get_or slots j None) where
  abbrev f : Forest Content
  f = sound.trees

  abbrev g : Forest Content
  g = with_leaf f next c

  abbrev at' : ℕ → ℕ
  at' l = cond (eqb l next) key (sound.at l)

  fresh : count_of f next ≡ 0
  fresh = by_count (count_of f next) refl
    where
      by_count : (k : ℕ) → count_of f next ≡ k → count_of f next ≡ 0
      by_count zero e = e
      by_count (suc k) e = absurd (let b = sound.below next (omega (arith, e)) in omega arith)

  off_next : (l : ℕ) → 0 < count_of f l → eqb l next ≡ false
  off_next l h = elim (eqb_tells l next) [ inl (_, is) ↦ absurd (let b = sound.below l h in omega (arith, is, b)) | inr (t, _) ↦ t ]

  link_same : (o : Option ℕ) → IfSome o (λ k. 0 < count_of f k) → link_to sound.at o ≡ link_to at' o
  link_same None h = refl
  link_same (Some k) h = rw (off_next k h) refl

  at_other : (l : ℕ) → 0 < count_of f l → sound.at l ≢ key
  at_other l h e =
      let s = seen f l sound.distinct h in
      let stored = sound.stored l s.0 s.2 in
      let none : get_or slots (sound.at l) None ≡ None = ap (λ k. get_or slots k None) e ∙ vacant in
      absurd cc

  counts : (l : ℕ) → count_of g l ≡ count_of f l + cond (eqb next l) 1 0
  counts l = total-with_leaf f next c fresh (λ m _. cond (eqb m l) 1 0)

  node_same : (l : ℕ) (s : Seen Content) → seek None f l ≡ Some s → node_for f sound.at l s ≡ node_for g at' l s
  node_same l s e =
      let once = sound.distinct in
      let kids = λ (k : ℕ). sym (children_of-with_leaf f next c fresh k) in
      let par = sym (parent_of-with_leaf f next c fresh l) in
      let own : parent_of f l ≡ s.parent = ap (option_and_then (λ (t : Seen Content). t.parent)) e in
      same_node
      refl
      refl
      (link_same s.parent (subst (λ o. IfSome o (λ k. 0 < count_of f k)) own (parent_here f l once)))
      (link_same (first_of f l) (first_here f l once) ∙ ap (λ ks. link_to at' (first_in ks)) (kids l))
      (link_same (last_of f l) (last_here f l once) ∙ ap (λ ks. link_to at' (last_in ks)) (kids l))
      (link_same (prev_of f l) (prev_here f l once) ∙ (ap (λ o. link_to at' (option_and_then (λ p. before_in (children_of f p) l) o)) par ∙ each_before (parent_of g l) l))
      (link_same (next_of f l) (next_here f l once) ∙ (ap (λ o. link_to at' (option_and_then (λ p. after_in (children_of f p) l) o)) par ∙ each_after (parent_of g l) l))
    where
      each_before : (o : Option ℕ) (l : ℕ) → link_to at' (option_and_then (λ p. before_in (children_of f p) l) o) ≡ link_to at' (option_and_then (λ p. before_in (children_of g p) l) o)
      each_before None l = refl
      each_before (Some p) l = ap (λ ks. link_to at' (before_in ks l)) (sym (children_of-with_leaf f next c fresh p))

      each_after : (o : Option ℕ) (l : ℕ) → link_to at' (option_and_then (λ p. after_in (children_of f p) l) o) ≡ link_to at' (option_and_then (λ p. after_in (children_of g p) l) o)
      each_after None l = refl
      each_after (Some p) l = ap (λ ks. link_to at' (after_in ks l)) (sym (children_of-with_leaf f next c fresh p))

  node_new : leaf_node next c ≡ node_for g at' next (record { parent = None; content = c; children = [] })
  node_new =
      let none = seek_absent None f next fresh in
      let kids : [] ≡ children_of g next = sym (children_of-with_leaf f next c fresh next ∙ rw none refl) in
      let par : None ≡ parent_of g next = sym (parent_of-with_leaf f next c fresh next ∙ rw none refl) in
      same_node
      refl
      refl
      refl
      (ap (λ ks. link_to at' (first_in ks)) kids)
      (ap (λ ks. link_to at' (last_in ks)) kids)
      (ap (λ o. link_to at' (option_and_then (λ p. before_in (children_of g p) next) o)) par)
      (ap (λ o. link_to at' (option_and_then (λ p. after_in (children_of g p) next) o)) par)

  sound-make : IsSoundArena new (next + 1) cap
  sound-make = record {
    trees = g;
    at = at';
    stored = λ l s e. stored l s e;
    back = λ slot x e. back slot x e;
    distinct = λ l. distinct l;
    rising = RisesFrom-with_leaf f 0 next c sound.rising (omega arith) (λ k some. sound.below k (omega (arith, some, times-tops f k)));
    below = λ l h. below l h;
    few = omega (arith, sound.few, total-with_leaf f next c fresh (λ _ _. 1));
    capped = omega (arith, room);
  }
    where
      distinct : (l : ℕ) → count_of g l ≤ 1
      distinct l = elim (eqb_tells next l) [
        | inl (t, is) ↦ (let e = counts l in let e' = rw t at e in let none' : count_of f l ≡ 0 = subst (λ k. count_of f k ≡ 0) is fresh in omega (arith, e', none'))
        | inr (t, _) ↦ (let e = counts l in let e' = rw t at e in omega (arith, e', sound.distinct l))
      ]

      below : (l : ℕ) → 0 < count_of g l → l < next + 1
      below l h = elim (eqb_tells next l) [
        | inl (_, is) ↦ omega (arith, is)
        | inr (t, _) ↦ (let e = counts l in let e' = rw t at e in let b = sound.below l (omega (arith, e', h)) in omega (arith, b))
      ]

      stored : (l : ℕ) (s : Seen Content) → seek None g l ≡ Some s → get_or new (at' l) None ≡ Some (node_for g at' l s)
      stored l s e = elim (eqb_tells next l) [
        | inl (t, is) ↦ (
            let new_is = seek-with_leaf_new f next c fresh in
            let same : record { parent = None; content = c; children = [] } ≡ s = (let e' = rw (← is) at e in cc) in
            let here : at' l ≡ key = rw (← is, eqb_refl_true next) refl in
            ap (λ k. get_or new k None) here ∙ (put ∙ ap Some (node_new ∙ (ap (λ x. node_for g at' next x) same ∙ ap (λ k. node_for g at' k s) is))))
        | inr (_, off) ↦ (
            let old : seek None f l ≡ Some s = sym (seek-with_leaf_other f next c fresh None f l off) ∙ e in
            let h = found_count f l s old in
            let here : at' l ≡ sound.at l = rw (off_next l h) refl in
            ap (λ k. get_or new k None) here ∙ (others (sound.at l) (at_other l h) ∙ (sound.stored l s old ∙ ap Some (node_same l s old))))
      ]

      back : (slot : ℕ) (x : Node) → get_or new slot None ≡ Some x → (0 < count_of g x.label) × (slot ≡ at' x.label)
      back slot x e = elim (eqb_tells slot key) [
        | inl (_, is) ↦ (
            let e' : get_or new key None ≡ Some x = ap (λ k. get_or new k None) (sym is) ∙ e in
            let same : next ≡ x.label = ap (λ (n : Node). n.label) (let t : leaf_node next c ≡ x = (let p = put in cc) in t) in (
              let few = counts next in let u = eqb_refl_true next in let few' = rw u at few in subst (λ k. 0 < count_of g k) same (omega (arith, few')),
              is ∙ subst (λ k. key ≡ at' k) same (rw (eqb_refl_true next) refl),
            ))
        | inr (_, off) ↦ (
            let old : get_or slots slot None ≡ Some x = sym (others slot off) ∙ e in
            let b = sound.back slot x old in
            (omega (arith, b.0, counts x.label), b.1 ∙ rw (off_next x.label b.0) refl))
      ]

  pub make_sound : IsSoundArena new (next + 1) cap
  make_sound = sound-make

  pub make_trees : trees_of new (next + 1) ≡ with_leaf (trees_of slots next) next c
  unfolding sound-make
  make_trees = trees_of-sound new (next + 1) cap sound-make ∙ ap (λ h. with_leaf h next c) (sym (trees_of-sound slots next cap sound))

  pub make_held : get_or (map label_in new) key None ≡ Some next
  make_held = get_or-map-label_in new key ∙ ap label_in put

  pub make_others : (j : ℕ) → j ≢ key → get_or (map label_in new) j None ≡ get_or (map label_in slots) j None
  make_others j off = get_or-map-label_in new j ∙ (ap label_in (others j off) ∙ sym (get_or-map-label_in slots j))

  pub make_keeps : (slot l : ℕ) → get_or (map label_in slots) slot None ≡ Some l → get_or (map label_in new) slot None ≡ Some l
  make_keeps slot l h = elim (eqb_tells slot key) [
    | inl (_, is) ↦ absurd (let none : get_or (map label_in slots) slot None ≡ None = get_or-map-label_in slots slot ∙ ap label_in (ap (λ k. get_or slots k None) is ∙ vacant) in cc)
    | inr (_, off) ↦ make_others slot off ∙ h
  ]

-- ---- for the value that a contract sees

pub record MakesTo (old : ArenaState) (new : List (Option Node)) (next cap : ℕ) (index : List ℕ) (r : NodeRef) (c : Content) : Type 0 where
  pub arena : IsArena new next cap index
  pub makes : Makes old (state_of new next cap) r c

-- a node without children and without a parent that may be one
pub lone_node : (l : ℕ) (c : Content) → (c ≡ Document ↔ (l ≡ 0)) → char_length c < 2 ^ 32 → IfSome (attributes_in c) IsDistinctNames → IsNode l (record { parent = None; content = c; children = [] })
lone_node l c document short names = record { document = document; leaf = λ _. refl; short = short; names = names }

-- the index with the slot of the next label
indexed_more : (slots new : List (Option Node)) (next : ℕ) (index : List ℕ) (key : ℕ) → length index ≡ next → ((slot l : ℕ) → get_or (map label_in slots) slot None ≡ Some l → (l < next) × (get_or index l 0 ≡ slot)) → get_or (map label_in new) key None ≡ Some next → ((j : ℕ) → j ≢ key → get_or (map label_in new) j None ≡ get_or (map label_in slots) j None) → (slot l : ℕ) → get_or (map label_in new) slot None ≡ Some l → get_or (index ++ key ∷ []) l 0 ≡ slot
indexed_more slots new next index key long old put others slot l h = elim (eqb_tells slot key) [
  | inl (_, is) ↦ (
      let same : l ≡ length index = (let t : Some l ≡ Some next = sym h ∙ (ap (λ k. get_or (map label_in new) k None) is ∙ put) in let u = long in cc) in
      ap (λ k. get_or (index ++ key ∷ []) k 0) same ∙ (get_or-append_seam index key [] 0 ∙ sym is))
  | inr (_, off) ↦ (
      let r = old slot l (sym (others slot off) ∙ h) in
      get_or-append index (key ∷ []) 0 l (omega (arith, r.0, long)) ∙ r.1)
]

pub make_state : (slots new : List (Option Node)) (next cap : ℕ) (index : List ℕ) → IsArena slots next cap index → (old : ArenaState) → state_of slots next cap ≡ old → (key : ℕ) (c : Content) → (c ≡ Document → ⊥) → char_length c < 2 ^ 32 → IfSome (attributes_in c) IsDistinctNames → next ≢ cap → get_or slots key None ≡ None → get_or new key None ≡ Some (leaf_node next c) → ((j : ℕ) → j ≢ key → get_or new j None ≡ get_or slots j None) → MakesTo old new (next + 1) cap (index ++ key ∷ []) (record { slot = key; label = next }) c
make_state slots new next cap index arena old is key c plain short names ne vacant put others =
    let room : next < cap = omega (arith, arena.sound.capped, ne) in
    let trees = make_trees slots new next cap arena.sound key c room vacant put others in
    let keeps = make_keeps slots new next cap arena.sound key c room vacant put others in
    let held = make_held slots new next cap arena.sound key c room vacant put others in
    let zero = held_below 0 0 arena.document in
    record {
      arena = record {
        sound = make_sound slots new next cap arena.sound key c room vacant put others;
        document = keeps 0 0 arena.document;
        root = ap (λ h. parent_of h 0) trees ∙ (parent_of-with_leaf (trees_of slots next) next c none 0 ∙ arena.root);
        small = arena.small;
        nodes = subst AreNodes (sym trees) (nodes-with_leaf (trees_of slots next) next c none (lone_node next c (λ e. absurd (plain e), λ e. absurd (omega (arith, e, zero))) short names) arena.nodes);
        long = length-append index (key ∷ []) ∙ ap (λ n. n + 1) arena.long;
        indexed = indexed_more slots new next index key arena.long (λ slot l h. (held_below slot l h, arena.indexed slot l h)) held (make_others slots new next cap arena.sound key c room vacant put others);
      };
      makes = record {
        trees = trees ∙ ap (λ (o : ArenaState). with_leaf o.trees o.next c) is;
        next = ap (λ (o : ArenaState). o.next + 1) is;
        cap = ap (λ (o : ArenaState). o.cap) is;
        label = ap (λ (o : ArenaState). o.next) is;
        held = held;
        keeps = λ q h. keeps q.slot q.label (subst (λ (o : ArenaState). Holds o q) (sym is) h);
        others = λ q h off. subst (λ (o : ArenaState). Holds o q) is (sym (make_others slots new next cap arena.sound key c room vacant put others q.slot off) ∙ h);
      };
    }
  where
    none : count_of (trees_of slots next) next ≡ 0
    none = subst (λ h. count_of h next ≡ 0) (sym (trees_of-sound slots next cap arena.sound)) (fresh slots new next cap arena.sound key c (omega (arith, arena.sound.capped, ne)) vacant put others)

    held_below : (slot l : ℕ) → get_or (map label_in slots) slot None ≡ Some l → l < next
    held_below slot l h = (let r = held_node slots next cap arena.sound slot l h in arena.sound.below l (found_count arena.sound.trees l r.0 r.1))

empty_sound : (cap : ℕ) → IsSoundArena [] 0 cap
empty_sound cap = record {
  trees = Nil;
  at = λ _. 0;
  stored = λ l s e. absurd (let e' = e in cc);
  back = λ slot n e. absurd (let e' = e in cc);
  distinct = λ l. omega arith;
  rising = tt;
  below = λ l h. absurd (omega (arith, h));
  few = omega arith;
  capped = omega arith;
}

pub record NewTo (new : List (Option Node)) (cap : ℕ) : Type 0 where
  pub arena : IsArena new 1 cap (0 ∷ [])
  pub is : IsNew (state_of new 1 cap) cap

pub new_state : (new : List (Option Node)) (cap : ℕ) → 0 < cap → cap < 2 ^ 32 → get_or new 0 None ≡ Some (leaf_node 0 Document) → ((j : ℕ) → j ≢ 0 → get_or new j None ≡ None) → NewTo new cap
new_state new cap room small put others =
    let s = empty_sound cap in
    let trees : trees_of new 1 ≡ Tree 0 Document Nil Nil = make_trees [] new 0 cap s 0 Document room refl put others in
    let held = make_held [] new 0 cap s 0 Document room refl put others in
    let only : (slot l : ℕ) → get_or (map label_in new) slot None ≡ Some l → (slot ≡ 0) × (l ≡ 0) = λ slot l h. elim (eqb_tells slot 0) [
      | inl (_, is) ↦ (is, (let h' : get_or (map label_in new) 0 None ≡ Some l = ap (λ k. get_or (map label_in new) k None) (sym is) ∙ h in let both : Some l ≡ Some 0 = sym h' ∙ held in cc))
      | inr (_, off) ↦ absurd (let none : get_or (map label_in new) slot None ≡ None = make_others [] new 0 cap s 0 Document room refl put others slot off in cc)
    ] in
    record {
      arena = record {
        sound = make_sound [] new 0 cap s 0 Document room refl put others;
        document = held;
        root = ap (λ h. parent_of h 0) trees;
        small = small;
        nodes = subst AreNodes (sym trees) (nodes-with_leaf Nil 0 Document refl (lone_node 0 Document (λ _. refl, λ _. refl) (omega arith) tt) (λ l s e. absurd (let e' = e in cc)));
        long = refl;
        indexed = λ slot l h. (let r = only slot l h in ap (λ k. get_or (0 ∷ []) k 0) r.1 ∙ sym r.0);
      };
      is = record {
        trees = trees;
        next = refl;
        cap = refl;
        others = λ q h. only q.slot q.label h;
      };
    }

pub valid_state : (slots : List (Option Node)) (next cap : ℕ) (index : List ℕ) → IsArena slots next cap index → (old : ArenaState) → state_of slots next cap ≡ old → IsValid old
valid_state slots next cap index arena old is = subst IsValid is (record {
  distinct = subst IsDistinct back s.distinct;
  rising = subst (RisesFrom 0) back s.rising;
  below = subst (λ h. (l : ℕ) → 0 < count_of h l → l < next) back s.below;
  few = subst (λ h. total (λ _ _. 1) h ≤ next) back s.few;
  capped = s.capped;
  small = arena.small;
  here = here;
  document = here 0 0 arena.document;
  root = arena.root;
  nodes = arena.nodes;
})
  where
    s : IsSoundArena slots next cap
    s = arena.sound

    back : arena.sound.trees ≡ trees_of slots next
    back = sym (trees_of-sound slots next cap arena.sound)

    here : (slot label : ℕ) → get_or (map label_in slots) slot None ≡ Some label → 0 < count_of (trees_of slots next) label
    here slot label h = subst (λ g. 0 < count_of g label) back (let r = held_node slots next cap arena.sound slot label h in found_count arena.sound.trees label r.0 r.1)
