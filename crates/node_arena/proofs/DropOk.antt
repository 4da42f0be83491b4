-- A loose leaf that is given up leaves the slots sound.
use Rattle.std.proofs.Common.{◌≡◌, ◌≢◌, ℕ, ◌+◌, ◌<◌, cond, List, [], ◌∷◌, get_or, map, Option, Some, None, refl, sym, ap, subst, ◌∙◌, inl, inr, arith, eqb}
use Rattle.std.proofs.lemmas.Bool.Decides.{eqb_tells}
use Rattle.std.specs.Option.{option_map_or, option_and_then}
use Rattle.dom_model.specs.declared.Content.{Content}
use Rattle.dom_model.specs.ArenaState.{ArenaState}
use Rattle.dom_model.specs.Forest.{Forest, Seen, count_of, IsDistinct, seek, parent_of, children_of, first_of, before_in, after_in, first_in, last_in, tree_of, without}
use Rattle.dom_model.specs.Forest.Forest.{Nil, Tree}
use Rattle.dom_model.proofs.Totals.{total-without}
use Rattle.dom_model.proofs.Stands.{seek_absent}
use Rattle.dom_model.proofs.Links.{seen, found_count, tree_is, eqb_refl_true}
use Rattle.dom_model.proofs.Drop.{IsDistinct-without, seek-without, leaf_out}
use Rattle.dom_model.proofs.Rising.{RisesFrom-without}
use Rattle.node_arena.specs.declared.Node.{Node}
use Rattle.node_arena.specs.declared.NodeRef.{NodeRef}
use Rattle.node_arena.specs.Nodes.{label_in, link_to, node_for, trees_of, state_of}
use Rattle.node_arena.specs.Sound.{IsSoundArena, IsArena}
use Rattle.node_arena.specs.Held.{Holds, Drops}
use Rattle.dom_model.proofs.NodesKept.{AreNodes, nodes-without}
use Rattle.node_arena.proofs.Rebuild.{trees_of-sound}
use Rattle.node_arena.proofs.SoundLink.{get_or-map-label_in, held_node, same_node}

module _ (slots new : List (Option Node)) (next cap : ℕ) (sound : IsSoundArena slots next cap) (n : ℕ) (here : 0 < count_of sound.trees n) (root : parent_of sound.trees n ≡ None) (leaf : first_of sound.trees n ≡ None) (gone : get_or new (sound.at n) None ≡ None) (others : (j : ℕ) → j ≢ sound.at n → get_or new j None ≡ get_or slots j None) where
  abbrev f : Forest Content
  f = sound.trees

  abbrev g : Forest Content
  g = without f n

  own : (c : Content) × (ks : Forest Content) × (tree_of f n ≡ Tree n c ks Nil)
  own = tree_is f n (omega (arith, here, sound.distinct n))

  counts : (l : ℕ) → count_of g l + count_of (tree_of f n) l ≡ count_of f l
  counts l = total-without (λ m _. cond (eqb m l) 1 0) f n

  n_gone : count_of g n ≡ 0
  n_gone = (let some : 0 < count_of (tree_of f n) n = rw own.2 (let t = eqb_refl_true n in rw t (omega arith)) in omega (arith, counts n, some, sound.distinct n))

  out : (l : ℕ) → n ≢ l → count_of (tree_of f n) l ≡ 0
  out l off = leaf_out f n sound.distinct here root leaf l off

  seek_other : (l : ℕ) → n ≢ l → seek None g l ≡ seek None f l
  seek_other l off = seek-without f n sound.distinct here root l (out l off)

  parents : (l : ℕ) → parent_of g l ≡ parent_of f l
  parents l = elim (eqb_tells n l) [
    | inl (_, is) ↦ subst (λ k. parent_of g k ≡ parent_of f k) is (ap (option_and_then (λ (s : Seen Content). s.parent)) (seek_absent None g n n_gone) ∙ sym root)
    | inr (_, off) ↦ ap (option_and_then (λ (s : Seen Content). s.parent)) (seek_other l off)
  ]

  none_in : (xs : List ℕ) → first_in xs ≡ None → [] ≡ xs
  none_in [] e = refl
  none_in (x ∷ xs) e = absurd (let e' = e in cc)

  kids : (l : ℕ) → children_of g l ≡ children_of f l
  kids l = elim (eqb_tells n l) [
    | inl (_, is) ↦ subst (λ k. children_of g k ≡ children_of f k) is (ap (λ o. option_map_or (λ (s : Seen Content). s.children) o []) (seek_absent None g n n_gone) ∙ none_in (children_of f n) leaf)
    | inr (_, off) ↦ ap (λ o. option_map_or (λ (s : Seen Content). s.children) o []) (seek_other l off)
  ]

  node_same : (l : ℕ) (s : Seen Content) → node_for f sound.at l s ≡ node_for g sound.at l s
  node_same l s =
      same_node
      refl
      refl
      refl
      (ap (λ ks. link_to sound.at (first_in ks)) (sym (kids l)))
      (ap (λ ks. link_to sound.at (last_in ks)) (sym (kids l)))
      (ap (λ o. link_to sound.at (option_and_then (λ p. before_in (children_of f p) l) o)) (sym (parents l)) ∙ each_before (parent_of g l))
      (ap (λ o. link_to sound.at (option_and_then (λ p. after_in (children_of f p) l) o)) (sym (parents l)) ∙ each_after (parent_of g l))
    where
      each_before : (o : Option ℕ) → link_to sound.at (option_and_then (λ p. before_in (children_of f p) l) o) ≡ link_to sound.at (option_and_then (λ p. before_in (children_of g p) l) o)
      each_before None = refl
      each_before (Some p) = ap (λ ks. link_to sound.at (before_in ks l)) (sym (kids p))

      each_after : (o : Option ℕ) → link_to sound.at (option_and_then (λ p. after_in (children_of f p) l) o) ≡ link_to sound.at (option_and_then (λ p. after_in (children_of g p) l) o)
      each_after None = refl
      each_after (Some p) = ap (λ ks. link_to sound.at (after_in ks l)) (sym (kids p))

  pub sound-drop : IsSoundArena new next cap
  sound-drop = record {
    trees = g;
    at = sound.at;
    stored = λ l s e. stored l s e;
    back = λ slot x e. back slot x e;
    distinct = IsDistinct-without f n sound.distinct here root;
    rising = RisesFrom-without f 0 n sound.rising;
    below = λ l h. sound.below l (omega (arith, h, counts l));
    few = omega (arith, sound.few, total-without (λ _ _. 1) f n);
    capped = sound.capped;
  }
    where
      stored : (l : ℕ) (s : Seen Content) → seek None g l ≡ Some s → get_or new (sound.at l) None ≡ Some (node_for g sound.at l s)
      stored l s e = elim (eqb_tells n l) [
        | inl (_, is) ↦ absurd (let none = subst (λ k. seek None g k ≡ None) is (seek_absent None g n n_gone) in cc)
        | inr (_, off) ↦ (
            let old : seek None f l ≡ Some s = sym (seek_other l off) ∙ e in
            let apart : sound.at l ≢ sound.at n = λ same. off (let a = sound.stored l s old in let r = seen f n sound.distinct here in let b = sound.stored n r.0 r.2 in let b' : get_or slots (sound.at l) None ≡ Some (node_for f sound.at n r.0) = ap (λ k. get_or slots k None) same ∙ b in let labels : Some n ≡ Some l = ap label_in (sym b' ∙ a) in cc) in
            others (sound.at l) apart ∙ (sound.stored l s old ∙ ap Some (node_same l s)))
      ]

      back : (slot : ℕ) (x : Node) → get_or new slot None ≡ Some x → (0 < count_of g x.label) × (slot ≡ sound.at x.label)
      back slot x e = elim (eqb_tells slot (sound.at n)) [
        | inl (_, is) ↦ absurd (let none : get_or new slot None ≡ None = ap (λ k. get_or new k None) is ∙ gone in cc)
        | inr (_, off) ↦ (
            let old : get_or slots slot None ≡ Some x = sym (others slot off) ∙ e in
            let b = sound.back slot x old in
            let apart : n ≢ x.label = λ same. off (b.1 ∙ ap sound.at (sym same)) in
            (omega (arith, b.0, counts x.label, out x.label apart), b.1))
      ]

  pub drop_trees : trees_of new next ≡ without (trees_of slots next) n
  unfolding sound-drop
  drop_trees = trees_of-sound new next cap sound-drop ∙ ap (λ h. without h n) (sym (trees_of-sound slots next cap sound))

  pub parents_of : (t : Forest Content) → t ≡ f → (l : ℕ) → parent_of (without t n) l ≡ parent_of t l
  parents_of t is l = ap (λ h. parent_of (without h n) l) is ∙ (parents l ∙ ap (λ h. parent_of h l) (sym is))

-- ---- for the value that a contract sees

pub record DropsTo (old : ArenaState) (new : List (Option Node)) (next cap : ℕ) (index : List ℕ) (r : NodeRef) : Type 0 where
  pub arena : IsArena new next cap index
  pub drops : Drops old (state_of new next cap) r

pub drop_state : (slots new : List (Option Node)) (next cap : ℕ) (index : List ℕ) → IsArena slots next cap index → (old : ArenaState) → state_of slots next cap ≡ old → (r : NodeRef) → Holds old r → 0 < r.label → parent_of old.trees r.label ≡ None → first_of old.trees r.label ≡ None → get_or new r.slot None ≡ None → ((j : ℕ) → j ≢ r.slot → get_or new j None ≡ get_or slots j None) → DropsTo old new next cap index r
drop_state slots new next cap index arena old is r =
    subst (λ (o : ArenaState). Holds o r → 0 < r.label → parent_of o.trees r.label ≡ None → first_of o.trees r.label ≡ None → get_or new r.slot None ≡ None → ((j : ℕ) → j ≢ r.slot → get_or new j None ≡ get_or slots j None) → DropsTo o new next cap index r) is
    (λ held inner root leaf gone others.
    let s = arena.sound in
    let same : trees_of slots next ≡ s.trees = trees_of-sound slots next cap s in
    let x = held_node slots next cap s r.slot r.label held in
    let here = found_count s.trees r.label x.0 x.1 in
    let root' : parent_of s.trees r.label ≡ None = ap (λ h. parent_of h r.label) (sym same) ∙ root in
    let leaf' : first_of s.trees r.label ≡ None = ap (λ h. first_of h r.label) (sym same) ∙ leaf in
    let gone' : get_or new (s.at r.label) None ≡ None = ap (λ k. get_or new k None) (sym x.2) ∙ gone in
    let others' : (j : ℕ) → j ≢ s.at r.label → get_or new j None ≡ get_or slots j None = λ j off. others j (λ e. off (e ∙ x.2)) in
    let trees = drop_trees slots new next cap s r.label here root' leaf' gone' others' in
    let labels : (j : ℕ) → j ≢ r.slot → get_or (map label_in new) j None ≡ get_or (map label_in slots) j None = λ j off. get_or-map-label_in new j ∙ (ap label_in (others j off) ∙ sym (get_or-map-label_in slots j)) in
    let none : get_or (map label_in new) r.slot None ≡ None = get_or-map-label_in new r.slot ∙ ap label_in gone in
    let apart : (slot l : ℕ) → get_or (map label_in slots) slot None ≡ Some l → l ≢ r.label → slot ≢ r.slot = λ slot l h off e. off (let t : Some l ≡ Some r.label = sym h ∙ (ap (λ k. get_or (map label_in slots) k None) e ∙ held) in cc) in
    let zero : 0 ≢ r.label = λ e. omega (arith, e, inner) in
    record {
      arena = record {
        sound = sound-drop slots new next cap s r.label here root' leaf' gone' others';
        document = labels 0 (apart 0 0 arena.document zero) ∙ arena.document;
        root = ap (λ h. parent_of h 0) trees ∙ (parents_of slots new next cap s r.label here root' leaf' gone' others' (trees_of slots next) same 0 ∙ arena.root);
        small = arena.small;
        nodes = subst AreNodes (sym trees) (nodes-without (trees_of slots next) r.label (subst IsDistinct (sym same) s.distinct) (subst (λ h. 0 < count_of h r.label) (sym same) here) root arena.nodes);
        long = arena.long;
        indexed = λ slot l h. elim (eqb_tells slot r.slot) [
          | inl (_, e) ↦ absurd (let t : get_or (map label_in new) slot None ≡ None = ap (λ k. get_or (map label_in new) k None) e ∙ none in cc)
          | inr (_, off) ↦ arena.indexed slot l (sym (labels slot off) ∙ h)
        ];
      };
      drops = record {
        trees = trees;
        next = refl;
        cap = refl;
        gone = λ h. (let t = none in cc);
        held = λ q h. elim (eqb_tells q.slot r.slot) [
          | inl (_, e) ↦ absurd (let t : get_or (map label_in new) q.slot None ≡ None = ap (λ k. get_or (map label_in new) k None) e ∙ none in cc)
          | inr (_, off) ↦ sym (labels q.slot off) ∙ h
        ];
        keeps = λ q h off. labels q.slot (apart q.slot q.label h off) ∙ h;
      };
    })
