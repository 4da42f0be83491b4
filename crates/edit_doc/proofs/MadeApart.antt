-- What is left of a forest where only the document and the nodes that changes name of those that were made since stay.
use Rattle.std.proofs.Common.{◌≡◌, ◌⊎◌, ℕ, ◌+◌, ◌<◌, ◌≤◌, Bool, true, false, cond, eqb, nat_lt, List, [], ◌∷◌, Option, Some, None, refl, sym, ap, subst, ◌∙◌, inl, inr, arith}
use Rattle.std.specs.Prelude.{◌&&◌, not, nat_le}
use Rattle.std.specs.List.{filter}
use Rattle.std.specs.Option.{option_map_or}
use Rattle.std.proofs.lemmas.Bool.Decides.{eqb_tells, nat_tests}
use Rattle.edit_model.specs.DomModel.declared.Content.{Content}
use Rattle.edit_model.specs.DomModel.Contents.{IsNode}
use Rattle.edit_model.specs.DomModel.Forest.{Forest, Seen, RisesFrom, tops, times, first_in, count_of, tree_of, parent_of, with_leaf}
use Rattle.edit_model.specs.DomModel.Forest.Forest.{Nil, Tree}
use Rattle.edit_model.specs.DomModel.Pruned.{pruned, IsWhole}
use Rattle.edit_model.proofs.DomModel.Links.{child_of_parent, parent_count}
use Rattle.edit_model.proofs.DomModel.Pruning.{count_of-pruned, parent_of-pruned, whole_stays}
use Rattle.edit_model.proofs.DomModel.Stands.{Stands, true_or_false, seek_Stands, count_of-Stands}
use Rattle.edit_model.proofs.DomModel.Totals.{total-without}
use Rattle.edit_model.proofs.DomModel.Walks.{document_first}
use Rattle.edit_model.proofs.DomModel.Within.{within_root}
use Rattle.edit_model.specs.LiveRange.PointsEdit.{has_label}
use Rattle.step_edits.specs.ForestChanges.Change.{Change, IsForest}
use Rattle.step_edits.specs.ForestChanges.Down.{Prunes, IsLeft}
use Rattle.step_edits.specs.ForestChanges.Leaves.{IsBelow, IsMade}
use Rattle.step_edits.specs.ForestChanges.Named.{Each, named_in}
use Rattle.step_edits.proofs.ForestChanges.DownChange.{IsForest-pruned, prunes_whole}
use Rattle.step_edits.proofs.ForestChanges.Places.{rising_top}
use Rattle.edit_model.specs.History.{used, document_of}
use Rattle.edit_doc.specs.History.{roots_from, is_hidden}
use Rattle.edit_doc.specs.Onward.{with_made, RiseFrom}
use Rattle.edit_doc.specs.Sound.{AreFresh}
use Rattle.edit_doc.proofs.HiddenTrees.{true_lt, true_le, le_false, false_le}

-- ---- lists of labels

each_with : (P Q : ℕ → Type 0) (ls : List ℕ) → ((l : ℕ) → has_label ls l ≡ true → P l → Q l) → Each P ls → Each Q ls
each_with P Q [] go h = tt
each_with P Q (l ∷ ls) go h = (go l own h.0, each_with P Q ls (λ m t. go m (later m t)) h.1)
  where
    own : has_label (l ∷ ls) l ≡ true
    own = (let t : eqb l l ≡ true = grind (arith, nat_tests) in rw t refl)

    later : (m : ℕ) → has_label ls m ≡ true → has_label (l ∷ ls) m ≡ true
    later m t = elim (eqb_tells l m) [ inl (e, _) ↦ rw e refl | inr (e, _) ↦ rw e t ]

pub each_used : (P : ℕ × Content → Type 0) (xs : List Change) (ns : List (ℕ × Content)) → Each P ns → Each P (used xs ns)
unfolding used
each_used P xs [] h = tt
each_used P xs (n ∷ ns) h = elim (true_or_false (has_label (named_in xs) n.0)) [
  | inl t ↦ rw t (h.0, each_used P xs ns h.1)
  | inr t ↦ rw t (each_used P xs ns h.1)
]

pub each_named : (P : ℕ → Type 0) (xs : List Change) (ns : List (ℕ × Content)) → ((l : ℕ) → has_label (named_in xs) l ≡ true → P l) → Each (λ (n : ℕ × Content). P n.0) (used xs ns)
unfolding used
each_named P xs [] go = tt
each_named P xs (n ∷ ns) go = elim (true_or_false (has_label (named_in xs) n.0)) [
  | inl t ↦ rw t (go n.0 t, each_named P xs ns go)
  | inr t ↦ rw t (each_named P xs ns go)
]

-- ---- roots from a label on

pub roots_rise : (first : ℕ) (xs : List Change) (f : Forest Content) (low a : ℕ) → RisesFrom low f → ((m : ℕ) → first ≤ m → low ≤ m → a ≤ m) → RiseFrom a (used xs (roots_from first f))
unfolding used
roots_rise first xs Nil low a rises from = tt
roots_rise first xs (Tree m c ks rest) low a rises from =
    let head = rises.0 in
    let later : RiseFrom a (used xs (roots_from first rest)) = roots_rise first xs rest (m + 1) a rises.1 (λ j g h. from j g (omega (arith, head, h))) in
    elim (true_or_false (nat_le first m)) [
      | inr t ↦ rw t later
      | inl t ↦ rw t (elim (true_or_false (has_label (named_in xs) m)) [
        | inr u ↦ rw u later
        | inl u ↦ rw u (from m (true_le first m t) head, roots_rise first xs rest (m + 1) (m + 1) rises.1 (λ j g h. h))
      ])
    ]

pub roots_made : (first : ℕ) → 0 < first → (f : Forest Content) → ((l : ℕ) (s : Seen Content) → Stands None f l s → IsNode l s) → Each (λ (n : ℕ × Content). IsMade n.1) (roots_from first f)
roots_made first some Nil nodes = tt
roots_made first some (Tree m c ks rest) nodes =
    let later = roots_made first some rest (λ l s st. nodes l s (inr (inr st))) in
    elim (true_or_false (nat_le first m)) [
      | inr t ↦ rw t later
      | inl t ↦ rw t (own (true_le first m t) (nodes m (record { parent = None; content = c; children = tops ks }) (inl (refl, refl))), later)
    ]
  where
    own : first ≤ m → IsNode m (record { parent = None; content = c; children = tops ks }) → IsMade c
    own from node = record { plain = λ e. (let z : m ≡ 0 = node.document.0 e in omega (arith, z, from, some)); short = node.short; names = node.names }

no_trees : (f : Forest Content) → tops f ≡ [] → f ≡ Nil
no_trees Nil e = refl
no_trees (Tree l c ks rest) e = absurd (cc)

with_made-Tree : (m : ℕ) (c : Content) (ks : Forest Content) (ns : List (ℕ × Content)) (g : Forest Content) → with_made (Tree m c ks g) ns ≡ Tree m c ks (with_made g ns)
with_made-Tree m c ks [] g = refl
with_made-Tree m c ks (n ∷ ns) g = with_made-Tree m c ks ns (with_leaf g n.0 n.1)

-- a label from the first on that no change names
abbrev pub is_unnamed : List ℕ → ℕ → ℕ → Bool
is_unnamed ls first l = nat_le first l && not (has_label ls l)

detached_made : (k : ℕ → Bool) (xs : List Change) (first : ℕ) (f : Forest Content) → ((m : ℕ) → 0 < times (tops f) m → k m ≡ nat_lt m first) → ((l : ℕ) (s : Seen Content) → Stands None f l s → first ≤ l → s.children ≡ [])
    → pruned (is_unnamed (named_in xs) first) (pruned k f) ≡ with_made Nil (used xs (roots_from first f))
unfolding used
detached_made k xs first Nil old leaf = refl
detached_made k xs first (Tree m c ks rest) old leaf =
    let own : k m ≡ nat_lt m first = old m (here m (times (tops rest) m)) in
    let ih = detached_made k xs first rest (λ j top. old j (omega (arith, top))) (λ l s st. leaf l s (inr (inr st))) in
    elim (true_or_false (nat_le first m)) [
      | inr t ↦ (let gone : k m ≡ true = own ∙ low m first t in rw (t, gone) ih)
      | inl t ↦ (
          let stays : k m ≡ false = own ∙ high m first t in
          let bare : ks ≡ Nil = no_trees ks (leaf m (record { parent = None; content = c; children = tops ks }) (inl (refl, refl)) (true_le first m t)) in
          elim (true_or_false (has_label (named_in xs) m)) [
            | inl u ↦ rw (stays, t, u) ((λ i. Tree m c (bare i) (ih i)) ∙ sym (with_made-Tree m c Nil (filter (λ n. has_label (named_in xs) n.0) (roots_from first rest)) Nil))
            | inr u ↦ rw (stays, t, u) ih
          ])
    ]
  where
    here : (j n : ℕ) → 0 < cond (eqb j j) 1 0 + n
    here j n = grind (arith, nat_tests)

    low : (j n : ℕ) → nat_le n j ≡ false → nat_lt j n ≡ true
    low j n t = grind (arith, nat_tests)

    high : (j n : ℕ) → nat_le n j ≡ true → nat_lt j n ≡ false
    high j n t = grind (arith, nat_tests)

-- ---- where the nodes from a label on are new

module _ (g : Forest Content) (first : ℕ) (is : IsForest g) (some : 0 < first) (fresh : AreFresh g first) where
  pub document_old : IsBelow (document_of g) first
  document_old = record { below = λ m here. by_test m here (true_or_false (nat_le first m)) }
    where
      outside : (m : ℕ) → 0 < count_of (tree_of g 0) m → first ≤ m → ⊥
      outside m here from = within_root g 0 is.distinct is.document m (λ z. omega (arith, z, from, some)) (fresh.loose m from (in_whole m here)) here
        where
          in_whole : (l : ℕ) → 0 < count_of (tree_of g 0) l → 0 < count_of g l
          in_whole l h = omega (arith, h, total-without (λ j _. cond (eqb j l) 1 0) g 0)

      by_test : (m : ℕ) → 0 < count_of (tree_of g 0) m → (nat_le first m ≡ true) ⊎ (nat_le first m ≡ false) → m < first
      by_test m here (inl t) = absurd (outside m here (true_le first m t))
      by_test m here (inr t) = false_le first m t

  -- a new node has no children
  leafs : (l : ℕ) (s : Seen Content) → Stands None g l s → first ≤ l → s.children ≡ []
  leafs l s st from =
      let found = seek_Stands None g l s (is.distinct l) st in
      let none = fresh.leaf l from (count_of-Stands None g l s st) in
      no_first s.children (sym (ap (λ (o : Option (Seen Content)). first_in (option_map_or (λ s. s.children) o List.[])) found) ∙ none)
    where
      no_first : (ls : List ℕ) → first_in ls ≡ None → ls ≡ []
      no_first [] e = refl
      no_first (x ∷ xs) e = absurd (cc)

  pub made_nodes : Each (λ (n : ℕ × Content). IsMade n.1) (roots_from first g)
  made_nodes = roots_made first some g (λ l s st. is.nodes l s (seek_Stands None g l s (is.distinct l) st))

  module _ (xs : List Change) where
    abbrev k : ℕ → Bool
    k = is_hidden g first

    abbrev u : ℕ → Bool
    u = is_unnamed (named_in xs) first

    pub unnamed_zero : u 0 ≡ false
    unnamed_zero = (let t : nat_le first 0 ≡ false = le_false first 0 some in rw t refl)

    -- the document is left, and the new nodes that are named
    pub begins : pruned u (pruned k g) ≡ with_made (document_of g) (used xs (roots_from first g))
    begins =
        let d = document_first g is.distinct is.rising is.document is.root in
        subst (λ (w : Forest Content). RisesFrom 0 w → ((l : ℕ) (s : Seen Content) → Stands None w l s → first ≤ l → s.children ≡ []) → pruned u (pruned (is_hidden w first) w) ≡ with_made (document_of w) (used xs (roots_from first w)))
        (sym d.3) (at_tree d.0 d.1 d.2) is.rising leafs
      where
        at_tree : (c : Content) (ks rest : Forest Content) → RisesFrom 0 (Tree 0 c ks rest) → ((l : ℕ) (s : Seen Content) → Stands None (Tree 0 c ks rest) l s → first ≤ l → s.children ≡ [])
            → pruned u (pruned (is_hidden (Tree 0 c ks rest) first) (Tree 0 c ks rest)) ≡ with_made (document_of (Tree 0 c ks rest)) (used xs (roots_from first (Tree 0 c ks rest)))
        at_tree c ks rest rises leaf =
            let zero_low : nat_le first 0 ≡ false = le_false first 0 some in
            let rest_is = detached_made (is_hidden (Tree 0 c ks rest) first) xs first rest (old c ks rest rises) (λ l s st. leaf l s (inr (inr st))) in
            rw zero_low (ap (Tree 0 c ks) rest_is ∙ sym (with_made-Tree 0 c ks (used xs (roots_from first rest)) Nil))
          where
            and_between : (a b x : Bool) → a ≡ true → b ≡ true → (a && (x && b)) ≡ x
            and_between a b true e d = rw (e, d) refl
            and_between a b false e d = rw e refl

            old : (c : Content) (ks rest : Forest Content) → RisesFrom 0 (Tree 0 c ks rest) → (m : ℕ) → 0 < times (tops rest) m → is_hidden (Tree 0 c ks rest) first m ≡ nat_lt m first
            old c ks rest rises m top =
                let from = rising_top rest 1 m rises.1 top in
                and_between (nat_lt 0 m) (nat_lt 0 (times (tops (Tree 0 c ks rest)) m)) (nat_lt m first) (true_lt 0 m (omega (arith, from))) (true_lt 0 (times (tops (Tree 0 c ks rest)) m) (omega (arith, top)))

    -- the unnamed nodes are whole trees
    whole : IsWhole u (pruned k g)
    whole = record {
      same = λ l p up. (
          let h = pruned k g in
          let ish = IsForest-pruned k g refl is in
          let here = parent_count h l p ish.distinct up in
          let up' : parent_of g l ≡ Some p = sym (parent_of-pruned k g l is.distinct here.0) ∙ up in
          not_new l (λ from. (let q : Some p ≡ None = sym up' ∙ fresh.loose l from (omega (arith, here.0, count_of-pruned k g l)) in cc))
          ∙ sym (not_new p (λ from. (
          let r = child_of_parent g l p is.distinct up' in
          let none = leafs p r.0 r.1 from in
          let has : 0 < times r.0.children l = r.3 in
          let none_there : times r.0.children l ≡ 0 = ap (λ ls. times ls l) none in
          omega (arith, has, none_there)))));
    }
      where
        not_new : (l : ℕ) → (first ≤ l → ⊥) → u l ≡ false
        not_new l never = by_test (true_or_false (nat_le first l))
          where
            by_test : (nat_le first l ≡ true) ⊎ (nat_le first l ≡ false) → u l ≡ false
            by_test (inl t) = absurd (never (true_le first l t))
            by_test (inr t) = rw t refl

    pub prunes_unnamed : Prunes u (pruned k g)
    prunes_unnamed = prunes_whole u (pruned k g) (IsForest-pruned k g refl is) unnamed_zero whole

    pub names_detached : Each (IsLeft k g) (named_in xs) → Each (IsLeft u (pruned k g)) (named_in xs)
    names_detached h = each_with (IsLeft k g) (IsLeft u (pruned k g)) (named_in xs) (λ l t here. (
        let named : u l ≡ false = rw t (and_false (nat_le first l)) in
        omega (arith, here, whole_stays u (pruned k g) (IsForest-pruned k g refl is).distinct whole l named))) h
      where
        and_false : (a : Bool) → (a && false) ≡ false
        and_false true = refl
        and_false false = refl
