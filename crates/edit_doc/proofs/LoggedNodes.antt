-- The nodes that an entry's steps name, in the forest before them: those of the document, and those made, each alone.
use Rattle.std.proofs.Common.{◌≡◌, ◌⊎◌, ℕ, zero, suc, ◌+◌, ◌<◌, ◌≤◌, Bool, true, false, cond, eqb, List, [], ◌∷◌, ◌++◌, length, map, Option, Some, None, refl, sym, ap, subst, ◌∙◌, inl, inr, arith, append_assoc}
use Rattle.std.specs.Prelude.{nat_le}
use Rattle.std.specs.Option.{option_map, option_map_or}
use Rattle.std.proofs.lemmas.List.{map-append}
use Rattle.std.proofs.lemmas.Bool.Decides.{eqb_tells, nat_tests}
use Rattle.edit_model.specs.DomModel.declared.Content.{Content}
use Rattle.edit_model.specs.DomModel.Forest.{Forest, Seen, seek, either, first_in, tops, times, count_of, content_of, parent_of, tree_of, IsDistinct, RisesFrom, IsWithin}
use Rattle.edit_model.specs.DomModel.Forest.Forest.{Nil, Tree}
use Rattle.edit_model.specs.DomModel.Pruned.{pruned}
use Rattle.edit_model.specs.DomModel.Room.{spliced}
use Rattle.edit_model.proofs.DomModel.Links.{seen, tree_of_absent}
use Rattle.edit_model.proofs.DomModel.Stands.{true_or_false, times-tops, seek_absent}
use Rattle.edit_model.specs.LiveRange.PointsEdit.{has_label}
use Rattle.step_edits.specs.ForestChanges.Change.{Change, Remove, Insert, Move, SetText, Splice, SetAttributes, IsForest}
use Rattle.step_edits.specs.ForestChanges.Named.{Each, named, named_in}
use Rattle.step_edits.specs.ForestChanges.Down.{IsLeft}
use Rattle.step_edits.proofs.ForestChanges.ChangeLists.{each_first, each_rest}
use Rattle.edit_model.specs.History.{used}
use Rattle.edit_model.proofs.Resting.{forest-document, seek_document}
use Rattle.edit_doc.specs.declared.logged.LoggedEdit.{LoggedEdit}
use Rattle.edit_doc.specs.declared.logged.MadeNode.{MadeNode}
use Rattle.edit_doc.specs.History.{roots_from, is_hidden}
use Rattle.edit_doc.specs.Logged.{content_made, element_name, node_chars, logged_edit, made_node, node_at}
use Rattle.edit_doc.specs.Sound.{AreFresh}
use Rattle.edit_doc.proofs.HiddenTrees.{le_true, le_false, true_le, model_forest, is_hidden_from}
use Rattle.edit_doc.proofs.MadeNodes.{listed_has, pick, used_one, used_nil, skips}
use Rattle.edit_doc.proofs.Places.{root_top}

own : (m : ℕ) → eqb m m ≡ true
own m = grind (arith, nat_tests)

-- ---- the root of a node that is left

record Rooted (k : ℕ → Bool) (f : Forest Content) (l : ℕ) : Type 0 where
  label : ℕ
  content : Content
  kids : Forest Content
  detached : k label ≡ false
  top : 0 < times (tops f) label
  found : seek None f label ≡ Some (record { parent = None; content = content; children = tops kids })
  tree : tree_of f label ≡ Tree label content kids Nil
  within : 0 < cond (eqb label l) 1 0 + count_of kids l

module _ (k : ℕ → Bool) where
  later : (m : ℕ) (c : Content) (ks rest : Forest Content) (l : ℕ) → IsDistinct (Tree m c ks rest) → Rooted k rest l → Rooted k (Tree m c ks rest) l
  later m c ks rest l once r =
      let few = times-tops rest r.label in
      let one = once r.label in
      let t = r.top in
      elim (eqb_tells m r.label) [
        | inl (e, _) ↦ absurd (let one' = rw e at one in omega (arith, one', few, t))
        | inr (e, _) ↦ (
            let one' = rw e at one in
            let none : count_of ks r.label ≡ 0 = omega (arith, one', few, t) in
            record {
              label = r.label;
              content = r.content;
              kids = r.kids;
              detached = r.detached;
              top = omega (arith, t);
              found = rw (e, seek_absent (Some m) ks r.label none) r.found;
              tree = rw (e, tree_of_absent ks r.label none) r.tree;
              within = r.within;
            })
      ]

  rooted : (f : Forest Content) (l : ℕ) → IsDistinct f → 0 < count_of (pruned k f) l → Rooted k f l
  rooted Nil l once h = absurd (omega (arith, h))
  rooted (Tree m c ks rest) l once h = elim (true_or_false (k m)) [
    | inl e ↦ later m c ks rest l once (rooted rest l (λ j. omega (arith, once j)) (rw e at h))
    | inr e ↦ by_count e (cond (eqb m l) 1 0 + count_of ks l) refl (rooted rest l (λ j. omega (arith, once j))) (rw e at h)
  ]
    where
      by_count : k m ≡ false → (n : ℕ) → cond (eqb m l) 1 0 + count_of ks l ≡ n → (0 < count_of (pruned k rest) l → Rooted k rest l) → 0 < count_of (Tree m c ks (pruned k rest)) l → Rooted k (Tree m c ks rest) l
      by_count e (suc n) is ih t = record {
        label = m;
        content = c;
        kids = ks;
        detached = e;
        top = rw (own m) (omega arith);
        found = rw (own m) refl;
        tree = rw (own m) refl;
        within = omega (arith, is);
      }
      by_count e zero is ih t = later m c ks rest l once (ih (omega (arith, is, t)))

no_kids : (ks : Forest Content) → first_in (tops ks) ≡ None → (l : ℕ) → count_of ks l ≡ 0
no_kids Nil e l = refl
no_kids (Tree m c kk rest) e l = absurd (let t : Some m ≡ None = e in cc)

le_or_lt : (a b : ℕ) → (a ≤ b) ⊎ (b < a)
le_or_lt a b = elim (true_or_false (nat_le a b)) [ inl e ↦ inl (true_le a b e) | inr e ↦ inr (grind (arith, nat_tests)) ]

-- ---- the roots from a label on

step_le : (n m : ℕ) → eqb m n ≡ false → nat_le n m ≡ nat_le (n + 1) m
step_le n m e = grind (arith, nat_tests)

-- no root has the label
skip_root : (n : ℕ) (f : Forest Content) → times (tops f) n ≡ 0 → roots_from n f ≡ roots_from (n + 1) f
skip_root n Nil h = refl
skip_root n (Tree m c ks rest) h = elim (eqb_tells m n) [
  | inl (e, _) ↦ absurd (let h' = rw e at h in omega (arith, h'))
  | inr (e, _) ↦ (
      let h' = rw e at h in
      ap (λ b. cond b ((m, c) ∷ roots_from n rest) (roots_from n rest)) (step_le n m e)
      ∙ ap (λ (r : List (ℕ × Content)). cond (nat_le (n + 1) m) ((m, c) ∷ r) r) (skip_root n rest (omega (arith, h'))))
]

rises_top : (low n : ℕ) (f : Forest Content) → RisesFrom low f → 0 < times (tops f) n → low ≤ n
rises_top low n Nil h t = absurd (omega (arith, t))
rises_top low n (Tree m c ks rest) h t = elim (eqb_tells m n) [
  | inl (_, same) ↦ (let a = h.0 in omega (arith, same, a))
  | inr (e, _) ↦ (
      let t' = rw e at t in
      let r = rises_top (m + 1) n rest h.1 (omega (arith, t')) in
      let a = h.0 in
      omega (arith, r, a))
]

at_root : (low n : ℕ) (f : Forest Content) → RisesFrom low f → IsDistinct f → 0 < times (tops f) n → roots_from n f ≡ node_at f n ++ roots_from (n + 1) f
at_root low n Nil rises once t = absurd (omega (arith, t))
at_root low n (Tree m c ks rest) rises once t = elim (eqb_tells m n) [
  | inl (e, same) ↦ (
      let one = once n in
      let one' = rw e at one in
      let skip = skip_root n rest (omega (arith, one', times-tops rest n)) in
      rw (le_true n m (omega (arith, same)), le_false (n + 1) m (omega (arith, same)), e) (λ i. (same i, c) ∷ skip i))
  | inr (e, _) ↦ (
      let t' = rw e at t in
      let top : 0 < times (tops rest) n = omega (arith, t') in
      let low' = rises_top (m + 1) n rest rises.1 top in
      let one = once n in
      let one' = rw e at one in
      let none : count_of ks n ≡ 0 = omega (arith, one', top, times-tops rest n) in
      rw (le_false n m (omega (arith, low')), le_false (n + 1) m (omega (arith, low')), e, seek_absent (Some m) ks n none) (at_root (m + 1) n rest rises.1 (λ j. omega (arith, once j)) top))
]

-- a node that stands alone if it is there
pub roots-step : (f : Forest Content) (n : ℕ) → IsDistinct f → RisesFrom 0 f → (0 < count_of f n → parent_of f n ≡ None) → roots_from n f ≡ node_at f n ++ roots_from (n + 1) f
roots-step f n once rises loose = by_count (count_of f n) refl
  where
    by_count : (j : ℕ) → count_of f n ≡ j → roots_from n f ≡ node_at f n ++ roots_from (n + 1) f
    by_count zero e = rw (seek_absent None f n e) (skip_root n f (omega (arith, e, times-tops f n)))
    by_count (suc j) e = at_root 0 n f rises once (root_top f n once (omega (arith, e)) (loose (omega (arith, e))))

one_used : (xs : List Change) (l : ℕ) (o : Option Content) (r : List (ℕ × Content)) →
    used xs (option_map_or (λ c. (l, c) ∷ []) o [] ++ r) ≡ cond (has_label (named_in xs) l) (option_map_or (λ c. (l, c) ∷ []) o [] ++ used xs r) (used xs r)
unfolding used
one_used xs l None r = elim (true_or_false (has_label (named_in xs) l)) [ inl e ↦ rw e refl | inr e ↦ rw e refl ]
one_used xs l (Some c) r = refl

-- one label more, which the edits name or don't
pub used_step : (xs : List Change) (f : Forest Content) (n : ℕ) (b : Bool) → IsDistinct f → RisesFrom 0 f → (0 < count_of f n → parent_of f n ≡ None) → b ≡ has_label (named_in xs) n →
    used xs (roots_from n f) ≡ cond b (node_at f n ++ used xs (roots_from (n + 1) f)) (used xs (roots_from (n + 1) f))
used_step xs f n b once rises loose e =
    ap (used xs) (roots-step f n once rises loose)
    ∙ (one_used xs n (content_of f n) (roots_from (n + 1) f)
    ∙ ap (λ t. cond t (node_at f n ++ used xs (roots_from (n + 1) f)) (used xs (roots_from (n + 1) f))) (sym e))

-- edits name no root past those that they name
pub used_past : (xs : List Change) (n : ℕ) (f : Forest Content) → Each (λ l. l < n) (named_in xs) → used xs (roots_from n f) ≡ []
used_past xs n Nil h = used_nil xs
used_past xs n (Tree m c ks rest) h = elim (true_or_false (nat_le n m)) [
  | inl e ↦ (
      let off : has_label (named_in xs) m ≡ false = elim (true_or_false (has_label (named_in xs) m)) [
        | inl s ↦ absurd (let b = listed_has (λ l. l < n) (named_in xs) m h s in let g = true_le n m e in omega (arith, b, g))
        | inr s ↦ s
      ] in
      skips xs (nat_le n m) m c (roots_from n rest) off ∙ used_past xs n rest h)
  | inr e ↦ ap (λ b. used xs (cond b ((m, c) ∷ roots_from n rest) (roots_from n rest))) e ∙ used_past xs n rest h
]

-- ---- the contents of the nodes that are named

pick_skip : (b h : Bool) (m l : ℕ) (c : Content) (ns : List (ℕ × Content)) → eqb m l ≡ false → content_made (pick b h (m, c) ns) l ≡ content_made ns l
pick_skip true true m l c ns e = rw e refl
pick_skip true false m l c ns e = refl
pick_skip false h m l c ns e = refl

made_found : (xs : List Change) (first l : ℕ) (f : Forest Content) → IsDistinct f → has_label (named_in xs) l ≡ true → first ≤ l → 0 < times (tops f) l → content_made (used xs (roots_from first f)) l ≡ content_of f l
made_found xs first l Nil once has le t = absurd (omega (arith, t))
made_found xs first l (Tree m c ks rest) once has le t =
    ap (λ ns. content_made ns l) (used_one xs (nat_le first m) (m, c) (roots_from first rest))
    ∙ elim (eqb_tells m l) [
      | inl (e, same) ↦ rw (le_true first m (omega (arith, le, same)), ap (has_label (named_in xs)) same ∙ has, e) refl
      | inr (e, _) ↦ (
          let t' = rw e at t in
          let one = once l in
          let one' = rw e at one in
          let none : count_of ks l ≡ 0 = omega (arith, one', t', times-tops rest l) in
          let ih = made_found xs first l rest (λ j. omega (arith, once j)) has le (omega (arith, t')) in
          pick_skip (nat_le first m) (has_label (named_in xs) m) m l c (used xs (roots_from first rest)) e
          ∙ (ih ∙ rw (e, seek_absent (Some m) ks l none) refl))
    ]

each_listed : (P Q : ℕ → Type 0) (ls : List ℕ) → ((l : ℕ) → has_label ls l ≡ true → P l → Q l) → Each P ls → Each Q ls
each_listed P Q [] give h = tt
each_listed P Q (x ∷ xs) give h = (give x (rw (own x) refl) h.0, each_listed P Q xs (λ l e. give l (more x l xs e)) h.1)
  where
    more : (x l : ℕ) (xs : List ℕ) → has_label xs l ≡ true → has_label (x ∷ xs) l ≡ true
    more x l xs e = elim (eqb_tells x l) [ inl (t, _) ↦ rw t refl | inr (t, _) ↦ rw t e ]

edit_same : (A B : ℕ → Option Content) (x : Change) → Each (λ l. A l ≡ B l) (named x) → logged_edit A x ≡ logged_edit B x
edit_same A B (Remove n) h = refl
edit_same A B (Insert n p b) h = refl
edit_same A B (Move n p b) h = refl
edit_same A B (SetText n words) h = refl
edit_same A B (Splice n at rest taken put) h = ap (λ o. LoggedEdit.SetText n (spliced (node_chars o) at (length taken) put)) h.0
edit_same A B (SetAttributes n list) h = ap (λ o. LoggedEdit.SetAttributes n (element_name o) list) h.0

-- edits where each node that is named has the same content
pub edits_same : (A B : ℕ → Option Content) (xs : List Change) → Each (λ l. A l ≡ B l) (named_in xs) → map (logged_edit A) xs ≡ map (logged_edit B) xs
edits_same A B [] h = refl
edits_same A B (x ∷ xs) h =
    let one = edit_same A B x (each_first (λ l. A l ≡ B l) (named x) (named_in xs) h) in
    let more = edits_same A B xs (each_rest (λ l. A l ≡ B l) (named x) (named_in xs) h) in
    λ i. one i ∷ more i

module _ (f : Forest Content) (is : IsForest f) (next first : ℕ) (below : (l : ℕ) → 0 < count_of f l → l < next) (fresh : AreFresh f first) where
  -- a node that the entry's commands saw is in the document, or they made it and it is alone
  pub inside_or_made : (l : ℕ) → IsLeft (is_hidden f first) f l → IsWithin f 0 l ⊎ ((first ≤ l) × (0 < times (tops f) l))
  inside_or_made l detached = (let r = rooted (is_hidden f first) f l is.distinct detached in by_label r r.label refl)
    where
      alone : (r : Rooted (is_hidden f first) f l) → first ≤ r.label → IsWithin f 0 l ⊎ ((first ≤ l) × (0 < times (tops f) l))
      alone r le =
          let top = r.top in
          let leaf = fresh.leaf r.label le (omega (arith, top, times-tops f r.label)) in
          let bare : first_in (tops r.kids) ≡ None = ap (λ (o : Option (Seen Content)). first_in (option_map_or (λ s. s.children) o [])) (sym r.found) ∙ leaf in
          let none = no_kids r.kids bare l in
          let within = r.within in
          elim (eqb_tells r.label l) [
            | inl (_, same) ↦ inr (omega (arith, le, same), subst (λ m. 0 < times (tops f) m) same top)
            | inr (e, _) ↦ absurd (let w = rw e at within in omega (arith, w, none))
          ]

      by_label : (r : Rooted (is_hidden f first) f l) (n : ℕ) → r.label ≡ n → IsWithin f 0 l ⊎ ((first ≤ l) × (0 < times (tops f) l))
      by_label r zero e =
          let t : tree_of f 0 ≡ Tree r.label r.content r.kids Nil = subst (λ n. tree_of f n ≡ Tree r.label r.content r.kids Nil) e r.tree in
          let within = r.within in
          inl (rw t (omega (arith, within)))
      by_label r (suc n) e = elim (le_or_lt first r.label) [
        | inl le ↦ alone r le
        | inr lt ↦ absurd (
            let hides = is_hidden_from f first r.label (record { inner = omega (arith, e); old = lt; root = r.top }) in
            let no : true ≡ false = sym hides ∙ r.detached in
            cc)
      ]

  content_seen : (xs : List Change) (l : ℕ) → has_label (named_in xs) l ≡ true → IsLeft (is_hidden f first) f l → either (content_of (tree_of f 0) l) (content_made (used xs (roots_from first f)) l) ≡ content_of f l
  content_seen xs l has detached = by_count (count_of (tree_of f 0) l) refl
    where
      by_count : (n : ℕ) → count_of (tree_of f 0) l ≡ n → either (content_of (tree_of f 0) l) (content_made (used xs (roots_from first f)) l) ≡ content_of f l
      by_count (suc n) e =
          let is' = model_forest f is next below in
          let s = seen (tree_of f 0) l (forest-document f next is').distinct (omega (arith, e)) in
          ap (λ (o : Option (Seen Content)). either (option_map (λ s. s.content) o) (content_made (used xs (roots_from first f)) l)) s.2
          ∙ sym (ap (option_map (λ (s : Seen Content). s.content)) (seek_document f next l s.0 is' s.2))
      by_count zero e = elim (inside_or_made l detached) [
        | inl h ↦ absurd (omega (arith, e, h))
        | inr h ↦ rw (seek_absent None (tree_of f 0) l e) (made_found xs first l f is.distinct has h.0 h.1)
      ]

  -- the contents of the nodes that are named, as the entry tells them
  pub contents_seen : (xs : List Change) → Each (IsLeft (is_hidden f first) f) (named_in xs) → Each (λ l. either (content_of (tree_of f 0) l) (content_made (used xs (roots_from first f)) l) ≡ content_of f l) (named_in xs)
  contents_seen xs h = each_listed (IsLeft (is_hidden f first) f) (λ l. either (content_of (tree_of f 0) l) (content_made (used xs (roots_from first f)) l) ≡ content_of f l) (named_in xs) (content_seen xs) h

-- one more node is listed, or none
pub listed_one : (ls : List MadeNode) (b : Bool) (ns rest all : List (ℕ × Content)) → all ≡ cond b (ns ++ rest) rest → (more : List MadeNode) → more ≡ cond b (ls ++ map made_node ns) ls → more ++ map made_node rest ≡ ls ++ map made_node all
listed_one ls true ns rest all e more m = rw (m, e) (append_assoc ls (map made_node ns) (map made_node rest) ∙ ap (λ r. ls ++ r) (sym (map-append made_node ns rest)))
listed_one ls false ns rest all e more m = rw (m, e) refl
