-- Loose trees are given up one after another.
use Rattle.std.proofs.Common.{◌≡◌, ◌≢◌, ℕ, zero, suc, ◌+◌, ◌<◌, ◌≤◌, Bool, true, false, cond, List, [], ◌∷◌, ◌++◌, length, take, drop, get_or, Option, Some, None, refl, sym, ap, subst, ◌∙◌, inl, inr, arith, eqb, nat_lt}
use Rattle.std.specs.Prelude.{◌&&◌, ◌||◌, ◌==◌, not, nat_le, is_some}
use Rattle.std.proofs.lemmas.Bool.Decides.{eqb_tells, nat_tests}
use Rattle.std.proofs.lemmas.List.Folds.{list_any-append}
use Rattle.edit_model.specs.DomModel.declared.Content.{Content}
use Rattle.edit_model.specs.DomModel.Forest.{Forest, tops, times, count_of, tree_of, parent_of, without, IsDistinct}
use Rattle.edit_model.specs.DomModel.Forest.Forest.{Nil, Tree}
use Rattle.edit_model.specs.DomModel.Pruned.{pruned}
use Rattle.edit_model.specs.DomModel.ArenaState.{ArenaState as Arena, IsValid as IsArena}
use Rattle.edit_model.proofs.DomModel.Stands.{true_or_false, times-tops}
use Rattle.edit_model.proofs.DomModel.Pruning.{count_of-pruned}
use Rattle.edit_model.proofs.DomModel.Totals.{total-without}
use Rattle.step_edits.specs.ForestChanges.Named.{Each}
use Rattle.edit_model.specs.LiveRange.PointsEdit.{has_label}
use Rattle.edit_model.specs.Gives.{labels_of}
use Rattle.edit_model.proofs.Steps.{labels_of-append}
use Rattle.step_edits.proofs.ForestChanges.DownChange.{pruned_tree}
use Rattle.step_edits.proofs.ForestChanges.Twice.{forest_of}
use Rattle.edit_model.specs.NodeArena.declared.NodeRef.{NodeRef}
use Rattle.edit_model.specs.NodeArena.Held.{Holds, DropsTree, label}
use Rattle.edit_doc.specs.declared.command.Command.{Command}
use Rattle.edit_doc.specs.GivingUp.{GivesUp, is_unnamed, is_loose, loose_roots}
use Rattle.edit_doc.specs.Marks.{has_named}
use Rattle.edit_doc.proofs.Found.{root_is_top}
use Rattle.edit_doc.proofs.HiddenTrees.{pruned-same, pruned-none, loose_detached, top_loose, and_true, both_true, lt_true, true_lt}

module _ {C : Type 0} where
  pub pruned-pruned : (k j : ℕ → Bool) (f : Forest C) → pruned j (pruned k f) ≡ pruned (λ l. k l || j l) f
  pruned-pruned k j Nil = refl
  pruned-pruned k j (Tree m c ks rest) =
      let ih = pruned-pruned k j rest in
      elim (true_or_false (k m)) [
        | inl e ↦ rw e ih
        | inr e ↦ elim (true_or_false (j m)) [
          | inl t ↦ rw (e, t) ih
          | inr t ↦ rw (e, t) (ap (Tree m c ks) ih)
        ]
      ]

-- ---- what is given up

pub gives_none : (a : Arena) → GivesUp (λ _. false) a a
gives_none a = record { trees = sym (pruned-none a.trees); next = refl; cap = refl; keeps = λ q h detached. h }

pub gives_join : (k j : ℕ → Bool) (a b c : Arena) → GivesUp k a b → GivesUp j b c → GivesUp (λ l. k l || j l) a c
gives_join k j a b c x y =
    let both : pruned j b.trees ≡ pruned (λ l. k l || j l) a.trees = ap (pruned j) x.trees ∙ pruned-pruned k j a.trees in
    record {
      trees = y.trees ∙ both;
      next = y.next ∙ x.next;
      cap = y.cap ∙ x.cap;
      keeps = λ q h detached. (
          let last : 0 < count_of (pruned j b.trees) q.label = subst (λ t. 0 < count_of t q.label) (sym both) detached in
          y.keeps q (x.keeps q h (subst (λ t. 0 < count_of t q.label) x.trees (omega (arith, last, count_of-pruned j b.trees q.label)))) last);
    }

-- the labels of roots alone matter
gives_on : (k j : ℕ → Bool) (a b : Arena) → ((l : ℕ) → 0 < times (tops a.trees) l → k l ≡ j l) → GivesUp k a b → GivesUp j a b
gives_on k j a b same x =
    let e = pruned-same k j a.trees same in
    record { trees = x.trees ∙ e; next = x.next; cap = x.cap; keeps = λ q h detached. x.keeps q h (subst (λ t. 0 < count_of t q.label) (sym e) detached) }

pub gives_tree : (a b : Arena) (r : NodeRef) (l : ℕ) → IsArena a → r.label ≡ l → Holds a r → parent_of a.trees l ≡ None → DropsTree a b r → GivesUp (λ j. j == l) a b
gives_tree a b r l law is held loose drops =
    let here : 0 < count_of a.trees l = subst (λ j. 0 < count_of a.trees j) is (law.here r.slot r.label held) in
    let e : pruned (λ j. j == l) a.trees ≡ without a.trees l = pruned_tree l a.trees (forest_of a law) here loose in
    record {
      trees = drops.trees ∙ (ap (without a.trees) is ∙ sym e);
      next = drops.next;
      cap = drops.cap;
      keeps = λ q h detached. drops.keeps q h (
          let left' : 0 < count_of (without a.trees l) q.label = subst (λ t. 0 < count_of t q.label) e detached in
          let out : count_of (tree_of a.trees l) q.label ≡ 0 = omega (arith, left', law.distinct q.label, total-without (λ m _. cond (eqb m q.label) 1 0) a.trees l) in
          subst (λ j. count_of (tree_of a.trees j) q.label ≡ 0) (sym is) out);
    }

pub gives_absent : (a : Arena) (l : ℕ) → count_of a.trees l ≡ 0 → GivesUp (λ j. j == l) a a
gives_absent a l none = gives_on (λ _. false) (λ j. j == l) a a (λ j top. off j top) (gives_none a)
  where
    off : (j : ℕ) → 0 < times (tops a.trees) j → false ≡ (j == l)
    off j top = elim (eqb_tells j l) [
      | inl (_, is) ↦ absurd (let t = subst (λ i. 0 < times (tops a.trees) i) is top in omega (arith, t, none, times-tops a.trees l))
      | inr (e, _) ↦ sym e
    ]

-- ---- label by label

module _ (u : ℕ → Bool) where
  abbrev pub up_to : ℕ → ℕ → Bool
  up_to n l = u l && nat_lt l n

  pub gives_first : (a : Arena) (low : ℕ) → ((l : ℕ) → l < low → u l ≡ false) → GivesUp (up_to low) a a
  gives_first a low none = gives_on (λ _. false) (up_to low) a a (λ l top. off l) (gives_none a)
    where
      off : (l : ℕ) → false ≡ (u l && nat_lt l low)
      off l = elim (true_or_false (nat_lt l low)) [
        | inl t ↦ (let e = none l (lower l t) in rw e refl)
        | inr t ↦ rw t (sym (and_false (u l)))
      ]
        where
          lower : (j : ℕ) → nat_lt j low ≡ true → j < low
          lower j t = grind (arith, nat_tests)

          and_false : (b : Bool) → (b && false) ≡ false
          and_false true = refl
          and_false false = refl

  pub gives_past : (a b : Arena) (n : ℕ) → u n ≡ false → GivesUp (up_to n) a b → GivesUp (up_to (n + 1)) a b
  gives_past a b n named x = gives_on (up_to n) (up_to (n + 1)) a b (λ l top. same l) x
    where
      same : (l : ℕ) → (u l && nat_lt l n) ≡ (u l && nat_lt l (n + 1))
      same l = elim (eqb_tells l n) [
        | inl (_, is) ↦ (let e : u l ≡ false = ap u is ∙ named in rw e refl)
        | inr (_, off) ↦ ap (λ b. u l && b) (apart l n off)
      ]
        where
          apart : (l n : ℕ) → l ≢ n → nat_lt l n ≡ nat_lt l (n + 1)
          apart l n off = grind (arith, nat_tests)

  pub gives_next : (a b c : Arena) (n : ℕ) → u n ≡ true → GivesUp (up_to n) a b → GivesUp (λ j. j == n) b c → GivesUp (up_to (n + 1)) a c
  gives_next a b c n unnamed x y = gives_on (λ l. up_to n l || (l == n)) (up_to (n + 1)) a c (λ l top. same l) (gives_join (up_to n) (λ j. j == n) a b c x y)
    where
      same : (l : ℕ) → ((u l && nat_lt l n) || (l == n)) ≡ (u l && nat_lt l (n + 1))
      same l = elim (eqb_tells l n) [
        | inl (t, is) ↦ (let e : u l ≡ true = ap u is ∙ unnamed in rw (e, t) (own l n is))
        | inr (t, off) ↦ rw t (or_false (u l && nat_lt l n) ∙ ap (λ b. u l && b) (apart l n off))
      ]
        where
          own : (l n : ℕ) → l ≡ n → (nat_lt l n || true) ≡ nat_lt l (n + 1)
          own l n is = grind (arith, nat_tests)

          or_false : (b : Bool) → (b || false) ≡ b
          or_false true = refl
          or_false false = refl

          apart : (l n : ℕ) → l ≢ n → nat_lt l n ≡ nat_lt l (n + 1)
          apart l n off = grind (arith, nat_tests)

  pub gives_all : (a b : Arena) (n : ℕ) → IsArena a → a.next ≤ n → GivesUp (up_to n) a b → GivesUp u a b
  gives_all a b n law all x = gives_on (up_to n) u a b same x
    where
      same : (l : ℕ) → 0 < times (tops a.trees) l → (u l && nat_lt l n) ≡ u l
      same l top = (let t = below l n (let lt = law.below l (omega (arith, top, times-tops a.trees l)) in omega (arith, lt, all)) in rw t (and_true (u l)))
        where
          below : (i j : ℕ) → i < j → nat_lt i j ≡ true
          below i j lt = grind (arith, nat_tests)

          and_true : (b : Bool) → (b && true) ≡ b
          and_true true = refl
          and_true false = refl

  -- what was loose and is left is loose
  pub still_loose : (a b : Arena) (n l : ℕ) → IsArena a → parent_of a.trees l ≡ None → GivesUp (up_to n) a b → parent_of b.trees l ≡ None
  still_loose a b n l law loose x = ap (λ t. parent_of t l) x.trees ∙ loose_detached (up_to n) a.trees l law.distinct loose

pub lower_named : (low : ℕ) (c : Command) (l : ℕ) → l < low → is_unnamed low c l ≡ false
lower_named low c l lt = (let t = out low l lt in rw t refl)
  where
    out : (a b : ℕ) → b < a → nat_le a b ≡ false
    out a b lt = grind (arith, nat_tests)

pub named_out : (low : ℕ) (c : Command) (l : ℕ) → has_named c l ≡ true → is_unnamed low c l ≡ false
named_out low c l e = rw e (and_false (nat_le low l))
  where
    and_false : (b : Bool) → (b && false) ≡ false
    and_false true = refl
    and_false false = refl

pub unnamed_in : (low : ℕ) (c : Command) (l : ℕ) → low ≤ l → has_named c l ≡ false → is_unnamed low c l ≡ true
unnamed_in low c l le e = (let t = inner low l le in rw (t, e) refl)
  where
    inner : (a b : ℕ) → a ≤ b → nat_le a b ≡ true
    inner a b le = grind (arith, nat_tests)

-- ---- root by root

pub is_loose_root : (f : Forest Content) (l : ℕ) → is_loose f l ≡ true → (0 < l) × (0 < times (tops f) l)
is_loose_root f l e = (let t = and_true (nat_lt 0 l) (nat_lt 0 (times (tops f) l)) e in (lt_true 0 l t.0, lt_true 0 (times (tops f) l) t.1))

pub loose_is : (f : Forest Content) (l : ℕ) → 0 < l → 0 < times (tops f) l → is_loose f l ≡ true
loose_is f l inner top = both_true (nat_lt 0 l) (nat_lt 0 (times (tops f) l)) (true_lt 0 l inner) (true_lt 0 (times (tops f) l) top)

-- a node of an arena without a parent is a root
pub loose_found : (a : Arena) → IsArena a → (r : NodeRef) (l : ℕ) → r.label ≡ l → Holds a r → 0 < l → (o : Option NodeRef) (b : Bool) → label o ≡ parent_of a.trees r.label → is_some o ≡ not b → b ≡ is_loose a.trees l
loose_found a law r l is held inner o b up answer = by_parent o up answer
  where
    here : 0 < count_of a.trees l
    here = subst (λ j. 0 < count_of a.trees j) is (law.here r.slot r.label held)

    by_parent : (o : Option NodeRef) → label o ≡ parent_of a.trees r.label → is_some o ≡ not b → b ≡ is_loose a.trees l
    by_parent None up answer =
        let loose : parent_of a.trees l ≡ None = ap (parent_of a.trees) (sym is) ∙ sym up in
        is_true b answer ∙ sym (loose_is a.trees l inner (root_is_top a.trees l law.distinct here loose))
      where
        is_true : (t : Bool) → false ≡ not t → t ≡ true
        is_true true e = refl
        is_true false e = absurd (cc)
    by_parent (Some q) up answer = is_false b answer ∙ by_case (is_loose a.trees l) refl
      where
        is_false : (t : Bool) → true ≡ not t → t ≡ false
        is_false false e = refl
        is_false true e = absurd (cc)

        by_case : (t : Bool) → is_loose a.trees l ≡ t → false ≡ t
        by_case false e = refl
        by_case true e = absurd (
            let none : parent_of a.trees l ≡ None = top_loose a.trees l law.distinct (is_loose_root a.trees l e).1 in
            let some : Some q.label ≡ None = up ∙ (ap (parent_of a.trees) is ∙ none) in
            cc)

pub none_loose : (a : Arena) (l : ℕ) → count_of a.trees l ≡ 0 → false ≡ is_loose a.trees l
none_loose a l none = by_case (is_loose a.trees l) refl
  where
    by_case : (t : Bool) → is_loose a.trees l ≡ t → false ≡ t
    by_case false e = refl
    by_case true e = absurd (let top = (is_loose_root a.trees l e).1 in omega (arith, top, none, times-tops a.trees l))

swapped_same : (i j : ℕ) → (i == j) ≡ (j == i)
swapped_same i j = grind (arith, nat_tests)

pub gives_one_more : (a b c : Arena) (rs : List NodeRef) (i : ℕ) (z : NodeRef) → i < length rs → GivesUp (has_label (labels_of (take i rs))) a b → GivesUp (λ j. j == (get_or rs i z).label) b c → GivesUp (has_label (labels_of (take (i + 1) rs))) a c
gives_one_more a b c rs i z lt x y =
    let r = get_or rs i z in
    gives_on (λ l. has_label (labels_of (take i rs)) l || (l == r.label)) (has_label (labels_of (take (i + 1) rs))) a c (λ l top. same l) (gives_join (has_label (labels_of (take i rs))) (λ j. j == r.label) a b c x y)
  where
    same : (l : ℕ) → (has_label (labels_of (take i rs)) l || (l == (get_or rs i z).label)) ≡ has_label (labels_of (take (i + 1) rs)) l
    same l =
        let r = get_or rs i z in
        let more : labels_of (take (i + 1) rs) ≡ labels_of (take i rs) ++ r.label ∷ [] = ap labels_of (take_more rs i z lt) ∙ labels_of-append (take i rs) (r ∷ []) in
        sym (ap (λ ls. has_label ls l) more ∙ (list_any-append (λ x. x == l) (labels_of (take i rs)) (r.label ∷ []) ∙ ap (λ t. has_label (labels_of (take i rs)) l || t) (or_false (r.label == l) ∙ swapped_same r.label l)))
      where
        or_false : (t : Bool) → (t || false) ≡ t
        or_false true = refl
        or_false false = refl

        take_more : (ns : List NodeRef) (j : ℕ) (z : NodeRef) → j < length ns → take (j + 1) ns ≡ take j ns ++ get_or ns j z ∷ []
        take_more [] j z h = absurd (omega arith)
        take_more (n ∷ ns) zero z h = refl
        take_more (n ∷ ns) (suc j) z h = (let e : suc j + 1 ≡ suc (j + 1) = omega arith in ap (λ i. take i (n ∷ ns)) e ∙ ap (λ ms. n ∷ ms) (take_more ns j z (omega arith)))

pub gives_roots : (a b : Arena) (rs : List NodeRef) (n : ℕ) → length rs ≤ n → GivesUp (has_label (labels_of (take n rs))) a b → GivesUp (has_label (labels_of rs)) a b
gives_roots a b rs n all x = subst (λ ns. GivesUp (has_label (labels_of ns)) a b) (take_rest n rs all) x
  where
    take_rest : (n : ℕ) (ns : List NodeRef) → length ns ≤ n → take n ns ≡ ns
    take_rest zero [] h = refl
    take_rest (suc n) [] h = refl
    take_rest zero (m ∷ ms) h = absurd (omega arith)
    take_rest (suc n) (m ∷ ms) h = ap (λ ks. m ∷ ks) (take_rest n ms (omega arith))

pub listed_at : (rs : List NodeRef) (i : ℕ) (z : NodeRef) → i < length rs → has_label (labels_of rs) (get_or rs i z).label ≡ true
listed_at [] i z h = absurd (omega arith)
listed_at (r ∷ rs) zero z h = elim (eqb_tells r.label r.label) [ inl (e, _) ↦ rw e refl | inr (_, off) ↦ absurd (off refl) ]
listed_at (r ∷ rs) (suc i) z h = (let ih = listed_at rs i z (omega arith) in elim (true_or_false (r.label == (get_or rs i z).label)) [ inl t ↦ rw t refl | inr t ↦ rw (t, ih) refl ])

pub roots_loose : (a b : Arena) (rs : List NodeRef) (i l : ℕ) → IsArena a → parent_of a.trees l ≡ None → GivesUp (has_label (labels_of (take i rs))) a b → parent_of b.trees l ≡ None
roots_loose a b rs i l law loose x = ap (λ t. parent_of t l) x.trees ∙ loose_detached (has_label (labels_of (take i rs))) a.trees l law.distinct loose

-- ---- what is listed

pub filtered_loose : (f : Forest Content) (next : ℕ) → IsDistinct f → ((l : ℕ) → 0 < count_of f l → l < next) → (rs : List NodeRef) → Each (λ l. (0 < l) × ((l < next) × (parent_of f l ≡ None))) (labels_of (loose_roots f rs))
filtered_loose f next once below [] = tt
filtered_loose f next once below (r ∷ rs) = elim (true_or_false (is_loose f r.label)) [
  | inl t ↦ (let u = is_loose_root f r.label t in let top = u.1 in rw t ((u.0, (below r.label (omega (arith, top, times-tops f r.label)), top_loose f r.label once top)), filtered_loose f next once below rs))
  | inr t ↦ rw t (filtered_loose f next once below rs)
]

or_more : (b : Bool) → (b || true) ≡ true
or_more true = refl
or_more false = refl

-- a root of a loose tree that was listed is listed
pub listed_loose : (f : Forest Content) (rs : List NodeRef) (l : ℕ) → is_loose f l ≡ true → has_label (labels_of rs) l ≡ true → has_label (labels_of (loose_roots f rs)) l ≡ true
listed_loose f [] l loose h = h
listed_loose f (r ∷ rs) l loose h = elim (eqb_tells r.label l) [
  | inl (e, same) ↦ (let t : is_loose f r.label ≡ true = ap (is_loose f) same ∙ loose in rw (t, e) refl)
  | inr (e, _) ↦ (
      let ih = listed_loose f rs l loose (rw e at h) in
      elim (true_or_false (is_loose f r.label)) [
        | inl t ↦ rw (t, e) ih
        | inr t ↦ rw t ih
      ])
]

pub listed_after : (n : ℕ) (rs : List NodeRef) (l : ℕ) → has_label (labels_of (drop n rs)) l ≡ true → has_label (labels_of rs) l ≡ true
listed_after zero rs l h = h
listed_after (suc n) [] l h = h
listed_after (suc n) (r ∷ rs) l h = (let ih = listed_after n rs l h in rw ih (or_more (r.label == l)))

pub listed_before : (n : ℕ) (rs : List NodeRef) (l : ℕ) → has_label (labels_of (take n rs)) l ≡ true → has_label (labels_of rs) l ≡ true
listed_before zero rs l h = absurd (cc)
listed_before (suc n) [] l h = h
listed_before (suc n) (r ∷ rs) l h = elim (eqb_tells r.label l) [
  | inl (e, _) ↦ rw e refl
  | inr (e, _) ↦ (let h' = rw e at h in rw e (listed_before n rs l h'))
]
