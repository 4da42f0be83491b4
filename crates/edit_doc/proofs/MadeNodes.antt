-- The nodes that commands made, as a forest has them in loose trees.
use Rattle.std.proofs.Common.{◌≡◌, ◌⊎◌, ℕ, ◌+◌, ◌<◌, ◌≤◌, Bool, true, false, true≢false, cond, eqb, List, [], ◌∷◌, ◌++◌, length, suc, Option, refl, sym, ap, subst, ◌∙◌, inl, inr, arith, append-nil, append_assoc}
use Rattle.std.specs.Prelude.{nat_le, nat_lt, ◌||◌, ◌==◌}
use Rattle.std.proofs.lemmas.Bool.Decides.{eqb_tells, nat_tests}
use Rattle.std.proofs.lemmas.List.Elements.{filter-append}
use Rattle.edit_model.specs.DomModel.declared.Content.{Content}
use Rattle.edit_model.specs.DomModel.Contents.{with_chars, with_attributes}
use Rattle.edit_model.specs.DomModel.Forest.{Forest, join, tops, times, count_of, tree_of, without, put_under, put_rising, link, unlink, with_leaf, RisesFrom}
use Rattle.edit_model.specs.DomModel.Forest.Forest.{Nil, Tree}
use Rattle.edit_model.specs.DomModel.Revised.{revised}
use Rattle.edit_model.specs.DomModel.Pruned.{pruned}
use Rattle.edit_model.proofs.DomModel.Stands.{true_or_false}
use Rattle.std.proofs.lemmas.List.{map-append}
use Rattle.std.proofs.lemmas.List.Folds.{list_any-append}
use Rattle.step_edits.proofs.UndoLog.Turns.{back-join}
use Rattle.edit_model.specs.LiveRange.PointsEdit.{has_label}
use Rattle.step_edits.specs.ForestChanges.Change.{Change, Remove, Insert, Move, SetText, Splice, SetAttributes, Fits, applied, inverse, spliced_at}
use Rattle.step_edits.specs.ForestChanges.Named.{Each, named, named_in}
use Rattle.step_edits.proofs.ForestChanges.ChangeLists.{each_first, each_rest}
use Rattle.step_edits.specs.UndoLog.Turning.{back, forth, inverses_back, FitsForth}
use Rattle.step_edits.specs.EditSteps.declared.step.Step.{Step}
use Rattle.step_edits.specs.EditSteps.Step.{change_of, changes_of}
use Rattle.edit_model.specs.History.{used}
use Rattle.edit_doc.specs.History.{forest_before, edits_before, roots_from}
use Rattle.edit_doc.proofs.HiddenTrees.{true_le, false_le, le_true, le_false}
use Rattle.edit_doc.proofs.Places.{node_of, named_node, root_stays}

-- a label that is listed has the property of all that are listed
pub listed_has : (P : ℕ → Type 0) (ls : List ℕ) (l : ℕ) → Each P ls → has_label ls l ≡ true → P l
listed_has P [] l h e = absurd (cc)
listed_has P (x ∷ xs) l h e = elim (eqb_tells' x l) [
  | inl same ↦ subst P same h.0
  | inr u ↦ listed_has P xs l h.1 (sym (ap (λ b. b || has_label xs l) u) ∙ e)
]
  where
    eqb_tells' : (a b : ℕ) → (a ≡ b) ⊎ (eqb a b ≡ false)
    eqb_tells' a b = grind (arith, nat_tests)

abbrev Nodes : Type 0
Nodes = List (ℕ × Content)

-- ---- the roots from a label on

cond_append : {A : Type 0} (b : Bool) (x : A) (xs ys : List A) → cond b (x ∷ (xs ++ ys)) (xs ++ ys) ≡ cond b (x ∷ xs) xs ++ ys
cond_append true x xs ys = refl
cond_append false x xs ys = refl

pub roots-join : (n : ℕ) (f g : Forest Content) → roots_from n (join f g) ≡ roots_from n f ++ roots_from n g
roots-join n Nil g = refl
roots-join n (Tree l c ks rest) g = ap (λ (r : Nodes). cond (nat_le n l) ((l, c) ∷ r) r) (roots-join n rest g) ∙ cond_append (nat_le n l) (l, c) (roots_from n rest) (roots_from n g)

pub roots-leaf : (n l : ℕ) (c : Content) (f : Forest Content) → n ≤ l → roots_from n (with_leaf f l c) ≡ roots_from n f ++ (l, c) ∷ []
roots-leaf n l c f h = roots-join n f (Tree l c Nil Nil) ∙ ap (λ b. roots_from n f ++ cond b ((l, c) ∷ []) []) (le_true n l h)

pub roots-none : (n : ℕ) (f : Forest Content) → ((l : ℕ) → 0 < count_of f l → l < n) → roots_from n f ≡ []
roots-none n Nil h = refl
roots-none n (Tree l c ks rest) h =
    let own : eqb l l ≡ true = grind (arith, nat_tests) in
    let low : l < n = h l (rw own (omega arith)) in
    rw (le_false n l low) (roots-none n rest (λ m t. h m (omega (arith, t))))

-- ---- those of them that changes name

abbrev pub pick : Bool → Bool → ℕ × Content → Nodes → Nodes
pick b h x r = cond b (cond h (x ∷ r) r) r

pick_none : (b : Bool) (x : ℕ × Content) (r : Nodes) → pick b false x r ≡ r
pick_none true x r = refl
pick_none false x r = refl

pub used_one : (xs : List Change) (b : Bool) (x : ℕ × Content) (r : Nodes) → used xs (cond b (x ∷ r) r) ≡ pick b (has_label (named_in xs) x.0) x (used xs r)
unfolding used
used_one xs true x r = refl
used_one xs false x r = refl

pub used_nil : (xs : List Change) → used xs [] ≡ []
unfolding used
used_nil xs = refl

pub used-append : (xs : List Change) (a b : Nodes) → used xs (a ++ b) ≡ used xs a ++ used xs b
unfolding used
used-append xs a b = filter-append (λ (n : ℕ × Content). has_label (named_in xs) n.0) a b

-- a root that no change names
pub skips : (xs : List Change) (b : Bool) (l : ℕ) (c : Content) (r : Nodes) → has_label (named_in xs) l ≡ false → used xs (cond b ((l, c) ∷ r) r) ≡ used xs r
skips xs b l c r off = used_one xs b (l, c) r ∙ (ap (λ h. pick b h (l, c) (used xs r)) off ∙ pick_none b (l, c) (used xs r))

-- trees that are pruned have no root that is named
pub used-pruned : (k : ℕ → Bool) (xs : List Change) (n : ℕ) (f : Forest Content) → ((l : ℕ) → has_label (named_in xs) l ≡ true → k l ≡ false) → used xs (roots_from n (pruned k f)) ≡ used xs (roots_from n f)
used-pruned k xs n Nil h = refl
used-pruned k xs n (Tree l c ks rest) h = elim (true_or_false (k l)) [
  | inl t ↦ (
      let off : has_label (named_in xs) l ≡ false = elim (true_or_false (has_label (named_in xs) l)) [ inl s ↦ absurd (let u : true ≡ false = sym t ∙ h l s in cc) | inr s ↦ s ] in
      ap (λ b. used xs (roots_from n (cond b (pruned k rest) (Tree l c ks (pruned k rest))))) t ∙ (used-pruned k xs n rest h ∙ sym (skips xs (nat_le n l) l c (roots_from n rest) off)))
  | inr t ↦
      ap (λ b. used xs (roots_from n (cond b (pruned k rest) (Tree l c ks (pruned k rest))))) t
      ∙ (used_one xs (nat_le n l) (l, c) (roots_from n (pruned k rest))
      ∙ (ap (pick (nat_le n l) (has_label (named_in xs) l) (l, c)) (used-pruned k xs n rest h) ∙ sym (used_one xs (nat_le n l) (l, c) (roots_from n rest))))
]

pub used-leaf : (xs : List Change) (n l : ℕ) (c : Content) (f : Forest Content) → has_label (named_in xs) l ≡ false → used xs (roots_from n (with_leaf f l c)) ≡ used xs (roots_from n f)
used-leaf xs n l c f off =
    ap (used xs) (roots-join n f (Tree l c Nil Nil))
    ∙ (used-append xs (roots_from n f) (roots_from n (Tree l c Nil Nil))
    ∙ (ap (λ r. used xs (roots_from n f) ++ r) (skips xs (nat_le n l) l c [] off ∙ used_nil xs) ∙ append-nil (used xs (roots_from n f))))

-- ---- a change moves no root with a greater label than that of its node

module _ (n l : ℕ) (lt : l < n) where
  other : (m : ℕ) → nat_le n m ≡ true → eqb m l ≡ false
  other m h = (let t = true_le n m h in grind (arith, nat_tests, t, lt))

  roots-without : (f : Forest Content) → roots_from n (without f l) ≡ roots_from n f
  roots-without Nil = refl
  roots-without (Tree m c ks rest) = elim (eqb_tells m l) [
    | inl (t, same) ↦ rw t (ap (λ b. cond b ((m, c) ∷ roots_from n rest) (roots_from n rest)) (sym (le_false n m (subst (λ j. j < n) (sym same) lt))))
    | inr (t, _) ↦ rw t (ap (λ (r : Nodes). cond (nat_le n m) ((m, c) ∷ r) r) (roots-without rest))
  ]

  roots-tree : (f : Forest Content) → roots_from n (tree_of f l) ≡ []
  roots-tree Nil = refl
  roots-tree (Tree m c ks rest) = elim (eqb_tells m l) [
    | inl (t, same) ↦ rw t (ap (λ b. cond b ((m, c) ∷ []) []) (le_false n m (subst (λ j. j < n) (sym same) lt)))
    | inr (t, _) ↦ rw t (roots-join n (tree_of ks l) (tree_of rest l) ∙ (λ i. roots-tree ks i ++ roots-tree rest i))
  ]

  roots-revised : (g : Content → Content) (f : Forest Content) → roots_from n (revised f l g) ≡ roots_from n f
  roots-revised g Nil = refl
  roots-revised g (Tree m c ks rest) = elim (true_or_false (nat_le n m)) [
    | inl t ↦ (let apart : eqb l m ≡ false = (let h = true_le n m t in grind (arith, nat_tests, h, lt)) in
        ap (λ b. cond (nat_le n m) ((m, cond b (g c) c) ∷ roots_from n (revised rest l g)) (roots_from n (revised rest l g))) apart
        ∙ ap (λ (r : Nodes). cond (nat_le n m) ((m, c) ∷ r) r) (roots-revised g rest))
    | inr t ↦ rw t (roots-revised g rest)
  ]

roots-under : (n p : ℕ) (b : Option ℕ) (t f : Forest Content) → roots_from n (put_under f p b t) ≡ roots_from n f
roots-under n p b t Nil = refl
roots-under n p b t (Tree m c ks rest) = elim (eqb_tells m p) [
  | inl (e, _) ↦ rw e refl
  | inr (e, _) ↦ rw e (ap (λ (r : Nodes). cond (nat_le n m) ((m, c) ∷ r) r) (roots-under n p b t rest))
]

roots-rising : (n l : ℕ) (t f : Forest Content) → roots_from n t ≡ [] → roots_from n (put_rising f l t) ≡ roots_from n f
roots-rising n l t Nil none = none
roots-rising n l t (Tree m c ks rest) none = elim (true_or_false (nat_lt l m)) [
  | inl e ↦ rw e (roots-join n t (Tree m c ks rest) ∙ ap (λ r. r ++ roots_from n (Tree m c ks rest)) none)
  | inr e ↦ rw e (ap (λ (r : Nodes). cond (nat_le n m) ((m, c) ∷ r) r) (roots-rising n l t rest none))
]

roots-unlink : (n l : ℕ) → l < n → (f : Forest Content) → roots_from n (unlink f l) ≡ roots_from n f
roots-unlink n l lt f = roots-rising n l (tree_of f l) (without f l) (roots-tree n l lt f) ∙ roots-without n l lt f

roots-link : (n l : ℕ) → l < n → (p : ℕ) (b : Option ℕ) (f : Forest Content) → roots_from n (link f p b l) ≡ roots_from n f
roots-link n l lt p b f = roots-under n p b (tree_of f l) (without f l) ∙ roots-without n l lt f

pub roots-applied : (n : ℕ) (x : Change) (f : Forest Content) → node_of x < n → roots_from n (applied x f) ≡ roots_from n f
unfolding applied
roots-applied n (Remove m) f lt = roots-unlink n m lt f
roots-applied n (Insert m p b) f lt = roots-link n m lt p b f
roots-applied n (Move m p b) f lt = roots-link n m lt p b (unlink f m) ∙ roots-unlink n m lt f
roots-applied n (SetText m words) f lt = roots-revised n m lt (with_chars words) f
roots-applied n (Splice m at rest taken put) f lt = roots-revised n m lt (with_chars (spliced_at f m at (length taken) put)) f
roots-applied n (SetAttributes m list) f lt = roots-revised n m lt (with_attributes list) f

own_named : (x : Change) (l : ℕ) → node_of x ≡ l → has_label (named x) l ≡ true
own_named x l same = subst (λ m. has_label (named x) m ≡ true) same (by x)
  where
    own : (m : ℕ) → eqb m m ≡ true
    own m = grind (arith, nat_tests)

    by : (y : Change) → has_label (named y) (node_of y) ≡ true
    by (Remove n) = rw (own n) refl
    by (Insert n p b) = rw (own n) refl
    by (Move n p b) = rw (own n) refl
    by (SetText n words) = rw (own n) refl
    by (Splice n at rest taken put) = rw (own n) refl
    by (SetAttributes n list) = rw (own n) refl

or_false : (a b : Bool) → (a || b) ≡ false → (a ≡ false) × (b ≡ false)
or_false false b e = (refl, e)
or_false true b e = absurd (let t : true ≡ false = e in cc)

pub roots-back : (n : ℕ) (xs : List Change) (f : Forest Content) → Each (λ l. l < n) (named_in xs) → roots_from n (back applied xs f) ≡ roots_from n f
unfolding back
roots-back n [] f h = refl
roots-back n (x ∷ xs) f h =
    roots-applied n x (back applied xs f) (named_node (λ l. l < n) x (each_first (λ l. l < n) (named x) (named_in xs) h))
    ∙ roots-back n xs f (each_rest (λ l. l < n) (named x) (named_in xs) h)

-- a root that no change names stays one
pub root_along : (l : ℕ) (xs : List Change) (f : Forest Content) → FitsForth applied Fits xs f → has_label (named_in xs) l ≡ false → 0 < times (tops f) l → 0 < times (tops (forth applied xs f)) l
unfolding forth FitsForth
root_along l [] f h off top = top
root_along l (x ∷ xs) f h off top =
    let parts = list_any-append (λ m. m == l) (named x) (named_in xs) in
    let both = or_false (has_label (named x) l) (has_label (named_in xs) l) (sym parts ∙ off) in
    root_along l xs (applied x f) h.1 both.1 (root_stays x f l h.0 (λ same. true≢false (sym (own_named x l same) ∙ both.0)) top)

-- ---- labels that are named

pub not_named : (high l : ℕ) (ls : List ℕ) → Each (λ m. m < high) ls → high ≤ l → has_label ls l ≡ false
not_named high l ls h le = elim (true_or_false (has_label ls l)) [
  | inl t ↦ absurd (let lt = listed_has (λ m. m < high) ls l h t in omega (arith, lt, le))
  | inr t ↦ t
]

named_in-append : (xs ys : List Change) → named_in (xs ++ ys) ≡ named_in xs ++ named_in ys
named_in-append [] ys = refl
named_in-append (x ∷ xs) ys = ap (λ ls. named x ++ ls) (named_in-append xs ys) ∙ sym (append_assoc (named x) (named_in xs) (named_in ys))

has_both : (xs ys : List Change) (l : ℕ) → has_label (named_in (xs ++ ys)) l ≡ (has_label (named_in xs) l || has_label (named_in ys) l)
has_both xs ys l = ap (λ ls. has_label ls l) (named_in-append xs ys) ∙ list_any-append (λ x. x == l) (named_in xs) (named_in ys)

-- ---- the edits that steps take back

pub no_edits : (f : Forest Content) → edits_before [] f ≡ []
unfolding inverses_back
no_edits f = refl

inverse_length : (xs : List Change) (f : Forest Content) → length (inverses_back applied inverse xs f) ≡ length xs
unfolding inverses_back
inverse_length [] f = refl
inverse_length (x ∷ xs) f = ap suc (inverse_length xs f)

pub count_changes : (xs : List Step) → length (changes_of xs) ≡ length xs
count_changes [] = refl
count_changes (x ∷ xs) = ap suc (count_changes xs)

pub count_edits : (xs : List Step) (f : Forest Content) → length (edits_before xs f) ≡ length xs
count_edits xs f = inverse_length (changes_of xs) f ∙ count_changes xs

inverse-join : (xs ys : List Change) (f : Forest Content) → inverses_back applied inverse (xs ++ ys) f ≡ inverses_back applied inverse xs (back applied ys f) ++ inverses_back applied inverse ys f
unfolding inverses_back
inverse-join [] ys f = refl
inverse-join (x ∷ xs) ys f = λ i. inverse x (back-join applied xs ys f i) ∷ inverse-join xs ys f i

pub edits-join : (es ys : List Step) (f : Forest Content) → edits_before (es ++ ys) f ≡ edits_before es (forest_before ys f) ++ edits_before ys f
edits-join es ys f = ap (λ cs. inverses_back applied inverse cs f) (map-append change_of es ys) ∙ inverse-join (changes_of es) (changes_of ys) f

-- ---- the nodes of an entry that one more command joins

module _ (ts ys : List Change) (first start : ℕ) (le : first ≤ start) (old : Each (λ l. l < start) (named_in ts)) where
  abbrev Both : List Change
  Both = ts ++ ys

  off : (l : ℕ) → start ≤ l → has_label (named_in ts) l ≡ false
  off l from = not_named start l (named_in ts) old from

  only_last : (l : ℕ) → start ≤ l → has_label (named_in Both) l ≡ has_label (named_in ys) l
  only_last l from = has_both ts ys l ∙ ap (λ b. b || has_label (named_in ys) l) (off l from)

  -- from the later label on
  later_all : (low : ℕ) (f : Forest Content) → RisesFrom low f → start ≤ low → used Both (roots_from first f) ≡ used ys (roots_from start f)
  unfolding used
  later_all low Nil up from = refl
  later_all low (Tree l c ks rest) up from =
      let here : start ≤ l = (let u = up.0 in omega (arith, u, from)) in
      let one : nat_le first l ≡ true = le_true first l (omega (arith, le, here)) in
      let two : nat_le start l ≡ true = le_true start l here in
      used_one Both (nat_le first l) (l, c) (roots_from first rest)
      ∙ ((λ i. pick (one i) (only_last l here i) (l, c) (later_all (l + 1) rest up.1 (omega (arith, here)) i))
      ∙ (ap (λ b. pick b (has_label (named_in ys) l) (l, c) (used ys (roots_from start rest))) (sym two) ∙ sym (used_one ys (nat_le start l) (l, c) (roots_from start rest))))

  later_none : (low : ℕ) (f : Forest Content) → RisesFrom low f → start ≤ low → used ts (roots_from first f) ≡ []
  unfolding used
  later_none low Nil up from = refl
  later_none low (Tree l c ks rest) up from =
      let here : start ≤ l = (let u = up.0 in omega (arith, u, from)) in
      skips ts (nat_le first l) l c (roots_from first rest) (off l here) ∙ later_none (l + 1) rest up.1 (omega (arith, here))

  pick_append : (b h : Bool) (x : ℕ × Content) (r s : Nodes) → pick b h x (r ++ s) ≡ pick b h x r ++ s
  pick_append true true x r s = refl
  pick_append true false x r s = refl
  pick_append false h x r s = refl

  -- whether a root is named by the first list or by one of the two makes no difference where it counts
  same_pick : (b h k : Bool) (x : ℕ × Content) (r : Nodes) → (b ≡ true → k ≡ true → h ≡ true) → pick b (h || k) x r ≡ pick b h x r
  same_pick false h k x r up = refl
  same_pick true true k x r up = refl
  same_pick true false false x r up = refl
  same_pick true false true x r up = absurd (let t : false ≡ true = up refl refl in cc)

  pub used-join : (low : ℕ) (f : Forest Content) → RisesFrom low f →
      ((l : ℕ) → 0 < times (tops f) l → first ≤ l → l < start → has_label (named_in ys) l ≡ true → has_label (named_in ts) l ≡ true) →
      used Both (roots_from first f) ≡ used ts (roots_from first f) ++ used ys (roots_from start f)
  used-join low Nil up named = used_nil Both ∙ (λ i. sym (used_nil ts) i ++ sym (used_nil ys) i)
  used-join low (Tree l c ks rest) up named = elim (true_or_false (nat_le start l)) [
    | inl t ↦ (let from = true_le start l t in
        later_all l (Tree l c ks rest) (omega arith, up.1) from ∙ ap (λ r. r ++ used ys (roots_from start (Tree l c ks rest))) (sym (later_none l (Tree l c ks rest) (omega arith, up.1) from)))
    | inr t ↦ (
        let own : eqb l l ≡ true = grind (arith, nat_tests) in
        let top : 0 < times (tops (Tree l c ks rest)) l = rw own (omega arith) in
        let rest_is = used-join (l + 1) rest up.1 (λ m h. named m (omega (arith, h))) in
        let b = nat_le first l in
        let h = has_label (named_in ts) l in
        used_one Both b (l, c) (roots_from first rest)
        ∙ ((λ i. pick b (has_both ts ys l i) (l, c) (rest_is i))
        ∙ (same_pick b h (has_label (named_in ys) l) (l, c) (used ts (roots_from first rest) ++ used ys (roots_from start rest)) (λ u k. named l top (true_le first l u) (false_le start l t) k)
        ∙ (pick_append b h (l, c) (used ts (roots_from first rest)) (used ys (roots_from start rest))
        ∙ ((λ i. sym (used_one ts b (l, c) (roots_from first rest)) i ++ used ys (roots_from start rest))
        ∙ ap (λ k. used ts (roots_from first (Tree l c ks rest)) ++ used ys (cond k ((l, c) ∷ roots_from start rest) (roots_from start rest))) (sym t))))))
  ]
