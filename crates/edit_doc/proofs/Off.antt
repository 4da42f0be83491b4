-- Labels outside the tree of a root, and changes that name only such.
use Rattle.std.proofs.Common.{◌≡◌, ℕ, zero, suc, ◌+◌, ◌<◌, Bool, true, false, true≢false, cond, eqb, List, [], ◌∷◌, refl, sym, ap, subst, ◌∙◌, inl, inr, arith}
use Rattle.std.specs.Prelude.{◌==◌}
use Rattle.std.proofs.lemmas.Bool.Decides.{eqb_tells, nat_tests}
use Rattle.edit_model.specs.DomModel.declared.Content.{Content}
use Rattle.edit_model.specs.DomModel.Forest.{Forest, tops, times, count_of, tree_of, parent_of, without, IsDistinct}
use Rattle.edit_model.specs.DomModel.Forest.Forest.{Nil, Tree}
use Rattle.edit_model.specs.DomModel.Pruned.{pruned}
use Rattle.edit_model.proofs.DomModel.Pruning.{count_of-pruned, tree_of-pruned}
use Rattle.edit_model.proofs.DomModel.Stands.{times-tops}
use Rattle.edit_model.proofs.DomModel.Totals.{total-without}
use Rattle.step_edits.specs.UndoLog.Turning.{back, forth, inverses_back, inverses_forth, FitsBack, FitsForth}
use Rattle.step_edits.specs.ForestChanges.Change.{Change, IsForest, Fits, applied, inverse}
use Rattle.step_edits.specs.ForestChanges.Named.{Each, named_in}
use Rattle.step_edits.specs.ForestChanges.Down.{Prunes, IsLeft, GoBackDown, GoForthDown}
use Rattle.step_edits.proofs.ForestChanges.ChangeLists.{each_of, back_down, forth_down}
use Rattle.step_edits.proofs.ForestChanges.DownChange.{prunes_roots, pruned_tree}
use Rattle.step_edits.specs.EditSteps.declared.step.Step.{Step}
use Rattle.step_edits.specs.EditSteps.Step.{changes_of}
use Rattle.edit_doc.specs.Sound.{IsOff, EntriesOff}
use Rattle.edit_doc.proofs.Downs.{each_both, back_forest, back_labels, forth_forest, forth_labels}
use Rattle.edit_doc.proofs.Found.{root_detached, count_of-join}
use Rattle.edit_doc.proofs.HiddenTrees.{tops_detached, top_loose}

pub zero_of : (n : ℕ) → (0 < n → ⊥) → n ≡ 0
zero_of zero h = refl
zero_of (suc n) h = absurd (h (omega arith))

-- a node that goes when its own label is pruned is a root
pub pruned_root : {C : Type 0} (f : Forest C) (l : ℕ) → 0 < count_of f l → count_of (pruned (λ m. m == l) f) l ≡ 0 → 0 < times (tops f) l
pruned_root Nil l here none = absurd (omega (arith, here))
pruned_root (Tree m c ks rest) l here none = elim (eqb_tells m l) [
  | inl (e, _) ↦ rw e (omega arith)
  | inr (e, _) ↦ (
      let here' = rw e at here in
      let none' = rw e at none in
      let ih = pruned_root rest l (omega (arith, here', none')) (omega (arith, none')) in
      rw e (omega (arith, ih)))
]

pub own_label : (l : ℕ) → (l == l) ≡ true
own_label l = grind (arith, nat_tests)

pub one_label : (m l : ℕ) → (m == l) ≡ true → m ≡ l
one_label m l e = grind (arith, nat_tests)

-- a root is in its tree
pub own_tree : (f : Forest Content) (l : ℕ) → 0 < times (tops f) l → 0 < count_of (tree_of f l) l
own_tree Nil l top = absurd (omega (arith, top))
own_tree (Tree m c ks rest) l top = elim (eqb_tells m l) [
  | inl (e, _) ↦ rw (e, e) (omega arith)
  | inr (e, _) ↦ (
      let top' = rw e at top in
      let ih = own_tree rest l (omega (arith, top')) in
      rw e (subst (λ n. 0 < n) (sym (count_of-join (tree_of ks l) (tree_of rest l) l)) (omega (arith, ih))))
]

-- what is left when a tree goes stands outside it, and what stands outside is left
pub off_detached : (k : ℕ → Bool) (f : Forest Content) (l m : ℕ) → IsDistinct f → 0 < times (tops f) l → k l ≡ true → IsLeft k f m → IsOff f l m
off_detached k f l m once top t detached = zero_of (count_of (tree_of f l) m) (λ within. true≢false (sym t ∙ (tops_detached k f l (root_detached k f l m once top within detached)).1))

module _ (l : ℕ) where
  abbrev pub only : ℕ → Bool
  only m = m == l

  pub here_of : (f : Forest Content) → 0 < times (tops f) l → 0 < count_of f l
  here_of f top = omega (arith, top, times-tops f l)

  pub prunes_one : (f : Forest Content) → IsForest f → 0 < l → 0 < times (tops f) l → Prunes only f
  prunes_one f is inner top = prunes_roots only f is (apart l inner) (λ m e. ap (parent_of f) (one_label m l e) ∙ top_loose f l is.distinct top)
    where
      apart : (n : ℕ) → 0 < n → (0 == n) ≡ false
      apart n inner = grind (arith, nat_tests)

  counts_one : (f : Forest Content) → IsForest f → 0 < times (tops f) l → (m : ℕ) → count_of (pruned only f) m + count_of (tree_of f l) m ≡ count_of f m
  counts_one f is top m =
      let e : count_of (pruned only f) m ≡ count_of (without f l) m = ap (λ t. count_of t m) (pruned_tree l f is (here_of f top) (top_loose f l is.distinct top)) in
      omega (arith, e, total-without (λ j _. cond (eqb j m) 1 0) f l)

  pub detached_off : (f : Forest Content) → IsForest f → 0 < times (tops f) l → (m : ℕ) → 0 < count_of f m → IsOff f l m → IsLeft only f m
  detached_off f is top m here off = (let c = counts_one f is top m in omega (arith, c, off, here))

  -- the tree stays when changes name nothing of it, and neither do those that take them back
  pub record Passes (f g : Forest Content) (ts : List Change) : Type 0 where
    pub top : 0 < times (tops g) l
    pub same : (m : ℕ) → count_of (tree_of g l) m ≡ count_of (tree_of f l) m
    pub turns : Each (IsOff f l) (named_in ts)

  each_detached : (f : Forest Content) (ls : List ℕ) → IsForest f → 0 < times (tops f) l → Each (λ m. 0 < count_of f m) ls → Each (IsOff f l) ls → Each (IsLeft only f) ls
  each_detached f ls is top here off = each_both (λ m. 0 < count_of f m) (IsOff f l) (IsLeft only f) ls (λ m a b. detached_off f is top m a b) here off

  moved : (f g : Forest Content) (ts : List Change) → IsForest f → IsForest g → 0 < times (tops f) l → Prunes only g → ((m : ℕ) → count_of g m ≡ count_of f m) → ((m : ℕ) → count_of (pruned only g) m ≡ count_of (pruned only f) m) → Each (IsLeft only f) (named_in ts) → Passes f g ts
  moved f g ts is is' top prunes counts stays names =
      let gone = zero_of (count_of (pruned only g) l) (λ detached. true≢false (sym (own_label l) ∙ prunes.out l detached)) in
      let s = counts l in
      let here = here_of f top in
      let top' = pruned_root g l (omega (arith, s, here)) gone in
      record {
        top = top';
        same = λ m. (let a = counts_one f is top m in let b = counts_one g is' top' m in let c = counts m in let d = stays m in omega (arith, a, b, c, d));
        turns = each_of (IsLeft only f) (IsOff f l) (named_in ts) (λ m t. off_detached only f l m is.distinct top (own_label l) t) names;
      }

  pub passes_back : (xs : List Change) (f : Forest Content) → IsForest f → 0 < l → 0 < times (tops f) l → FitsBack applied Fits xs f → Each (λ m. 0 < count_of f m) (named_in xs) → Each (IsOff f l) (named_in xs) → Passes f (back applied xs f) (inverses_back applied inverse xs f)
  passes_back xs f is inner top fits here off =
      let d : GoBackDown only xs f = back_down only xs f (prunes_one f is inner top) fits (each_detached f (named_in xs) is top here off) in
      moved f (back applied xs f) (inverses_back applied inverse xs f) is (back_forest xs f fits is) top d.prunes (λ m. back_labels xs f m fits) d.stays d.names

  pub passes_forth : (xs : List Change) (f : Forest Content) → IsForest f → 0 < l → 0 < times (tops f) l → FitsForth applied Fits xs f → Each (λ m. 0 < count_of f m) (named_in xs) → Each (IsOff f l) (named_in xs) → Passes f (forth applied xs f) (inverses_forth applied inverse xs f)
  passes_forth xs f is inner top fits here off =
      let d : GoForthDown only xs f = forth_down only xs f (prunes_one f is inner top) fits (each_detached f (named_in xs) is top here off) in
      moved f (forth applied xs f) (inverses_forth applied inverse xs f) is (forth_forest xs f fits is) top d.prunes (λ m. forth_labels xs f m fits) d.stays d.names

  -- the same tree in another forest
  pub off_moved : (f g : Forest Content) → ((m : ℕ) → count_of (tree_of g l) m ≡ count_of (tree_of f l) m) → (ls : List ℕ) → Each (IsOff f l) ls → Each (IsOff g l) ls
  off_moved f g same ls h = each_of (IsOff f l) (IsOff g l) ls (λ m t. same m ∙ t) h

  pub entries_moved : (f g : Forest Content) → ((m : ℕ) → count_of (tree_of g l) m ≡ count_of (tree_of f l) m) → (es : List (List Step)) → EntriesOff l f es → EntriesOff l g es
  entries_moved f g same [] h = tt
  entries_moved f g same (e ∷ es) h = (off_moved f g same (named_in (changes_of e)) h.0, entries_moved f g same es h.1)

  -- a tree that isn't pruned
  pub tree_pruned : (k : ℕ → Bool) (f : Forest Content) → IsDistinct f → 0 < times (tops (pruned k f)) l → (m : ℕ) → count_of (tree_of (pruned k f) l) m ≡ count_of (tree_of f l) m
  tree_pruned k f once top m = ap (λ t. count_of t m) (tree_of-pruned k f l once (omega (arith, top, times-tops (pruned k f) l)))

pub each_here : (k : ℕ → Bool) (f : Forest Content) (ls : List ℕ) → Each (IsLeft k f) ls → Each (λ m. 0 < count_of f m) ls
each_here k f ls h = each_of (IsLeft k f) (λ m. 0 < count_of f m) ls (λ m t. omega (arith, t, count_of-pruned k f m)) h

-- what was seen beside a hidden tree stands outside it
pub each_off : (k : ℕ → Bool) (f : Forest Content) (l : ℕ) → IsDistinct f → 0 < times (tops f) l → k l ≡ true → (ls : List ℕ) → Each (IsLeft k f) ls → Each (IsOff f l) ls
each_off k f l once top t ls h = each_of (IsLeft k f) (IsOff f l) ls (λ m x. off_detached k f l m once top t x) h
