-- What takes changes back is told as edits that lead back.
use Rattle.std.proofs.Common.{◌≡◌, ℕ, Bool, List, [], ◌∷◌, ◌++◌, reverse, refl, sym, ap, subst, ◌∙◌, arith}
use Rattle.forest_changes.specs.DomModel.declared.Content.{Content}
use Rattle.forest_changes.specs.DomModel.Forest.{Forest, tree_of}
use Rattle.forest_changes.specs.DomModel.Pruned.{pruned}
use Rattle.forest_changes.specs.UndoLog.Turning.{back, forth, inverses_forth, FitsBack, FitsForth}
use Rattle.forest_changes.proofs.UndoLog.Lists.{reverse-cons}
use Rattle.forest_changes.proofs.UndoLog.Turns.{forth-append}
use Rattle.forest_changes.specs.Change.{Change, Fits, applied, inverse}
use Rattle.forest_changes.specs.Named.{named, named_in, Each}
use Rattle.forest_changes.specs.Down.{Prunes, IsLeft}
use Rattle.forest_changes.proofs.ChangeLists.{forth_down, each_join, each_first, each_rest, each_of}
use Rattle.forest_changes.proofs.Twice.{forth_turns}
use Rattle.document_edits.specs.Told.{told_all, told_back}
use Rattle.document_edits.specs.Followed.{followed}
use Rattle.document_edits.proofs.Following.{told_all_follows}
use Rattle.document_edits.proofs.Pruned.{told_all-pruned}

-- ---- steps from the last of a list to the first are those of the list the other way round

module _ {T S : Type 0} (act : T → S → S) where
  pub forth-reverse : (xs : List T) (s : S) → forth act (reverse xs) s ≡ back act xs s
  unfolding back forth
  forth-reverse [] s = refl
  forth-reverse (x ∷ xs) s =
      ap (λ r. forth act r s) (reverse-cons x xs) ∙ (forth-append act (reverse xs) x s ∙ ap (act x) (forth-reverse xs s))

  module _ (fits : T → S → Type 0) where
    FitsForth-append : (xs : List T) (x : T) (s : S) → FitsForth act fits xs s → fits x (forth act xs s) → FitsForth act fits (xs ++ x ∷ []) s
    unfolding forth FitsForth
    FitsForth-append [] x s h last = (last, tt)
    FitsForth-append (y ∷ xs) x s h last = (h.0, FitsForth-append xs x (act y s) h.1 last)

    pub FitsForth-reverse : (xs : List T) (s : S) → FitsBack act fits xs s → FitsForth act fits (reverse xs) s
    unfolding back forth FitsBack FitsForth
    FitsForth-reverse [] s h = tt
    FitsForth-reverse (x ∷ xs) s h =
        subst (λ r. FitsForth act fits r s) (sym (reverse-cons x xs))
        (FitsForth-append (reverse xs) x s (FitsForth-reverse xs s h.0) (subst (fits x) (sym (forth-reverse xs s)) h.1))

module _ (P : ℕ → Type 0) where
  each_append : (xs : List Change) (x : Change) → Each P (named_in xs) → Each P (named x) → Each P (named_in (xs ++ x ∷ []))
  each_append [] x h last = each_join P (named x) [] last tt
  each_append (y ∷ xs) x h last =
      each_join P (named y) (named_in (xs ++ x ∷ [])) (each_first P (named y) (named_in xs) h)
      (each_append xs x (each_rest P (named y) (named_in xs) h) last)

  each_reverse : (xs : List Change) → Each P (named_in xs) → Each P (named_in (reverse xs))
  each_reverse [] h = tt
  each_reverse (x ∷ xs) h =
      subst (λ r. Each P (named_in r)) (sym (reverse-cons x xs))
      (each_append (reverse xs) x (each_reverse xs (each_rest P (named x) (named_in xs) h)) (each_first P (named x) (named_in xs) h))

-- ---- changes that are taken back

pub told_back_follows : (xs : List Change) (f : Forest Content) → FitsForth applied Fits xs f → forth followed (told_back xs f) (tree_of (forth applied xs f) 0) ≡ tree_of f 0
told_back_follows xs f h =
    let g = forth applied xs f in
    let ys = inverses_forth applied inverse xs f in
    let t = forth_turns xs f h in
    told_all_follows (reverse ys) g (FitsForth-reverse applied Fits ys g t.fit)
    ∙ ap (λ (w : Forest Content). tree_of w 0) (forth-reverse applied ys g ∙ t.state)

pub told_back-pruned : (k : ℕ → Bool) (xs : List Change) (f : Forest Content) → Prunes k f → FitsForth applied Fits xs f → Each (IsLeft k f) (named_in xs) → told_back xs (pruned k f) ≡ told_back xs f
told_back-pruned k xs f prunes h hs =
    let g = forth applied xs f in
    let ys = inverses_forth applied inverse xs f in
    let d = forth_down k xs f prunes h hs in
    let to : (l : ℕ) → IsLeft k f l → IsLeft k g l = λ l w. omega (arith, w, d.stays l) in
    let names = each_reverse (IsLeft k g) ys (each_of (IsLeft k f) (IsLeft k g) (named_in ys) to d.names) in
    (λ i. told_all (reverse (d.turns i)) (sym d.same i))
    ∙ told_all-pruned k (reverse ys) g d.prunes (FitsForth-reverse applied Fits ys g (forth_turns xs f h).fit) names
