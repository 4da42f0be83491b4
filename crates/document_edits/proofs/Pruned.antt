-- Changes are told without a look at the trees that are pruned.
use Rattle.std.proofs.Common.{◌≡◌, ℕ, Bool, List, [], ◌∷◌, ◌++◌, refl, sym, ap, ◌∙◌, arith}
use Rattle.forest_changes.specs.DomModel.declared.Content.{Content}
use Rattle.forest_changes.specs.DomModel.Change.{Change}
use Rattle.forest_changes.specs.DomModel.Change as change
use Rattle.forest_changes.specs.DomModel.Forest.{Forest, tree_of}
use Rattle.forest_changes.specs.DomModel.Pruned.{pruned}
use Rattle.forest_changes.proofs.DomModel.Pruning.{tree_of-pruned}
use Rattle.forest_changes.specs.UndoLog.Turning.{FitsForth}
use Rattle.forest_changes.specs.Change.{IsForest, Fits, applied}
use Rattle.forest_changes.specs.Named.{named, named_in, Each}
use Rattle.forest_changes.specs.Down.{Prunes, IsLeft}
use Rattle.forest_changes.proofs.ChangeLists.{each_first, each_rest, each_of}
use Rattle.forest_changes.proofs.DownChange.{down, IsForest-pruned}
use Rattle.forest_changes.proofs.PrunedChanges.{content_of-pruned}
use Rattle.document_edits.specs.Told.{told, told_all}

module _ (k : ℕ → Bool) where
  document-pruned : (f : Forest Content) → Prunes k f → IsForest f → tree_of (pruned k f) 0 ≡ tree_of f 0
  document-pruned f prunes ok = tree_of-pruned k f 0 ok.distinct (IsForest-pruned k f prunes.document ok).document

  pub told-pruned : (x : Change) (f : Forest Content) → Prunes k f → Fits x f → Each (IsLeft k f) (named x) → told x (pruned k f) ≡ told x f
  unfolding told
  told-pruned (change.Remove n) f prunes h hs = rw (document-pruned f prunes h.forest) refl
  told-pruned (change.Insert n p b) f prunes h hs = rw (document-pruned f prunes h.forest, tree_of-pruned k f n h.forest.distinct hs.0) refl
  told-pruned (change.Move n p b) f prunes h hs = rw (document-pruned f prunes h.forest, tree_of-pruned k f n h.forest.distinct hs.0) refl
  told-pruned (change.SetText n words) f prunes h hs = rw (document-pruned f prunes h.forest, content_of-pruned k f n h.forest hs.0) refl
  told-pruned (change.Splice n at rest taken put) f prunes h hs = rw (document-pruned f prunes h.forest, content_of-pruned k f n h.forest hs.0) refl
  told-pruned (change.SetAttributes n list) f prunes h hs = rw (document-pruned f prunes h.forest) refl

  pub told_all-pruned : (xs : List Change) (f : Forest Content) → Prunes k f → FitsForth applied Fits xs f → Each (IsLeft k f) (named_in xs) → told_all xs (pruned k f) ≡ told_all xs f
  unfolding told_all FitsForth
  told_all-pruned [] f prunes h hs = refl
  told_all-pruned (x ∷ xs) f prunes h hs =
      let own = each_first (IsLeft k f) (named x) (named_in xs) hs in
      let d = down k x f prunes h.0 own in
      let to : (l : ℕ) → IsLeft k f l → IsLeft k (applied x f) l = λ l w. omega (arith, w, d.stays l) in
      let rest = told_all-pruned xs (applied x f) d.prunes h.1 (each_of (IsLeft k f) (IsLeft k (applied x f)) (named_in xs) to (each_rest (IsLeft k f) (named x) (named_in xs) hs)) in
      λ i. told-pruned x f prunes h.0 own i ++ (ap (told_all xs) (sym d.same) ∙ rest) i
