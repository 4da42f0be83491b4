-- Changes of what is left of a forest from which some trees are pruned.
use Rattle.std.specs.Prelude.{◌≡◌, ℕ, ◌<◌, Bool, false, List}
use Rattle.dom_model.specs.declared.Content.{Content}
use Rattle.dom_model.specs.Forest.{Forest, count_of}
use Rattle.dom_model.specs.Pruned.{pruned}
use Rattle.undo_log.specs.Turning.{back, forth, inverses_back, inverses_forth, FitsBack, FitsForth}
use Rattle.forest_changes.specs.Change.{Change, Fits, applied, inverse}
use Rattle.forest_changes.specs.Named.{named, named_in, Each}

-- the Document is left, and no node that is left has a label of those whose trees are pruned
pub record Prunes (k : ℕ → Bool) (f : Forest Content) : Type 0 where
  pub document : k 0 ≡ false
  pub out : (l : ℕ) → 0 < count_of (pruned k f) l → k l ≡ false

-- l stands in what is left
abbrev pub IsLeft : (ℕ → Bool) → Forest Content → ℕ → Type 0
IsLeft k f l = 0 < count_of (pruned k f) l

-- The change fits what is left, is the same change there, and turns into the same change, which
-- names only what is left. The same labels are left afterwards
pub record GoesDown (k : ℕ → Bool) (x : Change) (f : Forest Content) : Type 0 where
  pub fits : Fits x (pruned k f)
  pub same : pruned k (applied x f) ≡ applied x (pruned k f)
  pub turns : inverse x (pruned k f) ≡ inverse x f
  pub names : Each (IsLeft k f) (named (inverse x f))
  pub prunes : Prunes k (applied x f)
  pub stays : (l : ℕ) → count_of (pruned k (applied x f)) l ≡ count_of (pruned k f) l

-- the same of changes one after another, from the last of a list to the first
pub record GoBackDown (k : ℕ → Bool) (xs : List Change) (f : Forest Content) : Type 0 where
  pub fits : FitsBack applied Fits xs (pruned k f)
  pub same : pruned k (back applied xs f) ≡ back applied xs (pruned k f)
  pub turns : inverses_back applied inverse xs (pruned k f) ≡ inverses_back applied inverse xs f
  pub names : Each (IsLeft k f) (named_in (inverses_back applied inverse xs f))
  pub prunes : Prunes k (back applied xs f)
  pub stays : (l : ℕ) → count_of (pruned k (back applied xs f)) l ≡ count_of (pruned k f) l

-- and from the first to the last
pub record GoForthDown (k : ℕ → Bool) (xs : List Change) (f : Forest Content) : Type 0 where
  pub fits : FitsForth applied Fits xs (pruned k f)
  pub same : pruned k (forth applied xs f) ≡ forth applied xs (pruned k f)
  pub turns : inverses_forth applied inverse xs (pruned k f) ≡ inverses_forth applied inverse xs f
  pub names : Each (IsLeft k f) (named_in (inverses_forth applied inverse xs f))
  pub prunes : Prunes k (forth applied xs f)
  pub stays : (l : ℕ) → count_of (pruned k (forth applied xs f)) l ≡ count_of (pruned k f) l
