-- Changes one after another, over what is left of a forest.
use Rattle.std.proofs.Common.{ℕ, Bool, List, [], ◌∷◌, ◌++◌, refl, sym, ap, subst, ◌∙◌, arith}
use Rattle.dom_model.specs.declared.Content.{Content}
use Rattle.dom_model.specs.Forest.{Forest}
use Rattle.dom_model.specs.Pruned.{pruned}
use Rattle.undo_log.specs.Turning.{back, forth, inverses_back, inverses_forth, FitsBack, FitsForth}
use Rattle.forest_changes.specs.Change.{Change, IsForest, Fits, applied, inverse}
use Rattle.forest_changes.specs.Named.{named, named_in, Each}
use Rattle.forest_changes.specs.Down.{Prunes, IsLeft, GoBackDown, GoForthDown}
use Rattle.forest_changes.proofs.Twice.{IsForest-applied}
use Rattle.forest_changes.proofs.DownChange.{down, up}

pub each_join : {A : Type 0} (P : A → Type 0) (ls ms : List A) → Each P ls → Each P ms → Each P (ls ++ ms)
each_join P [] ms h r = r
each_join P (l ∷ ls) ms h r = (h.0, each_join P ls ms h.1 r)

pub each_first : {A : Type 0} (P : A → Type 0) (ls ms : List A) → Each P (ls ++ ms) → Each P ls
each_first P [] ms h = tt
each_first P (l ∷ ls) ms h = (h.0, each_first P ls ms h.1)

pub each_rest : {A : Type 0} (P : A → Type 0) (ls ms : List A) → Each P (ls ++ ms) → Each P ms
each_rest P [] ms h = h
each_rest P (l ∷ ls) ms h = each_rest P ls ms h.1

pub each_of : {A : Type 0} (P Q : A → Type 0) (ls : List A) → ((l : A) → P l → Q l) → Each P ls → Each Q ls
each_of P Q [] go h = tt
each_of P Q (l ∷ ls) go h = (go l h.0, each_of P Q ls go h.1)

module _ (k : ℕ → Bool) where
  pub back_down : (xs : List Change) (f : Forest Content) → Prunes k f → FitsBack applied Fits xs f → Each (IsLeft k f) (named_in xs) → GoBackDown k xs f
  unfolding back inverses_back FitsBack
  back_down [] f prunes h hs = record { fits = tt; same = refl; turns = refl; names = tt; prunes = prunes; stays = λ l. refl }
  back_down (x ∷ xs) f prunes h hs =
      let r = back_down xs f prunes h.0 (each_rest (IsLeft k f) (named x) (named_in xs) hs) in
      let to : (l : ℕ) → IsLeft k f l → IsLeft k (back applied xs f) l = λ l w. omega (arith, w, r.stays l) in
      let from : (l : ℕ) → IsLeft k (back applied xs f) l → IsLeft k f l = λ l w. omega (arith, w, r.stays l) in
      let d = down k x (back applied xs f) r.prunes h.1 (each_of (IsLeft k f) (IsLeft k (back applied xs f)) (named x) to (each_first (IsLeft k f) (named x) (named_in xs) hs)) in
      record {
        fits = (r.fits, subst (λ (g : Forest Content). Fits x g) r.same d.fits);
        same = d.same ∙ ap (applied x) r.same;
        turns = λ i. (ap (inverse x) (sym r.same) ∙ d.turns) i ∷ r.turns i;
        names = each_join (IsLeft k f) (named (inverse x (back applied xs f))) (named_in (inverses_back applied inverse xs f)) (each_of (IsLeft k (back applied xs f)) (IsLeft k f) (named (inverse x (back applied xs f))) from d.names) r.names;
        prunes = d.prunes;
        stays = λ l. d.stays l ∙ r.stays l;
      }

  pub forth_down : (xs : List Change) (f : Forest Content) → Prunes k f → FitsForth applied Fits xs f → Each (IsLeft k f) (named_in xs) → GoForthDown k xs f
  unfolding forth inverses_forth FitsForth
  forth_down [] f prunes h hs = record { fits = tt; same = refl; turns = refl; names = tt; prunes = prunes; stays = λ l. refl }
  forth_down (x ∷ xs) f prunes h hs =
      let d = down k x f prunes h.0 (each_first (IsLeft k f) (named x) (named_in xs) hs) in
      let g = applied x f in
      let to : (l : ℕ) → IsLeft k f l → IsLeft k g l = λ l w. omega (arith, w, d.stays l) in
      let from : (l : ℕ) → IsLeft k g l → IsLeft k f l = λ l w. omega (arith, w, d.stays l) in
      let r = forth_down xs g d.prunes h.1 (each_of (IsLeft k f) (IsLeft k g) (named_in xs) to (each_rest (IsLeft k f) (named x) (named_in xs) hs)) in
      record {
        fits = (d.fits, subst (λ (w : Forest Content). FitsForth applied Fits xs w) d.same r.fits);
        same = r.same ∙ ap (forth applied xs) d.same;
        turns = λ i. d.turns i ∷ (ap (inverses_forth applied inverse xs) (sym d.same) ∙ r.turns) i;
        names = each_join (IsLeft k f) (named (inverse x f)) (named_in (inverses_forth applied inverse xs g)) d.names (each_of (IsLeft k g) (IsLeft k f) (named_in (inverses_forth applied inverse xs g)) from r.names);
        prunes = r.prunes;
        stays = λ l. r.stays l ∙ d.stays l;
      }

  -- ---- changes of what is left are changes of the whole

  record BackUp (xs : List Change) (f : Forest Content) : Type 0 where
    fits : FitsBack applied Fits xs f
    names : Each (IsLeft k f) (named_in xs)
    forest : IsForest (back applied xs f)

  back_up : (xs : List Change) (f : Forest Content) → Prunes k f → IsForest f → FitsBack applied Fits xs (pruned k f) → BackUp xs f
  unfolding back FitsBack
  back_up [] f prunes ok h = record { fits = tt; names = tt; forest = ok }
  back_up (x ∷ xs) f prunes ok h =
      let r = back_up xs f prunes ok h.0 in
      let d = back_down xs f prunes r.fits r.names in
      let u = up k x (back applied xs f) d.prunes r.forest (subst (λ (g : Forest Content). Fits x g) (sym d.same) h.1) in
      record {
        fits = (r.fits, u.0);
        names = each_join (IsLeft k f) (named x) (named_in xs) (each_of (IsLeft k (back applied xs f)) (IsLeft k f) (named x) (λ l w. omega (arith, w, d.stays l)) u.1) r.names;
        forest = IsForest-applied x (back applied xs f) u.0;
      }

  pub back_fits_up : (xs : List Change) (f : Forest Content) → Prunes k f → IsForest f → FitsBack applied Fits xs (pruned k f) → FitsBack applied Fits xs f × Each (IsLeft k f) (named_in xs)
  back_fits_up xs f prunes ok h = (let r = back_up xs f prunes ok h in (r.fits, r.names))

  pub forth_fits_up : (xs : List Change) (f : Forest Content) → Prunes k f → IsForest f → FitsForth applied Fits xs (pruned k f) → FitsForth applied Fits xs f × Each (IsLeft k f) (named_in xs)
  unfolding forth FitsForth
  forth_fits_up [] f prunes ok h = (tt, tt)
  forth_fits_up (x ∷ xs) f prunes ok h =
      let u = up k x f prunes ok h.0 in
      let d = down k x f prunes u.0 u.1 in
      let r = forth_fits_up xs (applied x f) d.prunes (IsForest-applied x f u.0) (subst (λ (g : Forest Content). FitsForth applied Fits xs g) (sym d.same) h.1) in
      ((u.0, r.0), each_join (IsLeft k f) (named x) (named_in xs) u.1 (each_of (IsLeft k (applied x f)) (IsLeft k f) (named_in xs) (λ l w. omega (arith, w, d.stays l)) r.1))
