-- Changes with the whole contents afterwards.
use Rattle.std.proofs.Common.{◌≡◌, ℕ, suc, Bool, List, [], ◌∷◌, ◌++◌, length, unwrap_or, refl, sym, ap, subst, ◌∙◌, arith}
use Rattle.std.specs.Option.{option_and_then}
use Rattle.dom_model.specs.declared.Content.{Content}
use Rattle.dom_model.specs.Contents.{chars_in}
use Rattle.dom_model.specs.Forest.{Forest}
use Rattle.dom_model.specs.Pruned.{pruned}
use Rattle.undo_log.specs.Turning.{forth, FitsForth}
use Rattle.forest_changes.specs.Change.{Change, Remove, Insert, Move, SetText, Splice, SetAttributes, IsForest, Fits, spliced_at, applied, inverse, whole, wholes}
use Rattle.forest_changes.specs.Named.{named, named_in, Each}
use Rattle.forest_changes.specs.Down.{Prunes, IsLeft}
use Rattle.forest_changes.proofs.Splices.{spliced_at-same, part_chars, words_short, words_back}
use Rattle.forest_changes.proofs.PrunedChanges.{content_of-pruned}
use Rattle.forest_changes.proofs.DownChange.{down}
use Rattle.forest_changes.proofs.ChangeLists.{each_first, each_rest, each_of}

pub applied_whole : (x : Change) (f : Forest Content) → applied (whole x f) f ≡ applied x f
unfolding applied
applied_whole (Remove n) f = refl
applied_whole (Insert n p b) f = refl
applied_whole (Move n p b) f = refl
applied_whole (SetText n words) f = refl
applied_whole (Splice n at rest taken put) f = refl
applied_whole (SetAttributes n list) f = refl

pub fits_whole : (x : Change) (f : Forest Content) → Fits x f → Fits (whole x f) f
fits_whole (Remove n) f h = h
fits_whole (Insert n p b) f h = h
fits_whole (Move n p b) f h = h
fits_whole (SetText n words) f h = h
fits_whole (Splice n at rest taken put) f h = record { forest = h.forest; here = (part_chars f n at rest taken put h.here, words_short f n at rest taken put h.here) }
fits_whole (SetAttributes n list) f h = h

pub named_whole : (x : Change) (f : Forest Content) → named (whole x f) ≡ named x
named_whole (Remove n) f = refl
named_whole (Insert n p b) f = refl
named_whole (Move n p b) f = refl
named_whole (SetText n words) f = refl
named_whole (Splice n at rest taken put) f = refl
named_whole (SetAttributes n list) f = refl

-- what takes back the change with whole contents is what takes back the change, with whole contents
pub inverse_whole : (x : Change) (f : Forest Content) → Fits x f → inverse (whole x f) f ≡ whole (inverse x f) (applied x f)
unfolding applied inverse
inverse_whole (Remove n) f h = refl
inverse_whole (Insert n p b) f h = refl
inverse_whole (Move n p b) f h = refl
inverse_whole (SetText n words) f h = refl
inverse_whole (Splice n at rest taken put) f h =
    let words = spliced_at f n at (length taken) put in
    ap (λ o. SetText n (unwrap_or o words)) h.here.chars ∙ ap (SetText n) (sym (words_back f n at rest taken put h.here h.forest))
inverse_whole (SetAttributes n list) f h = refl

-- ---- one after another

pub fits_wholes : (xs : List Change) (f : Forest Content) → FitsForth applied Fits xs f → FitsForth applied Fits (wholes xs f) f
unfolding FitsForth wholes
fits_wholes [] f h = tt
fits_wholes (x ∷ xs) f h = (
  fits_whole x f h.0,
  subst (λ (g : Forest Content). FitsForth applied Fits (wholes xs (applied x f)) g) (sym (applied_whole x f)) (fits_wholes xs (applied x f) h.1),
)

pub forth_wholes : (xs : List Change) (f : Forest Content) → forth applied (wholes xs f) f ≡ forth applied xs f
unfolding forth wholes
forth_wholes [] f = refl
forth_wholes (x ∷ xs) f = ap (forth applied (wholes xs (applied x f))) (applied_whole x f) ∙ forth_wholes xs (applied x f)

pub named_wholes : (xs : List Change) (f : Forest Content) → named_in (wholes xs f) ≡ named_in xs
unfolding wholes
named_wholes [] f = refl
named_wholes (x ∷ xs) f = λ i. named_whole x f i ++ named_wholes xs (applied x f) i

pub length_wholes : (xs : List Change) (f : Forest Content) → length (wholes xs f) ≡ length xs
unfolding wholes
length_wholes [] f = refl
length_wholes (x ∷ xs) f = ap suc (length_wholes xs (applied x f))

pub wholes_join : (xs ys : List Change) (f : Forest Content) → wholes (xs ++ ys) f ≡ wholes xs f ++ wholes ys (forth applied xs f)
unfolding forth wholes
wholes_join [] ys f = refl
wholes_join (x ∷ xs) ys f = ap (λ zs. whole x f ∷ zs) (wholes_join xs ys (applied x f))

-- ---- over what is left of a forest

module _ (k : ℕ → Bool) where
  pub whole_pruned : (x : Change) (f : Forest Content) → IsForest f → Each (IsLeft k f) (named x) → whole x (pruned k f) ≡ whole x f
  whole_pruned (Remove n) f ok hs = refl
  whole_pruned (Insert n p b) f ok hs = refl
  whole_pruned (Move n p b) f ok hs = refl
  whole_pruned (SetText n words) f ok hs = refl
  whole_pruned (Splice n at rest taken put) f ok hs = ap (SetText n) (spliced_at-same f (pruned k f) n at (length taken) put (ap (option_and_then chars_in) (content_of-pruned k f n ok hs.0)))
  whole_pruned (SetAttributes n list) f ok hs = refl

  pub wholes_pruned : (xs : List Change) (f : Forest Content) → Prunes k f → FitsForth applied Fits xs f → Each (IsLeft k f) (named_in xs) → wholes xs (pruned k f) ≡ wholes xs f
  unfolding FitsForth wholes
  wholes_pruned [] f prunes h hs = refl
  wholes_pruned (x ∷ xs) f prunes h hs =
      let first = each_first (IsLeft k f) (named x) (named_in xs) hs in
      let d = down k x f prunes h.0 first in
      let to : (l : ℕ) → IsLeft k f l → IsLeft k (applied x f) l = λ l w. omega (arith, w, d.stays l) in
      let rest = wholes_pruned xs (applied x f) d.prunes h.1 (each_of (IsLeft k f) (IsLeft k (applied x f)) (named_in xs) to (each_rest (IsLeft k f) (named x) (named_in xs) hs)) in
      λ i. whole_pruned x f h.0.forest first i ∷ (ap (wholes xs) (sym d.same) ∙ rest) i
