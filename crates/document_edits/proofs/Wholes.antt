-- Changes with the whole contents afterwards are told as the same edits.
use Rattle.std.proofs.Common.{◌≡◌, List, [], ◌∷◌, ◌++◌, reverse, refl, sym, ap, ◌∙◌}
use Rattle.forest_changes.specs.DomModel.declared.Content.{Content}
use Rattle.forest_changes.specs.DomModel.Change.{Change}
use Rattle.forest_changes.specs.DomModel.Change as change
use Rattle.forest_changes.specs.DomModel.Forest.{Forest}
use Rattle.forest_changes.specs.UndoLog.Turning.{forth, inverses_forth, FitsForth}
use Rattle.forest_changes.proofs.UndoLog.Lists.{reverse-cons}
use Rattle.forest_changes.specs.Change.{Fits, applied, inverse, whole, wholes}
use Rattle.forest_changes.proofs.Twice.{forth_turns}
use Rattle.forest_changes.proofs.Wholes.{applied_whole, inverse_whole, forth_wholes, wholes_join}
use Rattle.document_edits.specs.Told.{told, told_all, told_back}
use Rattle.document_edits.proofs.Undoing.{forth-reverse, FitsForth-reverse}

pub told_whole : (x : Change) (f : Forest Content) → Fits x f → told (whole x f) f ≡ told x f
unfolding told
told_whole (change.Remove n) f h = refl
told_whole (change.Insert n p b) f h = refl
told_whole (change.Move n p b) f h = refl
told_whole (change.SetText n words) f h = refl
told_whole (change.Splice n at rest taken put) f h = rw h.here.chars refl
told_whole (change.SetAttributes n list) f h = refl

pub told_all_wholes : (xs : List Change) (f : Forest Content) → FitsForth applied Fits xs f → told_all (wholes xs f) f ≡ told_all xs f
unfolding told_all wholes FitsForth
told_all_wholes [] f h = refl
told_all_wholes (x ∷ xs) f h =
    λ i. told_whole x f h.0 i ++ (ap (told_all (wholes xs (applied x f))) (applied_whole x f) ∙ told_all_wholes xs (applied x f) h.1) i

-- ---- changes that are taken back

inverses_wholes : (xs : List Change) (f : Forest Content) → FitsForth applied Fits xs f
    → reverse (inverses_forth applied inverse (wholes xs f) f) ≡ wholes (reverse (inverses_forth applied inverse xs f)) (forth applied xs f)
unfolding forth inverses_forth wholes FitsForth
inverses_wholes [] f h = refl
inverses_wholes (x ∷ xs) f h =
    let g = applied x f in
    let end = forth applied xs g in
    let ys = inverses_forth applied inverse xs g in
    let first : inverse (whole x f) f ≡ whole (inverse x f) g = inverse_whole x f h.0 in
    let more : reverse (inverses_forth applied inverse (wholes xs g) (applied (whole x f) f)) ≡ wholes (reverse ys) end =
    ap (λ (w : Forest Content). reverse (inverses_forth applied inverse (wholes xs g) w)) (applied_whole x f) ∙ inverses_wholes xs g h.1 in
    let again : forth applied (reverse ys) end ≡ g = forth-reverse applied ys end ∙ (forth_turns xs g h.1).state in
    reverse-cons (inverse (whole x f) f) (inverses_forth applied inverse (wholes xs g) (applied (whole x f) f))
    ∙ ((λ i. more i ++ first i ∷ [])
    ∙ (sym (wholes_join (reverse ys) (inverse x f ∷ []) end ∙ ap (λ (w : Forest Content). wholes (reverse ys) end ++ whole (inverse x f) w ∷ []) again)
    ∙ ap (λ zs. wholes zs end) (sym (reverse-cons (inverse x f) ys))))

pub told_back_wholes : (xs : List Change) (f : Forest Content) → FitsForth applied Fits xs f → told_back (wholes xs f) f ≡ told_back xs f
told_back_wholes xs f h =
    let end = forth applied xs f in
    let ys = inverses_forth applied inverse xs f in
    (λ i. told_all (inverses_wholes xs f h i) (forth_wholes xs f i))
    ∙ told_all_wholes (reverse ys) end (FitsForth-reverse applied Fits ys end (forth_turns xs f h).fit)
