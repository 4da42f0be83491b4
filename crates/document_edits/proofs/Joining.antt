-- Changes one after another are told one after another.
use Rattle.std.proofs.Common.{◌≡◌, List, [], ◌∷◌, ◌++◌, refl, sym, ap, ◌∙◌}
use Rattle.std.proofs.lemmas.List.{append_assoc}
use Rattle.forest_changes.specs.DomModel.declared.Content.{Content}
use Rattle.forest_changes.specs.DomModel.Change.{Change}
use Rattle.forest_changes.specs.DomModel.Forest.{Forest}
use Rattle.forest_changes.specs.UndoLog.Turning.{forth}
use Rattle.forest_changes.specs.Change.{applied}
use Rattle.document_edits.specs.Told.{told, told_all}

pub told_all-join : (xs ys : List Change) (f : Forest Content) → told_all (xs ++ ys) f ≡ told_all xs f ++ told_all ys (forth applied xs f)
unfolding told_all forth
told_all-join [] ys f = refl
told_all-join (x ∷ xs) ys f =
    ap (λ r. told x f ++ r) (told_all-join xs ys (applied x f))
    ∙ sym (append_assoc (told x f) (told_all xs (applied x f)) (told_all ys (forth applied xs (applied x f))))

-- edits after others lead on from where those led
pub forth-join : {T S : Type 0} (applied : T → S → S) (xs ys : List T) (s : S) → forth applied (xs ++ ys) s ≡ forth applied ys (forth applied xs s)
unfolding forth
forth-join applied [] ys s = refl
forth-join applied (x ∷ xs) ys s = forth-join applied xs ys (applied x s)
