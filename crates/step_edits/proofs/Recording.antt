-- What a recorder has kept after many steps.
use Rattle.std.proofs.Common.{◌≡◌, true, List, [], ◌∷◌, ◌++◌, sym, ap, ◌∙◌, append_assoc}
use Rattle.std.proofs.lemmas.List.{append-nil}
use Rattle.document_edits.specs.DomModel.ArenaState.{ArenaState}
use Rattle.edit_steps.specs.UndoLog.Watching.{Seen}
use Rattle.edit_steps.specs.declared.step.Step.{Step}
use Rattle.edit_steps.specs.Step.{change_of, changes_of, step_applied}
use Rattle.document_edits.specs.Told.{told, told_all}
use Rattle.step_edits.specs.Recorded.{Recorded, Records}

pub recorded : (xs : List Step) (a : ArenaState) (old new : Recorded) → Seen step_applied Records xs a old new → new.whole ≡ true →
    (old.whole ≡ true) × (new.edits ≡ old.edits ++ told_all (changes_of xs) a.trees)
unfolding Seen step_applied told_all
recorded [] a old new h whole = (ap (λ r. r.whole) (sym h) ∙ whole, ap (λ r. r.edits) h ∙ sym (append-nil old.edits))
recorded (x ∷ xs) a old new h whole =
    let rest = recorded xs (step_applied x a) h.0 new h.2 whole in
    let one = h.1 rest.0 in
    (one.0, rest.1 ∙ (ap (λ es. es ++ told_all (changes_of xs) (step_applied x a).trees) one.1 ∙ append_assoc old.edits (told (change_of x) a.trees) (told_all (changes_of xs) (step_applied x a).trees)))
