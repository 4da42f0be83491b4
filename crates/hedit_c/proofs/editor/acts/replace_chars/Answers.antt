use Rattle.std.proofs.Common.{ℕ, List, sym, subst}
use Rattle.hedit_c.specs.Calls.{ReplaceAnswers, pair_of_points}
use Rattle.hedit_c.specs.declared.editor.status.Status.{Status}
use Rattle.hedit_c.proofs.Replacing.{replace_answers}
use Rattle.hedit_c.proofs.editor.acts.replace_chars.Goals as goal

pub returns-clause-told : goal.returns-clause-told
returns-clause-told c =
    let old = c.args.editor.now in
    let new = c.replace.new.self in
    let found = pair_of_points old.editing c.args.anchor c.args.focus in
    let text = c.as_slice.result.now in
    subst (λ (w : List ℕ). ReplaceAnswers c.ranged.result old.editing new.editing found w) c.as_slice.ensures
    (subst (λ (s : Status). ReplaceAnswers s old.editing new.editing found text) (sym c.ranged.ensures.status)
    (replace_answers found c.replace.result old new text c.replace.ensures.tells))
