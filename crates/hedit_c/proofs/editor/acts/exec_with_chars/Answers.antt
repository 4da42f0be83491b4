use Rattle.std.proofs.Common.{ℕ, List, refl, sym, subst}
use Rattle.edit_engine.specs.Places.{range_in}
use Rattle.hedit_c.specs.Calls.{WithAnswers}
use Rattle.hedit_c.specs.declared.editor.status.Status.{Status}
use Rattle.hedit_c.proofs.Replacing.{with_answers}
use Rattle.hedit_c.proofs.editor.acts.exec_with_chars.Goals as goal

pub returns-clause-told : goal.returns-clause-told
returns-clause-told c =
    let old = c.args.editor.now in
    let new = c.exec_with.new.self in
    let gate = c.args.gate.now in
    let options = c.args.options in
    let name = c.args.name.now in
    let value = c.as_slice.result.now in
    subst (λ (w : List ℕ). WithAnswers c.ranged.result old.editing new.editing gate options.range options.joined name w) c.as_slice.ensures
    (subst (λ (s : Status). WithAnswers s old.editing new.editing gate options.range options.joined name value) (sym c.ranged.ensures.status)
    (with_answers (range_in old.editing.state.trees options.range) options.range c.exec_with.result old new gate options.joined name value refl c.exec_with.ensures.tells))
