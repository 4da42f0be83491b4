use Rattle.std.proofs.Common.{Option, sym, ap, subst, inl, refl}
use Rattle.edit_model.specs.HtmlNames.declared.commands.Command.{Command}
use Rattle.edit_engine.specs.Editing.{EditorValue}
use Rattle.edit_engine.specs.Execution.{Tells, outcome_at}
use Rattle.edit_engine.specs.Promises.{ExecPromises, is_yes}
use Rattle.edit_engine.proofs.Confining.{standing}
use Rattle.edit_engine.proofs.Promising.{promised}
use Rattle.edit_engine.proofs.editor.Editor.exec_at.Goals as goal

pub returns-in-Some : goal.returns-in-Some
returns-in-Some c =
    let old = c.args.self.now in
    let new = c.exec_command-answer.new.self in
    let v = c.args.value.now in
    let answer = c.exec_command-answer in
    let stands = standing c.self.inside.doc c.self.inside.going c.self.inside.following c.args.self.now.editing (ap (λ (e : EditorValue). e.editing) c.self.view_is) c.self.invariant c.valid.ensures in
    record {
      tells = subst (λ (o : Option Command). Tells answer.result old.editing new.editing (outcome_at c.args.at c.args.joined old.editing o v)) (sym c.in-Some.is) answer.ensures.tells;
      promises = subst (λ (o : Option Command). ExecPromises (is_yes answer.result) c.args.at c.args.joined o v old new) (sym c.in-Some.is)
          (promised answer.result c.args.at c.args.joined c.in-Some.command v old new stands answer.ensures.tells c.kept_nodes.ensures answer.ensures.followed answer.ensures.told);
    }

pub returns-in-None : goal.returns-in-None
returns-in-None c = record {
  tells = rw c.in-None.is (inl refl, refl);
  promises = c.promises_as_is.ensures c.args.at c.args.joined c.args.command c.args.value.now;
}
