use Rattle.std.proofs.Common.{Result, Err, sym, subst}
use Rattle.edit_engine.specs.Execution.{TellsOnRange, outcome_at}
use Rattle.edit_engine.specs.Promises.{ExecPromises, is_yes}
use Rattle.edit_engine.specs.declared.answers.Answer.{Answer}
use Rattle.edit_engine.specs.declared.answers.ExecFault.{ExecFault}
use Rattle.edit_engine.specs.declared.answers.RangeFault.{RangeFault}
use Rattle.edit_engine.proofs.Outcomes.{on_range_by, tells_on_range}
use Rattle.edit_engine.proofs.editor.Editor.exec_on.Goals as goal

pub returns-in-Ok : goal.returns-in-Ok
returns-in-Ok c =
    let old = c.args.self.now in
    let new = c.exec_at.new.self in
    let r = c.exec_at.result in
    let o = outcome_at c.args.at c.args.joined old.editing c.args.command c.args.value.now in
    record {
      tells = subst (λ (x : Result Answer ExecFault). TellsOnRange (on_range_by x) old.editing new.editing o) c.in-Ok.is (tells_on_range r old.editing new.editing o c.exec_at.ensures.tells);
      promises = subst (λ (x : Result Answer ExecFault). ExecPromises (is_yes x) c.args.at c.args.joined c.args.command c.args.value.now old new) c.in-Ok.is c.exec_at.ensures.promises;
    }

pub returns-in-Err : goal.returns-in-Err
returns-in-Err c =
    let old = c.args.self.now in
    let new = c.exec_at.new.self in
    let r = c.exec_at.result in
    let o = outcome_at c.args.at c.args.joined old.editing c.args.command c.args.value.now in
    record {
      tells = subst (λ (f : RangeFault). TellsOnRange (Err f) old.editing new.editing o) (sym c.from.ensures)
          (subst (λ (x : Result Answer ExecFault). TellsOnRange (on_range_by x) old.editing new.editing o) c.in-Err.is (tells_on_range r old.editing new.editing o c.exec_at.ensures.tells));
      promises = subst (λ (x : Result Answer ExecFault). ExecPromises (is_yes x) c.args.at c.args.joined c.args.command c.args.value.now old new) c.in-Err.is c.exec_at.ensures.promises;
    }
