use Rattle.std.proofs.Common.{◌≡◌, true, false, ℕ, Option, IfSome, sym, ap, ◌∙◌, subst, inl, refl, Ok, Err, Some, inr}
use Rattle.std.specs.Prelude.{nat_lt}
use Rattle.edit_model.specs.DomModel.Document.{page_depth}
use Rattle.edit_model.specs.Valid.{IsPlacedPair}
use Rattle.edit_engine.specs.Commands.{is_enabled_in, row_of, action_of}
use Rattle.edit_engine.specs.Editing.{EditorValue, Editing, IsResting, value_of}
use Rattle.edit_engine.specs.Execution.{host_at, Acted, Tells, run_at, run_outcome}
use Rattle.edit_engine.specs.Going.{joins_by}
use Rattle.edit_engine.proofs.Outcomes.{refused_outcome, deep_outcome, runs_outcome, shown, made_outcome, refused_tells, failed_tells}
use Rattle.edit_engine.proofs.editor.Editor.exec_command.Goals as goal
use Rattle.inline_value.specs.UndoLog.declared.log.Committed.{Committed}
use Rattle.inline_value.specs.EditDoc.Changes.{resumed_at}
use Rattle.edit_engine.specs.Changes.{CanFollow}
use Rattle.edit_engine.specs.declared.following.Following.{Following}
use Rattle.edit_engine.specs.Promises.{makes_edit, told_by_exec}
use Rattle.edit_engine.specs.Running.{IsRefused, Ran, TellsChange}
use Rattle.edit_engine.specs.declared.answers.ExecFault.{ExecFault}
use Rattle.edit_engine.proofs.Followed.{run_followed, told_commit, kept_followed}
use Rattle.edit_engine.proofs.GoingOn.{taken, told_edits, joins_on, rests_after}

pub host_at-requires : goal.host_at-requires
host_at-requires c = subst (λ (v : EditorValue). IfSome c.args.at (IsPlacedPair v.editing.state.trees)) (sym c.self.view_is) c.requires

pub returns-then-not-is_enabled_in : goal.returns-then-not-is_enabled_in
returns-then-not-is_enabled_in c =
    let e = c.args.self.now.editing in
    let joining = joins_by c.args.joined e.going c.args.command in
    let host = c.host_at.ensures.is ∙ ap (λ (x : EditorValue). host_at c.args.at x.editing.state) c.self.view_is in
    let off : is_enabled_in (host_at c.args.at e.state) c.args.command ≡ false = ap (λ (h : Option ℕ). is_enabled_in h c.args.command) (sym host) ∙ (sym c.is_enabled_in.ensures ∙ c.if-not-is_enabled_in.true) in
    record { tells = (inl (refused_outcome e c.args.at joining c.args.value.now c.args.command off), refl); followed = inl (refl, refl); told = refl }

pub returns-then-is_deeper_than : goal.returns-then-is_deeper_than
returns-then-is_deeper_than c =
    let e = c.args.self.now.editing in
    let joining = joins_by c.args.joined e.going c.args.command in
    let host = c.host_at.ensures.is ∙ ap (λ (x : EditorValue). host_at c.args.at x.editing.state) c.self.view_is in
    let on : is_enabled_in (host_at c.args.at e.state) c.args.command ≡ true = ap (λ (h : Option ℕ). is_enabled_in h c.args.command) (sym host) ∙ (sym c.is_enabled_in.ensures ∙ c.if-not-is_enabled_in.false) in
    record {
      tells = (deep_outcome e c.args.at joining c.args.value.now c.args.command on (ap (λ (x : EditorValue). nat_lt 250 (page_depth x.editing.state.trees)) (sym c.self.view_is) ∙ (sym c.is_deeper_than.ensures ∙ c.if-is_deeper_than.true)), refl);
      followed = inl (refl, refl);
      told = refl;
    }

pub run_command-requires : goal.run_command-requires
run_command-requires c = record {
  closed = c.self.invariant.closed;
  placed = subst (λ (v : EditorValue). IfSome c.args.at (IsPlacedPair v.editing.state.trees)) (sym c.self.view_is) c.requires;
  joinable = λ on. c.self.invariant.joinable (joins_on c.args.joined c.self.inside.going c.args.command (sym c.joins_by-joining.ensures ∙ on));
}

pub invariant_of-self : goal.invariant_of-self
invariant_of-self c =
    let w = c.self.inside.doc in
    let new = c.run_command.new.doc in
    let going = c.self.inside.going in
    let host = host_at c.args.at w.state in
    let joining = c.joins_by-joining.result in
    let m = run_at c.args.at (action_of c.args.command c.args.value.now) in
    let following = c.self.inside.following in
    let after = c.going_after-self-inside.result in
    let t = taken w new going host joining c.args.command m c.in-Ok-Some.field-0 c.in-Ok-Some.committed c.in-Ok-Some.field-0-is c.in-Ok-Some.ensures.ran after c.going_after-self-inside.ensures in
    let tells = told_edits w new going host joining c.args.command m c.in-Ok-Some.field-0 c.in-Ok-Some.committed c.in-Ok-Some.field-0-is c.in-Ok-Some.ensures.ran in
    subst (λ (x : Following). IsResting new after x) (sym c.commit-self-inside.ensures)
    (rests_after w new going host joining c.args.command m following after c.kept_edits-kept.result c.in-Ok-Some.committed c.valid.ensures c.self.invariant (λ on. joins_on c.args.joined going c.args.command (sym c.joins_by-joining.ensures ∙ on)) t tells c.kept_edits-kept.ensures)

pub returns-in-Ok-Some : goal.returns-in-Ok-Some
returns-in-Ok-Some c =
    let w = c.self.inside.doc in
    let new = c.run_command.new.doc in
    let going = c.self.inside.going in
    let host = host_at c.args.at w.state in
    let joining = c.joins_by-joining.result in
    let m = run_at c.args.at (action_of c.args.command c.args.value.now) in
    let after = c.going_after-self-inside.result in
    let following = c.self.inside.following in
    let t = taken w new going host joining c.args.command m c.in-Ok-Some.field-0 c.in-Ok-Some.committed c.in-Ok-Some.field-0-is c.in-Ok-Some.ensures.ran after c.going_after-self-inside.ensures in
    let edited = told_edits w new going host joining c.args.command m c.in-Ok-Some.field-0 c.in-Ok-Some.committed c.in-Ok-Some.field-0-is c.in-Ok-Some.ensures.ran in
    let joins = c.joins_by-joining.ensures in
    let told = told_commit c.in-Ok-Some.committed c.kept_edits-kept.result (resumed_at (joins_by c.args.joined going c.args.command) w.history.undo) (makes_edit c.args.at c.args.command c.args.value.now (shown w going)) following edited (c.kept_edits-kept.ensures ∙ ap (λ j. resumed_at j w.history.undo) joins) in
    let leads : TellsChange (Ok (Some c.in-Ok-Some.committed)) w new joining = subst (λ (o : Option Committed). TellsChange (Ok o) w new joining) c.in-Ok-Some.field-0-is c.in-Ok-Some.ensures.told in
    let here = run_followed w new going after following joining c.kept_edits-kept.result c.in-Ok-Some.committed c.valid.ensures c.self.invariant.closed leads c.kept_edits-kept.ensures in
    let made : run_outcome (shown w going) host (joins_by c.args.joined going c.args.command) c.args.command m ≡ Acted true (shown new after) =
    ap (λ j. run_outcome (shown w going) host j c.args.command m) (sym c.joins_by-joining.ensures) ∙ made_outcome w new going host joining c.args.command m after t.made t.goes in
    let e = c.args.self.now.editing in
    let host_is = c.host_at.ensures.is ∙ ap (λ (x : EditorValue). host_at c.args.at x.editing.state) c.self.view_is in
    let on : is_enabled_in (host_at c.args.at e.state) c.args.command ≡ true = ap (λ (h : Option ℕ). is_enabled_in h c.args.command) (sym host_is) ∙ (sym c.is_enabled_in.ensures ∙ c.if-not-is_enabled_in.false) in
    let o = runs_outcome e c.args.at (joins_by c.args.joined e.going c.args.command) c.args.value.now c.args.command on (ap (λ (x : EditorValue). nat_lt 250 (page_depth x.editing.state.trees)) (sym c.self.view_is) ∙ (sym c.is_deeper_than.ensures ∙ c.if-is_deeper_than.false)) in
    record {
      tells = rw o (subst (λ (e : Editing). run_outcome e (host_at c.args.at e.state) (joins_by c.args.joined e.going c.args.command) c.args.command m ≡ Acted true (shown new after)) (ap (λ (v : EditorValue). v.editing) c.self.view_is) made);
      followed = subst (λ (v : EditorValue). CanFollow v (value_of new after c.commit-self-inside.result)) c.self.view_is
          (subst (λ (x : Following). CanFollow (value_of w going following) (value_of new after x)) (sym c.commit-self-inside.ensures) here);
      told = subst (λ (v : EditorValue). c.commit-self-inside.result ≡ told_by_exec true c.args.at c.args.joined (Some c.args.command) c.args.value.now v) c.self.view_is
          (c.commit-self-inside.ensures ∙ told);
    }

pub returns-in-Ok-None : goal.returns-in-Ok-None
returns-in-Ok-None c =
    let w = c.self.inside.doc in
    let new = c.run_command.new.doc in
    let going = c.self.inside.going in
    let host = host_at c.args.at w.state in
    let joining = c.joins_by-joining.result in
    let m = run_at c.args.at (action_of c.args.command c.args.value.now) in
    let is : IsRefused w new host (row_of c.args.command).keeping m = subst (λ (o : Option Committed). Ran (Ok o) w new host joining (row_of c.args.command).keeping m) c.in-Ok-None.field-0-is c.in-Ok-None.ensures.ran in
    let r = refused_tells w new going host (joins_by c.args.joined going c.args.command) c.args.command m is in
    let is_old = ap (λ (v : EditorValue). v.editing) c.self.view_is in
    let e = c.args.self.now.editing in
    let host_is = c.host_at.ensures.is ∙ ap (λ (x : EditorValue). host_at c.args.at x.editing.state) c.self.view_is in
    let on : is_enabled_in (host_at c.args.at e.state) c.args.command ≡ true = ap (λ (h : Option ℕ). is_enabled_in h c.args.command) (sym host_is) ∙ (sym c.is_enabled_in.ensures ∙ c.if-not-is_enabled_in.false) in
    let o = runs_outcome e c.args.at (joins_by c.args.joined e.going c.args.command) c.args.value.now c.args.command on (ap (λ (x : EditorValue). nat_lt 250 (page_depth x.editing.state.trees)) (sym c.self.view_is) ∙ (sym c.is_deeper_than.ensures ∙ c.if-is_deeper_than.false)) in
    record {
      tells = rw o ((inr (subst (λ (e : Editing). run_outcome e (host_at c.args.at e.state) (joins_by c.args.joined e.going c.args.command) c.args.command m ≡ Acted false (shown new going)) is_old r.0), r.1 ∙ is_old));
      followed = subst (λ (v : EditorValue). CanFollow v (value_of new going c.self.inside.following)) c.self.view_is
          (kept_followed w new going going c.self.inside.following is.back.state);
      told = ap (λ (v : EditorValue). v.following) c.self.view_is;
    }

pub returns-in-Err : goal.returns-in-Err
returns-in-Err c =
    let w = c.self.inside.doc in
    let new = c.run_command.new.doc in
    let going = c.self.inside.going in
    let host = host_at c.args.at w.state in
    let m = run_at c.args.at (action_of c.args.command c.args.value.now) in
    let back = c.in-Err.ensures.ran in
    let r = failed_tells w new going host (joins_by c.args.joined going c.args.command) c.args.command m c.in-Err.fault back.0 back.1 in
    let e = c.args.self.now.editing in
    let host_is = c.host_at.ensures.is ∙ ap (λ (x : EditorValue). host_at c.args.at x.editing.state) c.self.view_is in
    let on : is_enabled_in (host_at c.args.at e.state) c.args.command ≡ true = ap (λ (h : Option ℕ). is_enabled_in h c.args.command) (sym host_is) ∙ (sym c.is_enabled_in.ensures ∙ c.if-not-is_enabled_in.false) in
    let o = runs_outcome e c.args.at (joins_by c.args.joined e.going c.args.command) c.args.value.now c.args.command on (ap (λ (x : EditorValue). nat_lt 250 (page_depth x.editing.state.trees)) (sym c.self.view_is) ∙ (sym c.is_deeper_than.ensures ∙ c.if-is_deeper_than.false)) in
    record {
      tells = rw o (subst (λ (e : Editing). Tells (Err c.from.result) e (shown new going) (run_outcome e (host_at c.args.at e.state) (joins_by c.args.joined e.going c.args.command) c.args.command m)) (ap (λ (v : EditorValue). v.editing) c.self.view_is)
          (subst (λ (x : ExecFault). Tells (Err x) (shown w going) (shown new going) (run_outcome (shown w going) host (joins_by c.args.joined going c.args.command) c.args.command m)) (sym c.from.ensures) r));
      followed = subst (λ (v : EditorValue). CanFollow v (value_of new going c.self.inside.following)) c.self.view_is
          (kept_followed w new going going c.self.inside.following back.0.state);
      told = ap (λ (v : EditorValue). v.following) c.self.view_is;
    }
