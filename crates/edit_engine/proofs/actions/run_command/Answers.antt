use Rattle.std.proofs.Common.{ℕ, Option, ap, ◌∙◌}
use Rattle.edit_model.specs.Gives.{label_of}
use Rattle.inline_value.specs.EditDoc.Whole.{opened}
use Rattle.edit_engine.specs.declared.commands.Row.{Row}
use Rattle.edit_engine.specs.Commands.{row_of, action_of}
use Rattle.edit_engine.specs.Execution.{host_at, run_at}
use Rattle.edit_engine.proofs.Commanding.{opened_open, kept_open, made, tells_edits, tells_change, refused, failed}
use Rattle.edit_engine.proofs.actions.run_command.Goals as goal

pub open-requires : goal.open-requires
open-requires c = record { closed = c.requires.closed; host_held = c.host_at-host.ensures.held; joinable = c.requires.joinable }

pub act_at-requires : goal.act_at-requires
act_at-requires c = record { «open» = opened_open c.args.doc.now c.open.new.doc (label_of c.host_at-host.result) c.row_of.result.keeping c.args.joining c.in_ok-open.ensures.opened }

pub commit-requires : goal.commit-requires
commit-requires c = record { «open» = kept_open c.open.new.doc c.act_at.new.doc (opened_open c.args.doc.now c.open.new.doc (label_of c.host_at-host.result) c.row_of.result.keeping c.args.joining c.in_ok-open.ensures.opened) c.act_at.ensures.keeps }

pub roll_back-requires : goal.roll_back-requires
roll_back-requires c = record { «open» = kept_open c.open.new.doc c.act_at.new.doc (opened_open c.args.doc.now c.open.new.doc (label_of c.host_at-host.result) c.row_of.result.keeping c.args.joining c.in_ok-open.ensures.opened) c.act_at.ensures.keeps }

pub roll_back-requires-in-Err : goal.roll_back-requires-in-Err
roll_back-requires-in-Err c = record { «open» = kept_open c.open.new.doc c.act_at.new.doc (opened_open c.args.doc.now c.open.new.doc (label_of c.host_at-host.result) c.row_of.result.keeping c.args.joining c.in_ok-open.ensures.opened) c.act_at.ensures.keeps }

pub changes_lead_so_far-requires : goal.changes_lead_so_far-requires
changes_lead_so_far-requires c = record { «open» = kept_open c.open.new.doc c.act_at.new.doc (opened_open c.args.doc.now c.open.new.doc (label_of c.host_at-host.result) c.row_of.result.keeping c.args.joining c.in_ok-open.ensures.opened) c.act_at.ensures.keeps }

pub returns-in-Ok-true : goal.returns-in-Ok-true
returns-in-Ok-true c =
    let k = (row_of c.args.command).keeping in
    let m = run_at c.args.at (action_of c.args.command c.args.value.now) in
    let host = host_at c.args.at c.args.doc.now.state in
    let begins = c.in_ok-open.ensures.opened ∙ (ap (λ (h : Option ℕ). opened h c.row_of.result.keeping c.args.joining c.args.doc.now) c.host_at-host.ensures.is ∙ ap (λ (r : Row). opened host r.keeping c.args.joining c.args.doc.now) c.row_of.ensures) in
    record {
      ran = (
        made c.args.doc.now c.open.new.doc c.act_at.new.doc host c.args.joining k m begins c.act_at.ensures.keeps
            c.commit.new.self c.in-Ok-true.ensures.gives.0 (c.in-Ok-true.ensures.gives.1 ∙ c.in-Ok-true.field-0-test) c.valid.ensures c.commit.ensures.state c.commit.ensures.history c.commit.ensures.closed,
        tells_edits c.args.doc.now c.open.new.doc c.act_at.new.doc host c.args.joining k m begins c.act_at.ensures.keeps
            c.commit.result c.in-Ok-true.ensures.gives.0 c.commit.ensures.answer,
      );
      told = tells_change c.args.doc.now c.open.new.doc c.act_at.new.doc host c.args.joining k m begins c.act_at.ensures.keeps
          c.commit.new.self c.commit.result c.changes_lead_so_far.ensures c.commit.ensures.told c.commit.ensures.answer c.commit.ensures.state;
    }

pub returns-in-Ok-false : goal.returns-in-Ok-false
returns-in-Ok-false c =
    let host = host_at c.args.at c.args.doc.now.state in
    let begins = c.in_ok-open.ensures.opened ∙ (ap (λ (h : Option ℕ). opened h c.row_of.result.keeping c.args.joining c.args.doc.now) c.host_at-host.ensures.is ∙ ap (λ (r : Row). opened host r.keeping c.args.joining c.args.doc.now) c.row_of.ensures) in
    record {
      told = tt;
      ran = refused c.args.doc.now c.open.new.doc c.act_at.new.doc host c.args.joining (row_of c.args.command).keeping (run_at c.args.at (action_of c.args.command c.args.value.now)) begins c.act_at.ensures.keeps
          c.roll_back.new.self c.in-Ok-false.ensures.gives.0 (c.in-Ok-false.ensures.gives.1 ∙ c.in-Ok-false.field-0-test) c.valid-in-Ok-false.ensures c.roll_back.ensures.state c.roll_back.ensures.history c.roll_back.ensures.closed;
    }

pub returns-in-Err : goal.returns-in-Err
returns-in-Err c =
    let host = host_at c.args.at c.args.doc.now.state in
    let begins = c.in_ok-open.ensures.opened ∙ (ap (λ (h : Option ℕ). opened h c.row_of.result.keeping c.args.joining c.args.doc.now) c.host_at-host.ensures.is ∙ ap (λ (r : Row). opened host r.keeping c.args.joining c.args.doc.now) c.row_of.ensures) in
    record {
      told = tt;
      ran = failed c.args.doc.now c.open.new.doc c.act_at.new.doc host c.args.joining (row_of c.args.command).keeping (run_at c.args.at (action_of c.args.command c.args.value.now)) begins c.act_at.ensures.keeps
          c.roll_back-in-Err.new.self c.in-Err.fault c.in-Err.ensures.gives c.roll_back-in-Err.ensures.state c.roll_back-in-Err.ensures.history c.roll_back-in-Err.ensures.closed;
    }
