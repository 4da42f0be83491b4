use Rattle.std.proofs.Common.{◌≡◌, true, false, true≢false, Option, Some, sym, ap, ◌∙◌, subst, refl}
use Rattle.std.specs.Prelude.{MatchOption, IfSome}
use Rattle.command_gate.specs.Denied.{is_denied}
use Rattle.edit_model.specs.HtmlNames.Commands.{command_named}
use Rattle.edit_model.specs.LiveRange.declared.places.Pair.{Pair}
use Rattle.edit_model.specs.Valid.{IsPlacedPair}
use Rattle.edit_engine.specs.Editing.{EditorValue}
use Rattle.edit_engine.specs.Execution.{TellsOnRange, misplaced, outcome_with}
use Rattle.edit_engine.specs.Places.{range_in}
use Rattle.edit_engine.specs.Promises.{ExecPromises, is_yes}
use Rattle.edit_engine.proofs.Outcomes.{denied_tells, allowed_with}
use Rattle.edit_engine.proofs.Seeing.{range_is}
use Rattle.edit_engine.proofs.editor.Editor.exec_with.Goals as goal

pub exec_on-requires : goal.exec_on-requires
exec_on-requires g c = subst (λ (v : EditorValue). IfSome c.in-false-Some.at (IsPlacedPair v.editing.state.trees)) c.self.view_is c.in-false-Some.ensures'.placed

pub returns-in-true-default : goal.returns-in-true-default
returns-in-true-default g c =
    let old = c.args.self.now in
    let name = c.args.name.now in
    let denied = c.args.gate.now in
    let options = c.args.options in
    let is : is_denied denied name ≡ true = ap (is_denied denied) (sym c.as_bytes.ensures.value) ∙ sym c.in-true-default.ensures in
    record {
      denied = λ _. (refl, refl);
      tells = denied_tells (range_in old.editing.state.trees options.range) old denied options.joined name c.args.value.now is;
      promises = c.promises_as_is.ensures options.range options.joined (command_named name) c.args.value.now;
    }

pub returns-in-false-Some : goal.returns-in-false-Some
returns-in-false-Some g c =
    let old = c.args.self.now in
    let new = c.exec_on.new.self in
    let result = c.exec_on.result in
    let name = c.args.name.now in
    let v = c.args.value.now in
    let denied = c.args.gate.now in
    let options = c.args.options in
    let f = old.editing.state.trees in
    let at = c.in-false-Some.at in
    let is : is_denied denied name ≡ false = ap (is_denied denied) (sym c.as_bytes.ensures.value) ∙ sym c.in-false-Some.ensures in
    let found : range_in f options.range ≡ Some at = sym (ap (λ (w : EditorValue). range_in w.editing.state.trees options.range) c.self.view_is) ∙ sym c.in-false-Some.ensures'.range in
    let same : at ≡ options.range = range_is f options.range at found in
    record {
      denied = λ yes. absurd (true≢false (sym yes ∙ is));
      tells = subst (λ (o : Option (Option Pair)). MatchOption o ((result ≡ misplaced (is_denied denied name)) × (new ≡ old)) (λ at. TellsOnRange result old.editing new.editing (outcome_with denied at options.joined old.editing name v))) (sym found)
          (rw (allowed_with denied at options.joined old.editing name v is) (rw c.named.ensures.value at c.exec_on.ensures.tells));
      promises = subst (λ (o : Option Pair). ExecPromises (is_yes result) o options.joined (command_named name) v old new) same (rw c.named.ensures.value at c.exec_on.ensures.promises);
    }

pub returns-in-false-None : goal.returns-in-false-None
returns-in-false-None g c =
    let name = c.args.name.now in
    let denied = c.args.gate.now in
    let options = c.args.options in
    let is : is_denied denied name ≡ false = ap (is_denied denied) (sym c.as_bytes.ensures.value) ∙ sym c.in-false-None.ensures in
    let none = sym (ap (λ (w : EditorValue). range_in w.editing.state.trees options.range) c.self.view_is) ∙ sym c.in-false-None.ensures'.range in
    record {
      denied = λ yes. absurd (true≢false (sym yes ∙ is));
      tells = rw (none, is) (refl, refl);
      promises = c.promises_as_is.ensures options.range options.joined (command_named name) c.args.value.now;
    }
