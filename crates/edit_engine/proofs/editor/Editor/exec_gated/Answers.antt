use Rattle.std.proofs.Common.{◌≡◌, true, false, true≢false, None, sym, ap, ◌∙◌, inl, refl}
use Rattle.command_gate.specs.Denied.{is_denied}
use Rattle.edit_model.specs.HtmlNames.Commands.{command_named}
use Rattle.edit_engine.proofs.Outcomes.{denied_outcome, allowed_outcome}
use Rattle.edit_engine.proofs.editor.Editor.exec_gated.Goals as goal

pub returns-then-denies : goal.returns-then-denies
returns-then-denies g c =
    let old = c.args.self.now.editing in
    let name = c.args.name.now in
    let v = c.args.value.now in
    let denied = c.args.gate.now in
    let is : is_denied denied name ≡ true = ap (is_denied denied) (sym c.as_bytes.ensures.value) ∙ (sym c.denies.ensures ∙ c.if-denies.true) in
    record {
      denied = λ _. (refl, refl);
      tells = (inl (denied_outcome denied old name v is), refl);
      promises = c.promises_as_is.ensures None false (command_named name) v;
    }

pub returns : goal.returns
returns g c =
    let old = c.args.self.now.editing in
    let name = c.args.name.now in
    let denied = c.args.gate.now in
    let is : is_denied denied name ≡ false = ap (is_denied denied) (sym c.as_bytes.ensures.value) ∙ (sym c.denies.ensures ∙ c.if-denies.false) in
    record {
      denied = λ yes. absurd (true≢false (sym yes ∙ is));
      tells = rw (allowed_outcome denied old name c.args.value.now is) (rw c.named.ensures.value at c.exec_at.ensures.tells);
      promises = rw c.named.ensures.value at c.exec_at.ensures.promises;
    }
