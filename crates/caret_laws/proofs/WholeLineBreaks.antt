-- Inserting a line break at a caret, as a whole.
use Rattle.std.proofs.Common.{◌≡◌, ℕ, true, Some, sym, subst, ◌∙◌}
use Rattle.edit_model.specs.DomModel.Editing.{is_host}
use Rattle.edit_model.specs.LiveRange.declared.places.Point.{Point}
use Rattle.edit_model.specs.State.{State}
use Rattle.edit_model.specs.Run.{final}
use Rattle.edit_model.specs.Valid.{IsValid}
use Rattle.edit_model.proofs.CommandParts.{final_command}
use Rattle.edit_model.proofs.Steps.{final-bind}
use Rattle.delete_core.specs.declared.deletion.TheConstants.Manner.{KEEP_WRAPPERS}
use Rattle.text_insertion.specs.Start.{erase}
use Rattle.insert_objects.specs.LineBreak.{break_line, insert_line_break}
use Rattle.insert_objects.specs.Putting.{from_start_inside}
use Rattle.caret_laws.specs.SolidOrder.{KeepsOrderUpToBlanks, StandsAt, HasRoom}
use Rattle.caret_laws.proofs.Blanks.{caret_then}
use Rattle.caret_laws.proofs.CaretErasing.{erased}
use Rattle.caret_laws.proofs.LineBreaks.{line_breaks_keep}
use Rattle.caret_laws.proofs.Solid.{solid_order}

pub whole_keeps : (s : State) (p : Point) → IsValid s → HasRoom s → StandsAt s p → ((h : ℕ) → s.host ≡ Some h → is_host s.trees h ≡ true) → KeepsOrderUpToBlanks s (final insert_line_break s)
unfolding insert_line_break
whole_keeps s p is room caret hosted =
    let t = final (erase KEEP_WRAPPERS) s in
    let k = erased KEEP_WRAPPERS p s is room caret in
    let at_caret = caret_then s t p k.blanked caret in
    let hosted' : (h : ℕ) → t.host ≡ Some h → is_host t.trees h ≡ true = λ h e. k.blanked.hosts h ∙ hosted h (sym (final_command (erase KEEP_WRAPPERS) s).host ∙ e) in
    subst (λ u. KeepsOrderUpToBlanks s u) (sym (final-bind (erase KEEP_WRAPPERS) (λ _. from_start_inside break_line) s))
    (solid_order t (final (from_start_inside break_line) t) (line_breaks_keep t at_caret.place k.blanked.valid at_caret.caret hosted') ∙ k.blanked.order)
