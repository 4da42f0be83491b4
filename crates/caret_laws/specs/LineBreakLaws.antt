-- The laws that inserting a line break at a caret keeps what the document bears: once what is selected is erased, and as a whole.
use Rattle.std.specs.Prelude.{◌≡◌, ℕ, true, Some}
use Rattle.edit_model.specs.DomModel.Editing.{is_host}
use Rattle.edit_model.specs.LiveRange.declared.places.Point.{Point}
use Rattle.edit_model.specs.State.{State}
use Rattle.edit_model.specs.Run.{final}
use Rattle.edit_model.specs.Valid.{IsValid}
use Rattle.edit_laws.specs.Order.{KeepsOrder}
use Rattle.insert_objects.specs.LineBreak.{break_line, insert_line_break}
use Rattle.insert_objects.specs.Putting.{from_start_inside}
use Rattle.caret_laws.specs.SolidOrder.{KeepsOrderUpToBlanks, StandsAt, HasRoom}

-- From a caret on, after the first step: each image, each rule and each character other than tab, LF, CR
-- and space stays, in order, and no other comes.
abbrev pub LineBreaksKeep : Type 0
LineBreaksKeep =
    (s : State) (p : Point) → IsValid s
    → s.points.selection ≡ Some (record { anchor = p; focus = p })
    → ((h : ℕ) → s.host ≡ Some h → is_host s.trees h ≡ true)
    → KeepsOrder s (final (from_start_inside break_line) s)

-- As a whole: each image, each rule and each character other than tab, LF, CR, space and U+00A0 stays, in
-- order, and no other comes.
abbrev pub InsertLineBreakKeeps : Type 0
InsertLineBreakKeeps =
    (s : State) (p : Point) → IsValid s → HasRoom s → StandsAt s p
    → ((h : ℕ) → s.host ≡ Some h → is_host s.trees h ≡ true)
    → KeepsOrderUpToBlanks s (final insert_line_break s)
