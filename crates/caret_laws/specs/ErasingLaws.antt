-- The law that erasing what is selected loses nothing where nothing is: at a caret it takes out and puts in blanks alone.
use Rattle.edit_model.specs.LiveRange.declared.places.Point.{Point}
use Rattle.edit_model.specs.State.{State}
use Rattle.edit_model.specs.Run.{final}
use Rattle.edit_model.specs.Valid.{IsValid}
use Rattle.delete_core.specs.declared.deletion.Manner.{Manner}
use Rattle.text_insertion.specs.Start.{erase}
use Rattle.caret_laws.specs.SolidOrder.{KeepsOrderUpToBlanks, StandsAt, HasRoom}

-- each image, each rule and each character other than tab, LF, CR, space and U+00A0 stays, in order, no
-- other comes, and a caret is left
abbrev pub ErasingKeeps : Type 0
ErasingKeeps =
    (m : Manner) (s : State) (p : Point) → IsValid s → HasRoom s → StandsAt s p
    → KeepsOrderUpToBlanks s (final (erase m) s)
    × ((q : Point) × StandsAt (final (erase m) s) q)
