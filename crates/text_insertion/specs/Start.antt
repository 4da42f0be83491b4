-- The start of the active range: what is erased before something is inserted there, and nodes that
-- are put there.
use Rattle.std.specs.Prelude.{ℕ, ◌==◌, Bool, ◌&&◌, not, Option, Some, None, if◌then◌else◌}
use Rattle.std.specs.Option.{option_map}
use Rattle.edit_model.specs.DomModel.declared.Content.{Content}
use Rattle.edit_model.specs.DomModel.Contents.{length_of}
use Rattle.edit_model.specs.DomModel.Forest.{Forest}
use Rattle.edit_model.specs.LiveRange.declared.places.Point.{Point}
use Rattle.inline_value.specs.NodeTests.BlockPoints.{child_at}
use Rattle.inline_value.specs.NodeTests.CollapsedWhitespace.{is_words}
use Rattle.edit_model.specs.State.{State}
use Rattle.edit_model.specs.Confined.{is_inside}
use Rattle.edit_model.specs.Run.{Run, ◌>>=◌, ◌>>◌, done, look, given, insert}
use Rattle.inline_value.specs.EditActions.ActiveRange.{start_of}
use Rattle.inline_commands.specs.RestoringStates.{restore_states}
use Rattle.delete_core.specs.declared.deletion.Manner.{Manner}
use Rattle.delete_core.specs.Deletion.{delete_selection}

-- the start of the active range
unfoldable pub active_start : State → Option Point
active_start s = option_map (start_of s.trees) s.points.selection

-- a point whose node is inside, if there is one
abbrev pub if_point_inside : State → Option Point → Option Point
if_point_inside s None = None
if_point_inside s (Some p) = if is_inside s p.label then Some p else None

-- the start of the active range, where its node is inside
unfoldable pub start_inside : State → Option Point
start_inside s = if_point_inside s (active_start s)

-- a node without a parent is put at a point
unfoldable pub insert_at : ℕ → Point → Run (Unit {0})
insert_at x p = look λ s. insert p.label (child_at s.trees p.label p.offset) x >> done

-- a node without a parent is put at the start of the active range
unfoldable pub insert_at_start : ℕ → Run (Unit {0})
insert_at_start x = look λ s. given (active_start s) done (insert_at x)

-- a point within a text, at neither end of it
unfoldable pub cuts_text : Forest Content → Point → Bool
cuts_text f p = is_words f p.label && (not (p.offset == 0) && not (p.offset == length_of f p.label))

-- what is selected goes, and the states and values of it are restored
unfoldable pub erase : Manner → Run (Unit {0})
erase m = delete_selection m >>= restore_states
