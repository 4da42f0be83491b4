-- Which steps of a tail the structure of the trees allows.
use Rattle.std.specs.Prelude.{Bool, true, ◌&&◌, List, [], ◌∷◌}
use Rattle.edit_model.specs.State.{State}
use Rattle.edit_model.specs.Edit.{is_made_edit}
use Rattle.edit_model.specs.Tail.{Step, Copy, Do}
use Rattle.edit_model.specs.Action.{stepped}

-- every node counts as made by the command, so the test of an edit asks for the structure of the
-- trees alone
abbrev pub freed : State → State
freed s = record s { start = 0 }

abbrev pub is_possible : Step → State → Bool
is_possible (Copy content) s = true
is_possible (Do e) s = is_made_edit e (freed s)

-- each step is possible where it is taken
unfoldable pub are_possible : List Step → State → Bool
are_possible [] s = true
are_possible (x ∷ xs) s = is_possible x s && are_possible xs (stepped x s)
