-- A state without its marks and its cap.
use Rattle.std.specs.Prelude.{[]}
use Rattle.edit_model.specs.LiveRange.LivePoints.{LivePoints}
use Rattle.edit_model.specs.State.{State}

-- the selection and the scratch pair alone, without marks and the names that marks were given
abbrev pub unmarked_points : LivePoints → LivePoints
unmarked_points points = record points { marks = []; names = [] }

-- the state without marks, and with the cap 0
abbrev pub unmarked : State → State
unmarked s = record s { points = unmarked_points s.points; cap = 0 }
