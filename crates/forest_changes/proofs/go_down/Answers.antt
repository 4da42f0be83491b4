use Rattle.forest_changes.proofs.DownChange.{down}
use Rattle.forest_changes.proofs.ChangeLists.{back_down, forth_down}
use Rattle.forest_changes.proofs.go_down.Goals as goal

pub returns : goal.returns
returns c = record { change = down; back = back_down; forth = forth_down }
