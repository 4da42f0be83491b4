use Rattle.forest_changes.proofs.DownChange.{up}
use Rattle.forest_changes.proofs.ChangeLists.{back_fits_up, forth_fits_up}
use Rattle.forest_changes.proofs.go_up.Goals as goal

pub returns : goal.returns
returns c = record { change = up; back = back_fits_up; forth = forth_fits_up }
