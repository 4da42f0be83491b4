use Rattle.std.specs.Prelude.{false}
use Rattle.list_toggle.specs.Toggle.{toggle_lists}
use Rattle.edit_laws.proofs.HostRuns.{in_host}
use Rattle.selection_laws.proofs.StayingLists.{stays_toggle_lists}
use Rattle.selection_laws.proofs.blocks.toggle_lists_stays.Goals as goal

pub returns : goal.returns
returns c = λ kind. in_host false (toggle_lists kind) (λ outer h. stays_toggle_lists outer h kind)
