-- The laws of deleting: of the algorithm that other commands take, and of the command, that its run
-- leaves the states of contenteditable. Deleting keeps no contents, so there is no law of order.
use Rattle.edit_laws.specs.Steady.{Steady}
use Rattle.delete_core.specs.declared.deletion.Manner.{Manner}
use Rattle.delete_core.specs.Deletion.{delete_selection}
use Rattle.text_deletion.specs.Delete.{delete}

abbrev pub SelectionGoesSteady : Type 0
SelectionGoesSteady = (m : Manner) → Steady (delete_selection m)

abbrev pub DeleteIsSteady : Type 0
DeleteIsSteady = Steady delete
