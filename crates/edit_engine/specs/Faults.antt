-- The faults of the document, as the editor tells them.
use Rattle.edit_model.specs.LiveRange.declared.points.MarkFault.{MarkFault}
use Rattle.edit_model.specs.LiveRange.declared.points.MarkFault.TheVariants as mark
use Rattle.edit_model.specs.declared.settings.EditFault.{EditFault}
use Rattle.edit_model.specs.declared.settings.EditFault.TheVariants as edit
use Rattle.edit_engine.specs.declared.answers.ExecFault.{ExecFault}
use Rattle.edit_engine.specs.declared.answers.ExecFault.TheVariants as exec
use Rattle.edit_engine.specs.declared.answers.PlaceFault.{PlaceFault}
use Rattle.edit_engine.specs.declared.answers.PlaceFault.TheVariants.{TooManyMarks, Memory}
use Rattle.edit_engine.specs.declared.answers.RangeFault.{RangeFault}
use Rattle.edit_engine.specs.declared.answers.RangeFault.TheVariants as replace

abbrev pub place_fault : MarkFault → PlaceFault
place_fault mark.TooManyMarks = TooManyMarks
place_fault mark.Memory = Memory

abbrev pub exec_fault : EditFault → ExecFault
exec_fault edit.Full = exec.Full
exec_fault edit.Memory = exec.Memory

abbrev pub range_fault : ExecFault → RangeFault
range_fault exec.Full = replace.Full
range_fault exec.Deep = replace.Deep
range_fault exec.Memory = replace.Memory
