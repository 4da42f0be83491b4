-- The edit that an adjustment of the code stands for.
use Rattle.live_range.specs.declared.adjust.Adjustment.{Adjustment}
use Rattle.live_range.specs.declared.adjust.Adjustment.TheVariants as code
use Rattle.live_range.specs.PointsEdit.{PointsEdit, Insert, Remove, Move, Replace, Split, Grown}

abbrev pub edit_of : Adjustment → PointsEdit
edit_of (code.Insert parent index) = Insert parent index
edit_of (code.Remove gone parent index) = Remove gone.now parent index
edit_of (code.Move from to) = Move from to
edit_of (code.Replace node at taken put) = Replace node at taken put
edit_of (code.Split node at tail parent index) = Split node at tail parent index
edit_of (code.Grown at) = Grown at
