-- The numbers of the statuses.
use Rattle.std.specs.Prelude.{ℕ, Bool, if◌then◌else◌}
use Rattle.hedit_c.specs.declared.editor.status.Status.{Status}
use Rattle.hedit_c.specs.declared.editor.status.Status.TheVariants.{Done, No, Memory, PageRefused, TooSmall, Full, Deep, BadPlace, TooManyMarks, BadArgument, Closed}

abbrev pub number_of : Status → ℕ
number_of Done = 0
number_of No = 1
number_of Memory = 5
number_of PageRefused = 6
number_of TooSmall = 9
number_of Full = 10
number_of Deep = 11
number_of BadPlace = 12
number_of TooManyMarks = 13
number_of BadArgument = 14
number_of Closed = 15

abbrev pub answer_status : Bool → Status
answer_status answer = if answer then Done else No
