-- How a run follows its transcript.
use Rattle.std.specs.Prelude.{◌≡◌, ◌⊎◌, ℕ, ◌<◌, ◌≤◌, Bool, true, false, List, [], length, Option, Some, None}
use Rattle.std.specs.Io.KnownBytes.{Appends, Consumes, IsAtEnd}
use Rattle.edit_io.specs.Faults.{Rose}
use Rattle.edit_io.specs.Handed.{handed_more}
use Rattle.edit_io.specs.Told.{TakesPrefix}
use Rattle.step_text.specs.PageGrammar.Kind.{Kind}
use Rattle.edit_session.specs.Words.{Order, Run, Check, Replay, Bulk, reads_input, IsOrder}
use Rattle.edit_session.specs.Transcript.{Transcript, refused, word_of, transcript}
use Rattle.edit_session.specs.declared.session.Status.{Status}
use Rattle.edit_session.specs.declared.session.Status.TheVariants.{Done, Usage, ReadFault, WriteFault, Memory, PageRefused, TooLong, StepRefused}

-- The status and what a sink took, where this was to be answered: a prefix of the text, all of it
-- with the status that was to be answered, and any other status for a cause. A sink's count of
-- faults is looked at before and after.
pub record Follows (want : Transcript) (before after : Option (List ℕ)) (count count_after : ℕ)
    (status : Status) : Type 0 where
  pub written : TakesPrefix before after want.text
  pub whole : status ≡ want.status → Appends before after want.text
  pub cause : (status ≡ want.status)
      ⊎ (((status ≡ WriteFault) × Rose count count_after) ⊎ (status ≡ Memory))
  pub counted : count ≤ count_after

-- what a fault of the page is to answer: its line, or anything where memory ran out
abbrev pub IsWanted : ℕ → Option Kind → Transcript → Type 0
IsWanted place None want = Unit {0}
IsWanted place (Some kind) want = want ≡ refused place (word_of kind)

-- an order whose cap is a label, and that keeps some entries for undo
abbrev pub HasCap : Order → Type 0
HasCap Check = Unit {0}
HasCap (Run limits) = (0 < limits.cap) × (0 < limits.undo)
HasCap Replay = Unit {0}
HasCap (Bulk count) = Unit {0}

-- the statuses that the transcript of an input gives
abbrev pub Answered : Status → Type 0
Answered Done = Unit {0}
Answered PageRefused = Unit {0}
Answered StepRefused = Unit {0}
Answered s = ⊥

-- the statuses with which nothing is written
abbrev pub IsSilent : Status → Type 0
IsSilent Usage = Unit {0}
IsSilent ReadFault = Unit {0}
IsSilent TooLong = Unit {0}
IsSilent s = ⊥

-- The text that an order had: all that was left of the input, as many bytes as were handed out, or
-- none where it reads nothing.
abbrev pub WasRead : (reading : Bool) (before after : Option (List ℕ)) (handed handed_after : ℕ)
    → List ℕ → Type 0
WasRead true before after handed handed_after text =
    Consumes before after text × IsAtEnd after
    × (handed_after ≡ handed_more handed (length text))
WasRead false before after handed handed_after text =
    (after ≡ before) × (handed_after ≡ handed) × (text ≡ [])

-- The words ask for an order, its text was read, and the transcript of that has this status and is
-- written whole.
pub record IsAnswered
    (words : List (List ℕ)) (left left_after : Option (List ℕ)) (handed handed_after : ℕ)
    (taken taken_after : Option (List ℕ)) (status : Status) : Type 0 where
  pub order : Order
  pub ordered : IsOrder words order
  pub text : List ℕ
  pub read : WasRead (reads_input order) left left_after handed handed_after text
  pub given : (transcript words text).status ≡ status
  pub written : Appends taken taken_after (transcript words text).text

-- the statuses of a run that was cut off before its transcript was written whole
abbrev pub IsCutOff : Status → Type 0
IsCutOff WriteFault = Unit {0}
IsCutOff Memory = Unit {0}
IsCutOff s = ⊥

-- The words ask for an order, its text was read, and what was written is a prefix of the transcript
-- of that.
pub record IsBegun
    (words : List (List ℕ)) (left left_after : Option (List ℕ)) (handed handed_after : ℕ)
    (taken taken_after : Option (List ℕ)) : Type 0 where
  pub order : Order
  pub ordered : IsOrder words order
  pub text : List ℕ
  pub read : WasRead (reads_input order) left left_after handed handed_after text
  pub written : TakesPrefix taken taken_after (transcript words text).text

-- ---- a whole run

-- the cause is a read that failed
abbrev pub ReadFailed : Status → (reads reads_after : ℕ) → Type 0
ReadFailed status reads reads_after = (status ≡ ReadFault) × Rose reads reads_after

-- the cause is a write that failed
abbrev pub WriteFailed : Status → (writes writes_after : ℕ) → Type 0
WriteFailed status writes writes_after = (status ≡ WriteFault) × Rose writes writes_after

-- A whole run over an input that the source shows. What was written is a prefix of the transcript,
-- all of it with the transcript's status. Any other status has its cause: a read that failed, a
-- write that failed, or no memory. Nothing comes in the place of Usage; and no failed write in the
-- place of TooLong, with which nothing is written.
pub record RunFollows
    (want : Transcript) (before after : Option (List ℕ)) (reads reads_after writes writes_after : ℕ)
    (status : Status) : Type 0 where
  pub written : TakesPrefix before after want.text
  pub whole : status ≡ want.status → Appends before after want.text
  pub cause : (status ≡ want.status)
      ⊎ (ReadFailed status reads reads_after
      ⊎ (WriteFailed status writes writes_after ⊎ (status ≡ Memory)))
  pub usage : want.status ≡ Usage → status ≡ Usage
  pub too_long : want.status ≡ TooLong
      → (status ≡ TooLong) ⊎ (ReadFailed status reads reads_after ⊎ (status ≡ Memory))
