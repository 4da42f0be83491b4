-- What a call leaves: its status, the bytes of its buffer, and a count of bytes.
use Rattle.std.specs.Prelude.{◌≡◌, ◌≢◌, ◌⊎◌, ℕ, ◌++◌, nat_lt, List, [], ◌∷◌, length, drop, map, codes, if◌then◌else◌}
use Rattle.std.specs.Str.Lossy.{utf8_lossy}
use Rattle.edit_session.specs.Block.{lines_of}
use Rattle.edit_session.specs.Transcript.{Transcript}
use Rattle.edit_session.specs.declared.session.Status.{Status}
use Rattle.edit_session.specs.declared.session.Status.TheVariants.{Done, Usage, ReadFault, WriteFault}
use Rattle.edit_session.specs.declared.session.Status.TheVariants.{Memory, PageRefused, TooLong, StepRefused}

pub record Reply : Type 0 where
  pub status : ℕ
  pub buffer : List ℕ
  pub count : ℕ

abbrev pub reply : (status : ℕ) (buffer : List ℕ) (count : ℕ) → Reply
reply status buffer count = record { status = status; buffer = buffer; count = count }

-- the number of a status, which the program exits with
abbrev pub session_number_of : Status → ℕ
session_number_of Done = 0
session_number_of Usage = 2
session_number_of ReadFault = 3
session_number_of WriteFault = 4
session_number_of Memory = 5
session_number_of PageRefused = 6
session_number_of TooLong = 7
session_number_of StepRefused = 8

abbrev pub memory_number : ℕ
memory_number = 5

-- the number where a buffer has no room for the transcript
abbrev pub too_small_number : ℕ
too_small_number = 9

-- nothing is written, and the buffer is as before
abbrev pub nothing_written : List ℕ → Reply
nothing_written buffer = reply memory_number buffer 0

-- the transcript stands at the front of the buffer, and what follows there is as before
abbrev pub written_to : Transcript → List ℕ → Reply
written_to want buffer =
    reply (session_number_of want.status) (want.text ++ drop (length want.text) buffer)
    (length want.text)

-- the buffer is as before, and the length that it needs is told
abbrev pub too_small_for : Transcript → List ℕ → Reply
too_small_for want buffer = reply too_small_number buffer (length want.text)

abbrev pub reply_to : Transcript → List ℕ → Reply
reply_to want buffer =
    if nat_lt (length buffer) (length want.text) then too_small_for want buffer
    else written_to want buffer

-- the reply to a transcript, unless memory ran out
pub record Replies (want : Transcript) (buffer : List ℕ) (r : Reply) : Type 0 where
  pub memory : r.status ≡ memory_number → r ≡ nothing_written buffer
  pub told : r.status ≢ memory_number → r ≡ reply_to want buffer

-- the words of a session without options
abbrev pub run_words : List (List ℕ)
run_words = codes "run" ∷ []

-- the words of a text, a line each; where a line isn't UTF-8, each fault becomes U+FFFD
abbrev pub words_in : List ℕ → List (List ℕ)
words_in text = map utf8_lossy (lines_of text)

-- a run wrote the whole transcript, and ended with its status, unless memory ran out
abbrev pub Ran : Transcript → Status → List ℕ → Type 0
Ran want status text = (status ≡ Memory) ⊎ ((status ≡ want.status) × (text ≡ want.text))
