-- What a run comes to whose source and sink never fail.
use Rattle.std.proofs.Common.{◌≡◌, ◌≢◌, ◌⊎◌, inl, inr, ℕ, List, [], ◌++◌, refl, ap, ◌∙◌, arith}
use Rattle.std.specs.Prelude.{Some}
use Rattle.std.specs.Io.KnownBytes.{Appends}
use Rattle.edit_io.specs.Faults.{Rose}
use Rattle.edit_session.specs.Following.{RunFollows, ReadFailed, WriteFailed}
use Rattle.edit_session.specs.Transcript.{Transcript, transcript_of}
use Rattle.edit_session.specs.declared.session.Status.{Status}
use Rattle.edit_session.specs.declared.session.Status.TheVariants.{Memory}
use Rattle.hedit_c.specs.Session.{Reply, Replies, Ran, reply, reply_to, nothing_written, memory_number}

not_rose : Rose 0 0 → ⊥
not_rose (inl h) = absurd (omega arith)
not_rose (inr h) = absurd (omega arith)

-- the text is all that was taken
taken_whole : (before after text : List ℕ) → before ≡ []
    → Appends (Some before) (Some after) text → after ≡ text
taken_whole before after text empty is = is ∙ ap (λ xs. xs ++ text) empty

ran_by : (want : Transcript) (before after : List ℕ) (status : Status) → before ≡ []
    → (status ≡ want.status → Appends (Some before) (Some after) want.text)
    → (status ≡ want.status) ⊎ (ReadFailed status 0 0 ⊎ (WriteFailed status 0 0 ⊎ (status ≡ Memory)))
    → Ran want status after
ran_by want before after status empty whole (inl is) =
    inr (is, taken_whole before after want.text empty (whole is))
ran_by want before after status empty whole (inr (inl failed)) = absurd (not_rose failed.1)
ran_by want before after status empty whole (inr (inr (inl failed))) = absurd (not_rose failed.1)
ran_by want before after status empty whole (inr (inr (inr full))) = inl full

pub ran : (want : Transcript) (before after : List ℕ) (status : Status) → before ≡ []
    → RunFollows want (Some before) (Some after) 0 0 0 0 status → Ran want status after
ran want before after status empty run = ran_by want before after status empty run.whole run.cause

same_transcript : (want : Transcript) (status : Status) (text : List ℕ) → status ≡ want.status
    → text ≡ want.text → transcript_of status text ≡ want
same_transcript want status text is same = rw (is, same) refl

-- the reply to what a run wrote is the one to the transcript
pub replies : (want : Transcript) (status : Status) (text buffer : List ℕ) (r : Reply)
    → Ran want status text → (status ≡ Memory → r.status ≡ memory_number)
    → (r.status ≡ memory_number → r ≡ nothing_written buffer)
    → (r.status ≢ memory_number → r ≡ reply_to (transcript_of status text) buffer)
    → Replies want buffer r
replies want status text buffer r (inl full) gave memory told =
    record { memory = memory; told = λ other. absurd (other (gave full)) }
replies want status text buffer r (inr (is, same)) gave memory told = record {
  memory = memory;
  told = λ other. told other ∙ ap (λ w. reply_to w buffer) (same_transcript want status text is same);
}

-- the reply where memory ran out
pub gave_up : (want : Transcript) (buffer : List ℕ) (number count : ℕ) → number ≡ memory_number
    → count ≡ 0 → Replies want buffer (reply number buffer count)
gave_up want buffer number count full none =
    record { memory = λ _. rw (full, none) refl; told = λ other. absurd (other full) }
