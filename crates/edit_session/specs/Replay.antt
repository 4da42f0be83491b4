-- The replay of step lines on a document: each line in order, up to the first that doesn't fit.
use Rattle.std.specs.Prelude.{◌≡◌, ℕ, ◌+◌, List, [], ◌∷◌, Option, Some, None, Result, Ok, Err}
use Rattle.step_text.specs.Applying.{Labelled, fault_of, line_applied}
use Rattle.step_text.specs.StepReading.{step_in}
use Rattle.step_text.specs.declared.line.StepFault.{StepFault}
use Rattle.step_text.specs.declared.line.StepFault.TheVariants.{Syntax, BadLabel, BadPlace, TooDeep, Memory}
use Rattle.step_text.specs.declared.line.StepLine.{StepLine}
use Rattle.step_text.specs.declared.line.StepLine.TheVariants.{Entry, Make, Insert, Remove, Move, Words, Tag}
use Rattle.edit_session.specs.declared.replay.Refusal.{Refusal}
use Rattle.edit_session.specs.declared.replay.Tally.{Tally}

-- ---- counts: the entries that began, and the steps that were taken other than those that make a
-- node

abbrev pub none_yet : Tally
none_yet = record { entries = 0; steps = 0 }

abbrev pub tallied : StepLine → Tally → Tally
tallied Entry t = record t { entries = t.entries + 1 }
tallied (Make label made) t = t
tallied (Insert label parent before) t = record t { steps = t.steps + 1 }
tallied (Remove label) t = record t { steps = t.steps + 1 }
tallied (Move label parent before) t = record t { steps = t.steps + 1 }
tallied (Words label words) t = record t { steps = t.steps + 1 }
tallied (Tag label name attributes) t = record t { steps = t.steps + 1 }

-- ---- lines

-- what the lines so far come to
pub record Replayed : Type 0 where
  pub tally : Tally
  pub document : Labelled

abbrev pub replayed : Tally → Labelled → Replayed
replayed tally document = record { tally = tally; document = document }

abbrev pub step_fitting : StepLine → Replayed → Option StepFault → Result Replayed StepFault
step_fitting step r None = Ok (replayed (tallied step r.tally) (line_applied step r.document))
step_fitting step r (Some fault) = Err fault

-- one step more, or why it doesn't fit; a line that is none of a step is out of syntax
abbrev pub step_replayed : Option StepLine → Replayed → Result Replayed StepFault
step_replayed None r = Err Syntax
step_replayed (Some step) r = step_fitting step r (fault_of step r.document)

unfoldable pub line_replayed : List ℕ → Replayed → Result Replayed StepFault
line_replayed line r = step_replayed (step_in line) r

-- more lines, the first of which has this number; or the first that doesn't fit
abbrev pub onward : ℕ → (Replayed → Result Replayed Refusal) → Result Replayed StepFault
    → Result Replayed Refusal
onward number more (Ok after) = more after
onward number more (Err fault) = Err (record { number = number; fault = fault })

unfoldable pub lines_replayed : ℕ → List (List ℕ) → Replayed → Result Replayed Refusal
lines_replayed number [] r = Ok r
lines_replayed number (line ∷ lines) r =
    onward number (lines_replayed (number + 1) lines) (line_replayed line r)

unfoldable pub replay : List (List ℕ) → Labelled → Result Replayed Refusal
replay lines document = lines_replayed 1 lines (replayed none_yet document)

-- ---- what is answered; memory may run out in place of it

abbrev pub IsFault : {X : Type 0} → X → StepFault → Result Replayed X → Type 0
IsFault refusal Memory want = Unit {0}
IsFault refusal Syntax want = want ≡ Err refusal
IsFault refusal BadLabel want = want ≡ Err refusal
IsFault refusal BadPlace want = want ≡ Err refusal
IsFault refusal TooDeep want = want ≡ Err refusal

abbrev pub ReplaysLine : Result Tally StepFault → Labelled → Result Replayed StepFault → Type 0
ReplaysLine (Ok tally) after want = want ≡ Ok (replayed tally after)
ReplaysLine (Err fault) after want = IsFault fault fault want

abbrev pub Replays : Result Tally Refusal → Labelled → Result Replayed Refusal → Type 0
Replays (Ok tally) after want = want ≡ Ok (replayed tally after)
Replays (Err refusal) after want = IsFault refusal refusal.fault want
