-- The lines of a log, as the program reads them.
use Rattle.std.specs.Prelude.{◌≡◌, ℕ, List, [], ◌∷◌, map, Ok}
use Rattle.inline_value.specs.ForestChanges.Named.{Each}
use Rattle.step_text.specs.Applying.{Labelled, replayed_from}
use Rattle.step_text.specs.StepLine.{IsStepLine, line_text}
use Rattle.step_text.specs.declared.line.StepLine.{StepLine}
use Rattle.edit_engine.specs.Logs.{step_lines}
use Rattle.edit_session.specs.Block.{lines_of}
use Rattle.edit_session.specs.Replay.{Replayed, tallied, replayed, lines_replayed}
use Rattle.edit_session.specs.declared.replay.Tally.{Tally}

-- the text of steps that lines stand for has a line for each: none has a line feed in it
abbrev pub StepsAreLines : Type 0
StepsAreLines = (xs : List StepLine) → Each IsStepLine xs → lines_of (step_lines xs)
    ≡ map line_text xs

-- the counts after more steps
unfoldable pub tallied_all : List StepLine → Tally → Tally
tallied_all [] t = t
tallied_all (x ∷ xs) t = tallied_all xs (tallied x t)

-- where steps are replayed, their lines are, with the same outcome
abbrev pub LinesReplay : Type 0
LinesReplay =
    (number : ℕ) (xs : List StepLine) (r : Replayed) (last : Labelled) → Each IsStepLine xs
    → replayed_from number xs r.document ≡ Ok last
    → lines_replayed number (map line_text xs) r ≡ Ok (replayed (tallied_all xs r.tally) last)
