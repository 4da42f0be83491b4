use Rattle.std.proofs.Common.{◌≡◌, ◌+◌, length, take}
use Rattle.step_edits.specs.ForestChanges.Named.{named_in}
use Rattle.step_edits.specs.EditSteps.Step.{changes_of}
use Rattle.edit_doc.specs.Logged.{TellNamed}
use Rattle.edit_doc.proofs.logged.mark_named.Given as goal

-- the nodes that the steps so far name are marked
abbrev pub invariant-loop-step : goal.invariant-loop-step
invariant-loop-step l = (length l.marks.items + l.first ≡ l.end) × TellNamed l.first (named_in (changes_of (take l.step-index l.steps))) l.marks.items
