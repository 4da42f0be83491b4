use Rattle.edit_steps.specs.StepLaws.{change_of-inverse}
use Rattle.edit_steps.proofs.StepLists.{named_labels}
use Rattle.edit_steps.proofs.laws.steps_are_changes.Goals as goal

pub returns : goal.returns
returns c = record { inverse = change_of-inverse; named = named_labels }
