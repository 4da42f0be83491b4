use Rattle.edit_model.proofs.Commands.{command_confined}
use Rattle.edit_model.proofs.laws.commands_are_confined.Goals as goal

pub returns : goal.returns
returns c = λ s t host keeping is r. command_confined host keeping s t is r
