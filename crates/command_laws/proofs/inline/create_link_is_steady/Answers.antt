use Rattle.command_laws.proofs.LinkingRuns.{steady_create_link}
use Rattle.command_laws.proofs.inline.create_link_is_steady.Goals as goal

pub returns : goal.returns
returns c = λ v. steady_create_link v
