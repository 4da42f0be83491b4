use Rattle.command_laws.proofs.LinkingRuns.{order_preserving_create_link}
use Rattle.command_laws.proofs.inline.create_link_keeps_order.Goals as goal

pub returns : goal.returns
returns c = λ v. order_preserving_create_link v
