use Rattle.std.proofs.Common.{refl}
use Rattle.edit_model.specs.PointOrder.PointOrder.{is_before}
use Rattle.inline_value.specs.NodeStyles.Lineage.{lineage}
use Rattle.inline_value.specs.NodeTests.AffectedHost.{takes_commands, common_host, affected_host}
use Rattle.edit_model.specs.Outside.{is_within_host, is_island}
use Rattle.inline_value.specs.EditActions.ActiveRange.{host_of_pair}
use Rattle.edit_engine.proofs.laws.locked_span_is_island.Goals as goal

pub returns : goal.returns
unfolding is_before lineage takes_commands common_host affected_host is_within_host is_island host_of_pair
returns _ = (refl, refl)
