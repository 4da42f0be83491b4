use Rattle.std.proofs.Common.{rules}
use Rattle.step_text.specs.Applying.{can_stand}
use Rattle.step_text.proofs.apply.can_stand.Goals as goal

pub returns-then-not-is_within : goal.returns-then-not-is_within
unfolding can_stand
returns-then-not-is_within c = search rules

pub returns-else-not-is_within : goal.returns-else-not-is_within
unfolding can_stand
returns-else-not-is_within c = search rules
