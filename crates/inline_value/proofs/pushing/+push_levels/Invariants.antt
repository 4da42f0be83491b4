use Rattle.inline_value.proofs.pushing.+push_levels.Given as goal

abbrev pub decreases-push_levels : goal.decreases-push_levels
decreases-push_levels l = l.left
