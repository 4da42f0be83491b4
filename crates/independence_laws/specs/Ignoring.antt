-- Runs that don't look at marks or the cap: the certificate of an algorithm that does the same
-- whatever these are.
use Rattle.std.specs.Prelude.{◌≡◌}
use Rattle.edit_model.specs.State.{State}
use Rattle.edit_model.specs.Run.{Run, final, value}
use Rattle.independence_laws.specs.Unmarked.{unmarked}

-- From a state without marks and cap the run ends in what its end from the whole state is without
-- them, and answers the same.
pub record IgnoresMarks {T : Type 0} (m : Run T) : Type 0 where
  pub ends : (s : State) → final m (unmarked s) ≡ unmarked (final m s)
  pub answers : (s : State) → value m (unmarked s) ≡ value m s
