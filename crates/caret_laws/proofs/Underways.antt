-- A command stays under way through a steady run.
use Rattle.std.proofs.Common.{ℕ, false}
use Rattle.edit_model.specs.State.{State}
use Rattle.edit_model.specs.Run.{reaches_trans, Run, final}
use Rattle.edit_laws.specs.Steady.{Steady}
use Rattle.edit_laws.proofs.SteadyRuns.{states_on}
use Rattle.caret_laws.proofs.InsideRuns.{Began, Underway, leaves_trans, valid_way}

module _ (s : State) (h : ℕ) (b : Began s h) where
  pub way_steady : {T : Type 0} (m : Run T) (t : State) → Steady m → Underway s h false t → Underway s h false (final m t)
  unfolding final
  way_steady m t steady way = record {
    way = reaches_trans way.way (m.by_actions t);
    leaves = leaves_trans way.way (m.by_actions t) way.leaves (states_on (m.by_actions t) (steady.leaves t (valid_way s h false b t way)));
  }
