-- Runs that go on from the selection, or from the start of the active range: it is near.
use Rattle.std.proofs.Common.{ℕ, Bool}
use Rattle.edit_model.specs.DomModel.declared.Content.{Content}
use Rattle.edit_model.specs.DomModel.Forest.{Forest}
use Rattle.edit_model.specs.LiveRange.declared.places.Point.{Point}
use Rattle.edit_model.specs.LiveRange.declared.places.Pair.{Pair}
use Rattle.edit_model.specs.State.{State}
use Rattle.edit_model.specs.Run.{Run, look, given}
use Rattle.edit_laws.specs.InHost.{IsNear, IsNearPair, IsInHost}
use Rattle.edit_laws.proofs.HostRuns.{Stays, stays_look, stays_known}
use Rattle.text_insertion.specs.Start.{active_start, start_inside}
use Rattle.selection_laws.proofs.Points.{NearAt, known_start, known_inside}

module _ (outer : Forest Content) (h : ℕ) (kept : Bool) where
  pub stays_at_selection : {B : Type 0} (n : Run B) (k : State → Pair → Run B) → Stays outer h kept n → ((s : State) → IsInHost outer h kept s → (pair : Pair) → IsNearPair outer h pair → Stays outer h kept (k s pair)) → Stays outer h kept (look (λ s. given s.points.selection n (k s)))
  stays_at_selection n k none some =
      stays_look outer h kept (λ s. given s.points.selection n (k s)) (λ s is. stays_known outer h kept (IsNearPair outer h) s.points.selection n (k s) is.selection none (some s is))

  pub stays_at_start : {B : Type 0} (n : Run B) (k : State → Point → Run B) → Stays outer h kept n → ((s : State) → IsInHost outer h kept s → (p : Point) → IsNear outer h p.label → Stays outer h kept (k s p)) → Stays outer h kept (look (λ s. given (active_start s) n (k s)))
  stays_at_start n k none some =
      stays_look outer h kept (λ s. given (active_start s) n (k s)) (λ s is. stays_known outer h kept (NearAt outer h kept) (active_start s) n (k s) (known_start outer h kept s is) none (some s is))

  pub stays_inside : {B : Type 0} (n : Run B) (k : State → Point → Run B) → Stays outer h kept n → ((s : State) → IsInHost outer h kept s → (p : Point) → IsNear outer h p.label → Stays outer h kept (k s p)) → Stays outer h kept (look (λ s. given (start_inside s) n (k s)))
  stays_inside n k none some =
      stays_look outer h kept (λ s. given (start_inside s) n (k s)) (λ s is. stays_known outer h kept (NearAt outer h kept) (start_inside s) n (k s) (known_inside outer h kept s is) none (some s is))
