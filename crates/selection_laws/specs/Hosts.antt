-- Where a command begins: the affected host holds both ends of the selection, or of a range.
use Rattle.std.specs.Prelude.{◌≡◌, ℕ, Some, IfSome}
use Rattle.edit_model.specs.DomModel.declared.Content.{Content}
use Rattle.edit_model.specs.DomModel.Forest.{Forest, IsDistinct}
use Rattle.edit_model.specs.LiveRange.declared.places.Pair.{Pair}
use Rattle.edit_model.specs.State.{State}
use Rattle.inline_value.specs.EditActions.ActiveRange.{host_of_pair, affected_host}
use Rattle.edit_laws.specs.InHost.{IsPairWithin}

abbrev pub HostsHold : Type 0
HostsHold = (s : State) → IsDistinct s.trees → (h : ℕ) → affected_host s ≡ Some h
    → IfSome s.points.selection (IsPairWithin s.trees h)

abbrev pub HostsOfPairsHold : Type 0
HostsOfPairsHold = (f : Forest Content) → IsDistinct f → (pair : Pair) (h : ℕ)
    → host_of_pair f pair ≡ Some h → IsPairWithin f h pair
