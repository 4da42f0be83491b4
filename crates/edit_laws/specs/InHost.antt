-- Runs that leave both points of the selection at or below the affected host.
use Rattle.std.specs.Prelude.{◌≡◌, ℕ, ◌<◌, Bool, true, List, IfSome, Some}
use Rattle.edit_model.specs.DomModel.declared.Content.{Content}
use Rattle.edit_model.specs.DomModel.Forest.{Forest, count_of, IsWithin}
use Rattle.edit_model.specs.LiveRange.declared.places.Pair.{Pair}
use Rattle.edit_model.specs.Outside.{outside, IsConfined}
use Rattle.edit_model.specs.State.{State}
use Rattle.edit_model.specs.Valid.{IsValid}
use Rattle.edit_model.specs.Action.{Action, Select, Extend, Send, Scratch}
use Rattle.edit_model.specs.Run.{Run, final}
use Rattle.edit_laws.specs.Kinds.{Element, kind_of}

-- Of the nodes that lie outside, the label is at most that of the host. What lies outside is the
-- same as long as a command runs, and so is what holds of a label.
abbrev pub IsNear : Forest Content → ℕ → ℕ → Type 0
IsNear outer h l = 0 < count_of outer l → l ≡ h

-- so are both labels of a pair
abbrev pub IsNearPair : Forest Content → ℕ → Pair → Type 0
IsNearPair outer h p = IsNear outer h p.anchor.label × IsNear outer h p.focus.label

-- A valid state of a command that runs in an element h, which was there as it began: both points of
-- the selection stand at or below h, and so do those of the scratch pair where `scratched` is on.
-- (A point of a valid state stands in the document, and there a node is at or below h where it
-- isn't outside, or is h.)
pub record IsInHost (outer : Forest Content) (h : ℕ) (scratched : Bool) (s : State) : Type 0 where
  pub valid : IsValid s
  pub confined : IsConfined s
  pub host : s.host ≡ Some h
  pub outer_is : outside s ≡ outer
  pub early : h < s.start
  pub name : List ℕ
  pub element : kind_of s.trees h ≡ Some (Element name)
  pub selection : IfSome s.points.selection (IsNearPair outer h)
  pub scratch : scratched ≡ true → IfSome s.points.scratch (IsNearPair outer h)

-- from each such state the run leads to one, with the scratch pair or without it
pub record StaysInHost (scratched : Bool) {T : Type 0} (m : Run T) : Type 0 where
  pub stays : (outer : Forest Content) (h : ℕ) (s : State) → IsInHost outer h scratched s
      → IsInHost outer h scratched (final m s)

-- an action that places no point by itself
abbrev pub IsCalm : Action → Type 0
IsCalm (Select anchor focus) = ⊥
IsCalm (Extend focus) = ⊥
IsCalm (Send node at tail) = ⊥
IsCalm (Scratch pair) = ⊥
IsCalm _ = Unit {0}

-- both points of a pair stand at or below a node
abbrev pub IsPairWithin : Forest Content → ℕ → Pair → Type 0
IsPairWithin f h p = IsWithin f h p.anchor.label × IsWithin f h p.focus.label
