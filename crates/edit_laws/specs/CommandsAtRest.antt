-- What a command leaves, seen from outside commands: the document before it, and the document once
-- its loose trees are dropped.
use Rattle.std.specs.Prelude.{◌≡◌, ℕ, Bool, true, Option, Some, None, IsSome, IfSome}
use Rattle.std.specs.List.{AllZip}
use Rattle.edit_model.specs.DomModel.Editing.{is_host}
use Rattle.edit_model.specs.DomModel.Forest.{tree_of}
use Rattle.edit_model.specs.LiveRange.declared.places.Pair.{Pair}
use Rattle.edit_model.specs.State.{State}
use Rattle.edit_model.specs.Valid.{IsPlacedPair, IsValid}
use Rattle.edit_model.specs.History.{begun, rested}
use Rattle.edit_model.specs.Laws.{KeepsMark, LeavesStatesOn}
use Rattle.edit_model.specs.Outside.{outside_by, is_island}
use Rattle.edit_model.specs.Run.{Reaches, Run, ◌>>◌, final, select}
use Rattle.edit_laws.specs.BelowHost.{below}
use Rattle.edit_laws.specs.InHost.{IsPairWithin, StaysInHost}
use Rattle.edit_laws.specs.Islands.{IslandKept}
use Rattle.edit_laws.specs.Kinds.{SameKinds, DrawsKinds}
use Rattle.edit_laws.specs.Order.{KeepsLeaves, KeepsOrder}
use Rattle.edit_laws.specs.Steady.{SteadyOn}

-- what lies outside the host stays
abbrev pub OutsideStays : Type 0
OutsideStays =
    (s t : State) (host : Option ℕ) (keeping : Bool) → IsValid s → Reaches (begun host keeping s) t
    → outside_by host (rested t).trees ≡ outside_by host s.trees

-- so do the marks that stand apart from it
abbrev pub MarksStay : Type 0
MarksStay =
    (s t : State) (host : Option ℕ) (keeping : Bool) → IsValid s → Reaches (begun host keeping s) t
    → AllZip (KeepsMark host s.trees) s.points.marks (rested t).points.marks

-- and the islands, where no state of contenteditable is given or taken
abbrev pub IslandsStay : Type 0
IslandsStay =
    (s t : State) (h : ℕ) (keeping : Bool) → IsValid s → tree_of s.trees 0 ≡ s.trees
    → is_host s.trees h ≡ true
    → (r : Reaches (begun (Some h) keeping s) t) → LeavesStatesOn r
    → (l : ℕ) → is_island s.trees h l ≡ true
    → IslandKept (begun (Some h) keeping s) t s.trees (rested t).trees h l

-- where the order of the document is kept, that of what is below the host is
abbrev pub OrderStays : Type 0
OrderStays =
    (s t : State) (h : ℕ) (keeping : Bool) → IsValid s → tree_of s.trees 0 ≡ s.trees
    → is_host s.trees h ≡ true
    → Reaches (begun (Some h) keeping s) t → KeepsOrder s t
    → KeepsLeaves (below s.trees h) (below (rested t).trees h)

-- a node that stays keeps its kind, and every other one has a label that the command drew
abbrev pub KindsStay : Type 0
KindsStay =
    (s t : State) (host : Option ℕ) (keeping : Bool) → IsValid s → Reaches (begun host keeping s) t
    → SameKinds s.trees (rested t).trees × DrawsKinds s.next (rested t).next s.trees (rested t).trees

-- a selection stays one, where no action gives it up
abbrev pub SelectionStays : Type 0
SelectionStays =
    (s t : State) (host : Option ℕ) (keeping : Bool) (r : Reaches (begun host keeping s) t)
    → SteadyOn r → IsSome s.points.selection → IsSome (rested t).points.selection

-- and its points stay at or below the host, where the run leaves them there
abbrev pub SelectionStaysInHost : Type 0 → Type 0
SelectionStaysInHost A =
    (s : State) (h : ℕ) (keeping scratched : Bool) (m : Run A) → IsValid s
    → tree_of s.trees 0 ≡ s.trees → s.points.scratch ≡ None
    → is_host s.trees h ≡ true → IfSome s.points.selection (IsPairWithin s.trees h)
    → StaysInHost scratched m
    → IfSome (rested (final m (begun (Some h) keeping s))).points.selection
    (IsPairWithin (rested (final m (begun (Some h) keeping s))).trees h)

-- so it is where the run selects a range first that stands in the document, at or below the host
abbrev pub RangeStaysInHost : Type 0 → Type 0
RangeStaysInHost A =
    (s : State) (h : ℕ) (keeping scratched : Bool) (range : Pair) (m : Run A) → IsValid s
    → tree_of s.trees 0 ≡ s.trees → s.points.scratch ≡ None
    → is_host s.trees h ≡ true → IsPlacedPair s.trees range → IsPairWithin s.trees h range
    → StaysInHost scratched m
    → IfSome
    (rested (final (select range.anchor range.focus >> m) (begun (Some h) keeping s))).points.selection
    (IsPairWithin
    (rested (final (select range.anchor range.focus >> m) (begun (Some h) keeping s))).trees h)
