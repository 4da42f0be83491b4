-- The laws of editing: what holds along every way that actions lead, so of every run (Run.antt).
use Rattle.std.specs.Prelude.{◌≡◌, ◌≢◌, ◌⊎◌, ℕ, ◌≤◌, Bool, ◌||◌, true, false, bytes_eq, codes, List, ◌++◌, length, Option, Some}
use Rattle.std.specs.List.{AllZip}
use Rattle.point_order.specs.DomModel.declared.Content.{Content}
use Rattle.point_order.specs.DomModel.declared.Content.TheVariants.{Element}
use Rattle.point_order.specs.DomModel.Editing.{is_host, is_true_state, is_false_state}
use Rattle.point_order.specs.DomModel.Contents.{name_of, is_break}
use Rattle.point_order.specs.DomModel.Forest.{Forest, tree_of, IsWithin}
use Rattle.point_order.specs.LiveRange.declared.places.Pair.{Pair}
use Rattle.point_order.specs.LiveRange.declared.places.Point.{Point}
use Rattle.edit_model.specs.State.{State, IsPastCap}
use Rattle.edit_model.specs.Kept.{has_no_kept_leaves, is_thing}
use Rattle.edit_model.specs.Confined.{is_own}
use Rattle.edit_model.specs.Edit.{Remove, Set, Unset, is_made_edit}
use Rattle.edit_model.specs.Tail.{tail_steps, document_size}
use Rattle.edit_model.specs.Action.{Action, Change, MakeElement, Extract, tail_of, may_extract, acted}
use Rattle.edit_model.specs.Possible.{are_possible}
use Rattle.edit_model.specs.Run.{Reaches, here, onward, reaches_trans, edits_on, changes_on, nodes_on}
use Rattle.edit_model.specs.History.{begun}
use Rattle.edit_model.specs.Valid.{IsValid}
use Rattle.edit_model.specs.Outside.{outside_by, outside, IsConfined, IsApart, is_island}

-- ---- labels and the cap

-- a label that was drawn is never drawn again
abbrev pub LabelsRise : Type 0
LabelsRise = (s t : State) → Reaches s t → s.next ≤ t.next

-- what is past the cap stays past it
abbrev pub CapStaysPassed : Type 0
CapStaysPassed = (s t : State) → Reaches s t → IsPastCap s → IsPastCap t

-- ---- the list of edits

-- a command has the changes of the edits that were made on the way, in order, one for each
abbrev pub EditsAreListed : Type 0
EditsAreListed = (s t : State) (r : Reaches s t) → (t.edits ≡ s.edits ++ changes_on r)
    × (length (changes_on r) ≡ length (edits_on r))

-- and it has the nodes that were made on the way
abbrev pub NodesAreListed : Type 0
NodesAreListed = (s t : State) (r : Reaches s t) → t.made ≡ s.made ++ nodes_on r

-- one way after another makes the edits of both
abbrev pub EditsFollow : Type 0
EditsFollow =
    (s t u : State) (p : Reaches s t) (q : Reaches t u) → edits_on (reaches_trans p q) ≡ edits_on p
    ++ edits_on q

-- ---- valid states

abbrev pub ValidStays : Type 0
ValidStays = (s t : State) → Reaches s t → IsValid s → IsValid t

-- ---- confinement

-- what lies outside the affected host stays, its own attributes too, and nothing that the command
-- made lies there
abbrev pub OutsideStays : Type 0
OutsideStays =
    (s t : State) → Reaches s t → IsValid s → IsConfined s → (outside t ≡ outside s) × IsConfined t

-- so it is with a command that begins in a valid state, whatever its host
abbrev pub CommandsAreConfined : Type 0
CommandsAreConfined =
    (s t : State) (host : Option ℕ) (keeping : Bool) → IsValid s → Reaches (begun host keeping s) t
    → outside_by host t.trees ≡ outside_by host s.trees

-- the name of a mark stays, and so do its points where both stand apart from the host
abbrev pub KeepsMark : Option ℕ → Forest Content → List ℕ × Pair → List ℕ × Pair → Type 0
KeepsMark host f m n =
    (n.0 ≡ m.0) × (IsApart host f m.1.anchor.label → IsApart host f m.1.focus.label → n.1 ≡ m.1)

-- the marks stay in their order, and one that stands apart stays where it is
abbrev pub MarksStay : Type 0
MarksStay = (s t : State) → Reaches s t → IsValid s → IsConfined s
    → AllZip (KeepsMark s.host s.trees) s.points.marks t.points.marks

-- a removal, at the state where it is made, of a tree that holds l below its root; the root is
-- editable, made by the command or a br
abbrev pub TakesOut : Action → State → ℕ → Type 0
TakesOut (Change (Remove n)) s l =
    (is_made_edit (Remove n) s ≡ true) × (IsWithin s.trees n l
    × ((n ≢ l) × ((is_own s n || is_break s.trees n) ≡ true)))
TakesOut _ s l = ⊥

-- some action on the way is such a removal
abbrev pub TakesOutOn : {s t : State} → Reaches s t → ℕ → Type 0
TakesOutOn here l = ⊥
TakesOutOn (onward {t = t} q a) l = TakesOutOn q l ⊎ TakesOut a t l

-- an island of the host as the command begins keeps its tree; while it is in the document it is
-- below the host; and it leaves the document only with a tree that holds it
abbrev pub IslandsStay : Type 0
IslandsStay =
    (s t : State) (h : ℕ) (keeping : Bool) → IsValid s → is_host s.trees h ≡ true
    → (r : Reaches (begun (Some h) keeping s) t)
    → (l : ℕ) → is_island s.trees h l ≡ true
    → (tree_of t.trees l ≡ tree_of s.trees l) × ((IsWithin t.trees 0 l → IsWithin t.trees h l)
    × (IsWithin s.trees 0 l → IsWithin t.trees 0 l ⊎ TakesOutOn r l))

-- an action that gives no node a state of contenteditable and takes none away
abbrev pub LeavesStates : Action → Type 0
LeavesStates (Change (Set n name value)) = bytes_eq name (codes "contenteditable") ≡ false
LeavesStates (Change (Unset n name)) = bytes_eq name (codes "contenteditable") ≡ false
LeavesStates (MakeElement name attributes) = (is_true_state (Element name attributes)
    || is_false_state (Element name attributes)) ≡ false
LeavesStates _ = Unit {0}

-- each action on the way is such
abbrev pub LeavesStatesOn : {s t : State} → Reaches s t → Type 0
LeavesStatesOn here = Unit {0}
LeavesStatesOn (onward {t = t} q a) = LeavesStatesOn q × LeavesStates a

-- the same as `TakesOut`, of a root that is editable or made by the command
abbrev pub TakesOwn : Action → State → ℕ → Type 0
TakesOwn (Change (Remove n)) s l = (is_made_edit (Remove n) s ≡ true)
    × (IsWithin s.trees n l × ((n ≢ l) × (is_own s n ≡ true)))
TakesOwn _ s l = ⊥

abbrev pub TakesOwnOn : {s t : State} → Reaches s t → ℕ → Type 0
TakesOwnOn here l = ⊥
TakesOwnOn (onward {t = t} q a) l = TakesOwnOn q l ⊎ TakesOwn a t l

-- so an island leaves the document where no state of contenteditable is given or taken on the way
abbrev pub IslandsLeave : Type 0
IslandsLeave =
    (s t : State) (h : ℕ) (keeping : Bool) → IsValid s → is_host s.trees h ≡ true
    → (r : Reaches (begun (Some h) keeping s) t) → LeavesStatesOn r
    → (l : ℕ) → is_island s.trees h l ≡ true → IsWithin s.trees 0 l → IsWithin t.trees 0 l
    ⊎ TakesOwnOn r l

-- ---- the extraction of a tail

-- the trees allow each step of a tail where it is taken
abbrev pub TailsArePossible : Type 0
TailsArePossible =
    (s : State) (from : Point) (end target : ℕ) → IsValid s → may_extract s from end target ≡ true
    → are_possible (tail_of s from end target) s ≡ true

-- its steps end by themselves: they are the same however much deeper they might nest
abbrev pub TailsEnd : Type 0
TailsEnd =
    (s : State) (from : Point) (end target fuel : ℕ) → IsValid s → may_extract s from end target
    ≡ true
    → document_size s.trees ≤ fuel → tail_steps fuel s.trees from end target s.next
    ≡ tail_of s from end target

-- and no node of the document leaves it
abbrev pub TailsStay : Type 0
TailsStay = (s : State) (from : Point) (end target l : ℕ) → IsValid s → IsWithin s.trees 0 l
    → IsWithin (acted (Extract from end target) s).trees 0 l

-- ---- keeping commands

-- an action that removes a tree removes one that bears nothing that is kept
abbrev pub TakesNothing : Action → State → Type 0
TakesNothing (Change (Remove n)) s =
    is_made_edit (Remove n) s ≡ true → has_no_kept_leaves (tree_of s.trees n) ≡ true
TakesNothing _ s = Unit {0}

-- each action on the way does
abbrev pub TakesNothingOn : {s t : State} → Reaches s t → Type 0
TakesNothingOn here = Unit {0}
TakesNothingOn (onward {t = t} q a) = TakesNothingOn q × TakesNothing a t

abbrev pub KeptStays : Type 0
KeptStays = (s t : State) (r : Reaches s t) → s.keeping ≡ true → TakesNothingOn r

-- so it loses no image and no rule of the document
abbrev pub ThingsStay : Type 0
ThingsStay =
    (s t : State) → Reaches s t → IsValid s → s.keeping ≡ true → (l : ℕ) (name : List ℕ)
    → IsWithin s.trees 0 l → name_of s.trees l ≡ Some name → is_thing name ≡ true
    → IsWithin t.trees 0 l × (name_of t.trees l ≡ Some name)
