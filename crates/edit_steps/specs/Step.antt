-- What a step of the log does to an arena.
use Rattle.std.specs.Prelude.{◌≡◌, ℕ, List, [], ◌∷◌, ◌++◌, unwrap_or, map}
use Rattle.std.specs.Option.{option_map}
use Rattle.forest_changes.specs.DomModel.Contents.{chars_of, attributes_of}
use Rattle.forest_changes.specs.DomModel.Forest.{parent_of, next_of}
use Rattle.forest_changes.specs.DomModel.ArenaState.{ArenaState, IsSlotted, slot_of}
use Rattle.node_arena.specs.declared.NodeRef.{NodeRef}
use Rattle.node_arena.specs.Held.{Holds, label}
use Rattle.forest_changes.specs.UndoLog.Turning.{back, forth, inverses_back, inverses_forth, FitsBack, FitsForth}
use Rattle.forest_changes.specs.Change.{Change, Remove, Insert, Move, SetText, Splice, SetAttributes, Fits, applied, inverse}
use Rattle.forest_changes.specs.Named.{listed, Each}
use Rattle.edit_steps.specs.declared.step.Step.{Step}
use Rattle.edit_steps.specs.declared.step.Step.TheVariants as step

-- the change of labels that a step is
abbrev pub change_of : Step → Change
change_of (step.Remove n) = Remove n.label
change_of (step.Insert n p b) = Insert n.label p.label (label b)
change_of (step.Move n p b) = Move n.label p.label (label b)
change_of (step.SetText n words) = SetText n.label words
change_of (step.Splice s) = Splice s.node.label s.at s.rest s.taken s.put
change_of (step.SetAttributes n list) = SetAttributes n.label list

abbrev pub changes_of : List Step → List Change
changes_of xs = map change_of xs

-- the reference to a label
abbrev pub ref_at : ArenaState → ℕ → NodeRef
ref_at a l = record { slot = slot_of a.held l; label = l }

-- the arena after a step
unfoldable pub step_applied : Step → ArenaState → ArenaState
step_applied x a = record a { trees = applied (change_of x) a.trees }

-- the step that takes it back
unfoldable pub step_inverse : Step → ArenaState → Step
step_inverse (step.Remove n) a = step.Insert n (ref_at a (unwrap_or (parent_of a.trees n.label) 0))
    (option_map (ref_at a) (next_of a.trees n.label))
step_inverse (step.Insert n p b) a = step.Remove n
step_inverse (step.Move n p b) a = step.Move n (ref_at a (unwrap_or (parent_of a.trees n.label) 0))
    (option_map (ref_at a) (next_of a.trees n.label))
step_inverse (step.SetText n words) a = step.SetText n (unwrap_or (chars_of a.trees n.label) words)
step_inverse (step.Splice s) a = step.Splice (record s { taken = s.put; put = s.taken })
step_inverse (step.SetAttributes n list) a =
    step.SetAttributes n (unwrap_or (attributes_of a.trees n.label) list)

-- the nodes that a step names
abbrev pub nodes_of : Step → List NodeRef
nodes_of (step.Remove n) = n ∷ []
nodes_of (step.Insert n p b) = n ∷ p ∷ listed b
nodes_of (step.Move n p b) = n ∷ p ∷ listed b
nodes_of (step.SetText n words) = n ∷ []
nodes_of (step.Splice s) = s.node ∷ []
nodes_of (step.SetAttributes n list) = n ∷ []

abbrev pub nodes_in : List Step → List NodeRef
nodes_in [] = []
nodes_in (x ∷ xs) = nodes_of x ++ nodes_in xs

-- a step can be applied to an arena
pub record StepFits (x : Step) (a : ArenaState) : Type 0 where
  pub fits : Fits (change_of x) a.trees
  pub slotted : IsSlotted a
  pub held : Each (Holds a) (nodes_of x)

-- steps applied from the last of a list to the first are changes of the forest and keep the slots,
-- and so do the steps that take them back
pub record GoBack (xs : List Step) (a : ArenaState) : Type 0 where
  pub fits : FitsBack applied Fits (changes_of xs) a.trees
  pub state : back step_applied xs a ≡ record a { trees = back applied (changes_of xs) a.trees }
  pub turns : changes_of (inverses_back step_applied step_inverse xs a)
      ≡ inverses_back applied inverse (changes_of xs) a.trees
  pub held : Each (Holds a) (nodes_in (inverses_back step_applied step_inverse xs a))

-- and from the first to the last
pub record GoForth (xs : List Step) (a : ArenaState) : Type 0 where
  pub fits : FitsForth applied Fits (changes_of xs) a.trees
  pub state : forth step_applied xs a ≡ record a { trees = forth applied (changes_of xs) a.trees }
  pub turns : changes_of (inverses_forth step_applied step_inverse xs a)
      ≡ inverses_forth applied inverse (changes_of xs) a.trees
  pub held : Each (Holds a) (nodes_in (inverses_forth step_applied step_inverse xs a))
