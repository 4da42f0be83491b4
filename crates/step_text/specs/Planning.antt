-- How a step line is turned into a step of the arena before it is applied. Only `labelled` and the
-- rest of `Applying` stand in public clauses.
use Rattle.std.specs.Prelude.{◌≡◌, ℕ, Bool, Option, Some, None, is_some, IfSome, IfNone, Result, Ok, Err, OnOk, OnErr, IsErrOf, IsOkUnless, ◌≤◌}
use Rattle.page_grammar.specs.DomModel.declared.Content.{Content}
use Rattle.page_grammar.specs.DomModel.Forest.{Forest, parent_of}
use Rattle.page_grammar.specs.DomModel.Places.{levels}
use Rattle.page_grammar.specs.DomModel.ArenaState.{ArenaState}
use Rattle.edit_steps.specs.declared.step.Step.{Step}
use Rattle.edit_steps.specs.declared.step.Step.TheVariants as step
use Rattle.edit_steps.specs.Step.{StepFits, change_of}
use Rattle.edit_steps.specs.ForestChanges.Change.{applied}
use Rattle.edit_steps.specs.NodeArena.Held.{Holds, KeepsHeld, label}
use Rattle.step_text.specs.Applying.{labelled, fault_of, is_loose, line_applied, trees_after, next_after}
use Rattle.step_text.specs.declared.apply.Origin.{Origin}
use Rattle.step_text.specs.declared.apply.Origin.TheVariants.{Loose, Child}
use Rattle.step_text.specs.declared.line.StepFault.{StepFault}
use Rattle.step_text.specs.declared.line.StepFault.TheVariants.{Memory}
use Rattle.step_text.specs.declared.line.StepLine.{StepLine}
use Rattle.step_text.specs.declared.line.StepLine.TheVariants.{Insert, Move}
use Rattle.step_text.specs.declared.apply.Placing.{Placing}
use Rattle.step_text.specs.declared.room.Room.{Room}

-- the line fits, and the step fits the arena and does what the line does
pub record IsStepOf (x : StepLine) (a : ArenaState) (step : Step) : Type 0 where
  pub fine : fault_of x (labelled a) ≡ None
  pub fits : StepFits step a
  pub trees : trees_after x a.trees ≡ applied (change_of step) a.trees
  pub next : next_after x a.next ≡ a.next

-- the step of the line, or why it doesn't fit
abbrev pub Plans : StepLine → ArenaState → Result Step StepFault → Type 0
Plans x a (Ok step) = IsStepOf x a step
Plans x a (Err fault) = fault_of x (labelled a) ≡ Some fault

-- the line is applied, or refused, and then all stays
pub record Applies {A : Type 0} (x : StepLine) (old new : ArenaState)
    (result : Result A StepFault) : Type 0 where
  pub refused : IfSome (fault_of x (labelled old)) (λ fault. IsErrOf result fault)
  pub taken : IfNone (fault_of x (labelled old)) (IsOkUnless result Memory)
  pub applied : OnOk result (labelled new ≡ line_applied x (labelled old))
  pub held : OnOk result (KeepsHeld old new)
  pub err : OnErr result (new ≡ old)

-- ---- levels

-- the nodes have no more levels than that
abbrev pub IsBound : Room → Forest Content → Type 0
IsBound room f = levels f ≤ room.levels

-- nor have they after the step; where the line doesn't fit, as they are
abbrev pub StaysWithin : ℕ → Result Step StepFault → Forest Content → Type 0
StaysWithin most (Ok step) f = levels (applied (change_of step) f) ≤ most
StaysWithin most (Err fault) f = levels f ≤ most

-- ---- lines that put a tree somewhere

-- the tree is loose, or it is that of a child
abbrev pub comes_from : Origin → Forest Content → ℕ → Bool
comes_from Loose f l = is_loose f l
comes_from Child f l = is_some (parent_of f l)

-- the line
abbrev pub line_to : Origin → ℕ → ℕ → Option ℕ → StepLine
line_to Loose l p b = Insert l p b
line_to Child l p b = Move l p b

-- the step of the arena
abbrev pub step_to : Origin → Placing → Step
step_to Loose at = step.Insert at.node at.parent at.before
step_to Child at = step.Move at.node at.parent at.before

-- the nodes of these labels
pub record Places (a : ArenaState) (l p : ℕ) (b : Option ℕ) (found : Placing) : Type 0 where
  pub node : found.node.label ≡ l
  pub parent : found.parent.label ≡ p
  pub before : label found.before ≡ b
  pub node_held : Holds a found.node
  pub parent_held : Holds a found.parent
  pub before_held : IfSome found.before (λ r. Holds a r)
