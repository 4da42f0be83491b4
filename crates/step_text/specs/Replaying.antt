-- The lines that stand for changes of the trees, as a log has them.
use Rattle.std.specs.Prelude.{◌≡◌, ℕ, List, true, Some, None}
use Rattle.page_grammar.specs.DomModel.declared.Content.{Content}
use Rattle.page_grammar.specs.DomModel.Contents.{name_of}
use Rattle.page_grammar.specs.DomModel.Forest.{Forest}
use Rattle.edit_steps.specs.ForestChanges.Change.{Change}
use Rattle.page_grammar.specs.DomModel.Change as change
use Rattle.step_text.specs.Applying.{Labelled, fault_of, is_text_at, line_applied}
use Rattle.step_text.specs.declared.line.StepLine.{StepLine}
use Rattle.step_text.specs.declared.line.StepLine.TheVariants.{Insert, Remove, Move, Words, Tag}

-- the line of a change, where the name is that of the element whose attributes change; no line
-- stands for a change of a part of the characters
abbrev pub line_of : Change → List ℕ → StepLine
line_of (change.Remove n) name = Remove n
line_of (change.Insert n p b) name = Insert n p b
line_of (change.Move n p b) name = Move n p b
line_of (change.SetText n words) name = Words n words
line_of (change.Splice n at rest taken put) name = Words n put
line_of (change.SetAttributes n list) name = Tag n name list

-- a line can say the change: it is one of all the characters of a Text node, and not of a part of
-- them, or the name is that of the element
abbrev pub CanSay : Change → List ℕ → Forest Content → Type 0
CanSay (change.SetText n words) name f = is_text_at f n ≡ true
CanSay (change.Splice n at rest taken put) name f = ⊥
CanSay (change.SetAttributes n list) name f = name_of f n ≡ Some name
CanSay _ name f = Unit {0}

-- the line fits one document and makes another of it
pub record LeadsTo (x : StepLine) (d e : Labelled) : Type 0 where
  pub fine : fault_of x d ≡ None
  pub applied : line_applied x d ≡ e
