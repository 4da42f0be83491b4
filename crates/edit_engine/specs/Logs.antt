-- The log of an editor: the entries that undo would take, from the first to the last, as lines of
-- steps.
use Rattle.std.specs.Prelude.{ℕ, List, [], ◌∷◌, ◌++◌, map, reverse, codes}
use Rattle.std.specs.List.{flat_map}
use Rattle.edit_model.specs.DomModel.declared.Content.{Content}
use Rattle.edit_model.specs.DomModel.declared.Content.TheVariants as content
use Rattle.edit_model.specs.History.{History}
use Rattle.inline_value.specs.EditDoc.Logged.{Logged, logged_entry}
use Rattle.inline_value.specs.EditDoc.declared.logged.LoggedEdit.{LoggedEdit}
use Rattle.inline_value.specs.EditDoc.declared.logged.LoggedEdit.TheVariants as edits
use Rattle.inline_value.specs.EditDoc.declared.logged.MadeNode.{MadeNode}
use Rattle.step_text.specs.StepLine.{line_text}
use Rattle.step_text.specs.declared.line.Made.TheVariants as made
use Rattle.step_text.specs.declared.line.StepLine.{StepLine}
use Rattle.step_text.specs.declared.line.StepLine.TheVariants as steps

-- a node that was made: no command makes a Document or a comment, and no step could
abbrev pub content_steps : ℕ → Content → List StepLine
content_steps label content.Document = []
content_steps label (content.Element name attributes) =
    steps.Make label (made.Element name attributes) ∷ []
content_steps label (content.Words words) = steps.Make label (made.Words words) ∷ []
content_steps label (content.Remark words) = []

abbrev pub made_steps : MadeNode → List StepLine
made_steps node = content_steps node.label node.content

abbrev pub edit_step : LoggedEdit → StepLine
edit_step (edits.Remove node) = steps.Remove node
edit_step (edits.Insert node parent before) = steps.Insert node parent before
edit_step (edits.Move node parent before) = steps.Move node parent before
edit_step (edits.SetText node words) = steps.Words node words
edit_step (edits.SetAttributes node name attributes) = steps.Tag node name attributes

-- an entry: the nodes that were made, and then the edits
unfoldable pub entry_steps : Logged → List StepLine
entry_steps entry = steps.Entry ∷ (flat_map made_steps entry.made ++ map edit_step entry.edits)

unfoldable pub log_steps : History → List StepLine
log_steps h = flat_map entry_steps (map logged_entry (reverse h.undo))

-- steps as lines
abbrev pub step_line : StepLine → List ℕ
step_line step = line_text step ++ codes "\n"

unfoldable pub step_lines : List StepLine → List ℕ
step_lines list = flat_map step_line list

abbrev pub log_text : History → List ℕ
log_text h = step_lines (log_steps h)
