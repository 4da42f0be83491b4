-- What is printed of an editor.
use Rattle.std.specs.Prelude.{ℕ, List, ◌++◌, length, codes, Option, Some}
use Rattle.std.specs.Option.{option_map}
use Rattle.std.specs.Fmt.{decimal}
use Rattle.edit_model.specs.DomModel.Document.{node_count, char_count}
use Rattle.inline_value.specs.EditDoc.Whole.{first_edits}
use Rattle.inline_value.specs.NodePaths.Paths.{label_at}
use Rattle.page_write.specs.Html.{document_html}
use Rattle.page_write.specs.Listing.{document_lines}
use Rattle.page_write.specs.PointLines.{point_lines}
use Rattle.edit_engine.specs.declared.answers.ViewKind.{ViewKind}
use Rattle.edit_engine.specs.declared.answers.ViewKind.TheVariants.{Html, Tree, Points, Stat, Probe}
use Rattle.edit_engine.specs.Editing.{Editing}
use Rattle.edit_engine.specs.Probe.{probe_line}

-- how many nodes and characters the document has, and the next label
abbrev pub document_numbers : (nodes chars next : ℕ) → List ℕ
document_numbers nodes chars next =
    codes "nodes " ++ decimal nodes ++ codes " chars " ++ decimal chars ++ codes " next "
    ++ decimal next

-- the edits of the entry that undo would take, and how many entries undo and redo would take
abbrev pub history_numbers : (edits undo redo : ℕ) → List ℕ
history_numbers edits undo redo =
    codes " edits " ++ decimal edits ++ codes " undo " ++ decimal undo ++ codes " redo "
    ++ decimal redo ++ codes "\n"

unfoldable pub stat_line : Editing → List ℕ
stat_line e =
    document_numbers (node_count e.state.trees) (char_count e.state.trees) e.state.next
    ++ history_numbers (first_edits e.history.undo) (length e.history.undo) (length e.history.redo)

-- in whole lines; there is none where a path names no node
abbrev pub view_text : Editing → ViewKind → Option (List ℕ)
view_text e Html = Some (document_html e.state.trees ++ codes "\n")
view_text e Tree = Some (document_lines e.state.trees)
view_text e Points = Some (point_lines e.state.trees e.state.points)
view_text e Stat = Some (stat_line e)
view_text e (Probe path) = option_map (probe_line e.state.trees) (label_at e.state.trees path)
