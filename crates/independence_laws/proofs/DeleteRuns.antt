-- Deleting ignores marks and the cap.
use Rattle.std.proofs.Common.{ℕ}
use Rattle.edit_model.specs.LiveRange.declared.places.Point.{Point}
use Rattle.edit_model.specs.Confined.{is_editable_for}
use Rattle.inline_value.specs.EditQuery.Carets.{is_caret}
use Rattle.inline_value.specs.Ancestors.{is_description}
use Rattle.list_indent.specs.Commands.{has_editable_below}
use Rattle.text_insertion.specs.Entries.{is_entry}
use Rattle.text_deletion.specs.Approach.{drop_child, back_turn, hidden_prev, hidden_child, out_of_node, link_before, into_child, go_back, climb_turn, out_of_start, climb}
use Rattle.text_deletion.specs.Entries.{lift_entry, outdent_line, bare_nodes, is_bare, part_entry, part_entries, opens_entry, starts_indented, is_indented, indents_line, has_indenter, starts_entry}
use Rattle.text_deletion.specs.Delete.{erase_single, erase_line, join, joined, deepest_before, into_last, delete_across, is_kept_from, follows_table, follows_line, is_empty_line, delete_from, follows_single, delete_at_caret, delete}
use Rattle.independence_laws.proofs.SplitRuns.{ignores_remove_keeping_children}
use Rattle.independence_laws.proofs.IndentRuns.{ignores_normalize_sublists, ignores_outdent_node}
use Rattle.independence_laws.proofs.SelectionRuns.{ignores_split_out, ignores_fix_ancestors}
use Rattle.independence_laws.proofs.ParagraphRuns.{ignores_rename_stray, ignores_erase}
use Rattle.independence_laws.proofs.WrapRuns.{ignores_append_break}
use Rattle.independence_laws.proofs.ErasingRuns.{ignores_canonicalize_start}
use Rattle.independence_laws.specs.Ignoring.{IgnoresMarks}
use Rattle.independence_laws.proofs.IgnoringRuns.{ignoring_parts}

-- ---- the ways back from a caret

ignores_drop_child : (a : _) (k : ℕ) → IgnoresMarks (drop_child a k)
unfolding drop_child
ignores_drop_child a k = search ignoring_parts

ignores_back_turn : (a : _) → IgnoresMarks (back_turn a)
unfolding back_turn hidden_prev is_editable_for hidden_child out_of_node link_before into_child
ignores_back_turn a = search (ignoring_parts, ignores_drop_child, ignores_remove_keeping_children) depth 10

ignores_go_back : (p : Point) → IgnoresMarks (go_back p)
unfolding go_back
ignores_go_back p = search (ignoring_parts, ignores_back_turn)

ignores_climb_turn : (a : _) → IgnoresMarks (climb_turn a)
unfolding climb_turn out_of_start hidden_child is_editable_for
ignores_climb_turn a = search (ignoring_parts, ignores_drop_child)

ignores_climb : (p : Point) → IgnoresMarks (climb p)
unfolding climb
ignores_climb p = search (ignoring_parts, ignores_climb_turn)

-- ---- entries of lists

ignores_lift_entry : (n : ℕ) → IgnoresMarks (lift_entry n)
unfolding lift_entry
ignores_lift_entry n = search (ignoring_parts, ignores_normalize_sublists, ignores_split_out, ignores_rename_stray, ignores_fix_ancestors) depth 7

ignores_outdent_line : (p : Point) → IgnoresMarks (outdent_line p)
unfolding outdent_line bare_nodes is_bare is_editable_for has_editable_below
ignores_outdent_line p = search (ignoring_parts, ignores_outdent_node)

ignores_part_entry : (k : ℕ) → IgnoresMarks (part_entry k)
unfolding part_entry
ignores_part_entry k = search (ignoring_parts, ignores_append_break) depth 7

ignores_part_entries : (p : Point) → IgnoresMarks (part_entries p)
unfolding part_entries opens_entry is_entry is_description
ignores_part_entries p = search (ignoring_parts, ignores_part_entry)

-- ---- the command

ignores_erase_single : (p : Point) → IgnoresMarks (erase_single p)
unfolding erase_single
ignores_erase_single p = search (ignoring_parts, ignores_erase)

ignores_erase_line : (p q : Point) → IgnoresMarks (erase_line p q)
unfolding erase_line
ignores_erase_line p q = search (ignoring_parts, ignores_erase) depth 7

ignores_join : (p q : Point) → IgnoresMarks (join p q)
unfolding join joined is_entry is_description deepest_before into_last
ignores_join p q = search (ignoring_parts, ignores_part_entries, ignores_erase)

ignores_delete_across : (p : Point) → IgnoresMarks (delete_across p)
unfolding delete_across starts_indented is_indented indents_line is_editable_for has_indenter is_kept_from follows_table follows_line is_empty_line
ignores_delete_across p = search (ignoring_parts, ignores_climb, ignores_outdent_line, ignores_erase_line, ignores_join) depth 8

ignores_delete_from : (p : Point) → IgnoresMarks (delete_from p)
unfolding delete_from follows_single starts_entry is_entry is_description
ignores_delete_from p = search (ignoring_parts, ignores_go_back, ignores_erase_single, ignores_lift_entry, ignores_delete_across) depth 8

ignores_delete_at_caret : IgnoresMarks delete_at_caret
unfolding delete_at_caret
ignores_delete_at_caret = search (ignoring_parts, ignores_canonicalize_start, ignores_delete_from)

pub ignores_delete : IgnoresMarks delete
unfolding delete is_caret
ignores_delete = search (ignoring_parts, ignores_delete_at_caret, ignores_erase)
