-- Deleting keeps to the grammar.
use Rattle.std.proofs.Common.{ℕ}
use Rattle.edit_model.specs.LiveRange.declared.places.Point.{Point}
use Rattle.inline_value.specs.Ancestors.{split_out}
use Rattle.text_deletion.specs.Approach.{drop_child, back_turn, go_back, climb_turn, climb}
use Rattle.text_insertion.specs.Entries.{rename_stray}
use Rattle.text_insertion.specs.Start.{erase}
use Rattle.text_deletion.specs.Entries.{lift_entry, outdent_line, part_entry, part_entries}
use Rattle.text_deletion.specs.Delete.{erase_single, erase_line, join, delete_across, delete_from, delete_at_caret, delete}
use Rattle.delete_core.specs.Deletion.{delete_selection}
use Rattle.inline_value.specs.ForestChanges.Named.{Each}
use Rattle.inline_commands.specs.RestoringStates.{restore_states}
use Rattle.grammar_laws.specs.Runs.{Proper}
use Rattle.grammar_laws.proofs.Values.{IsOverride}
use Rattle.grammar_laws.proofs.AncestorRuns.{made_container, proper_fix_ancestors}
use Rattle.grammar_laws.proofs.Wraps.{proper_append_break}
use Rattle.grammar_laws.proofs.ErasingRuns.{proper_canonicalize_start, proper_delete_selection}
use Rattle.grammar_laws.proofs.Splits.{proper_keeping_children, proper_split}
use Rattle.grammar_laws.proofs.SublistRuns.{proper_normalize}
use Rattle.grammar_laws.proofs.IndentRuns.{proper_outdent_node}
use Rattle.grammar_laws.proofs.ProperRuns.{proper_after, proper_parts}
use Rattle.grammar_laws.proofs.PushingRuns.{proper_recorded, proper_restore_values}
use Rattle.grammar_laws.proofs.RestoringRuns.{proper_restore_states}

-- ---- the ways back from a caret

proper_drop_child : (a : _) (k : ℕ) → Proper (drop_child a k)
unfolding drop_child
proper_drop_child a k = search proper_parts

proper_back_turn : (a : _) → Proper (back_turn a)
unfolding back_turn
proper_back_turn a = search (proper_parts, proper_drop_child, proper_keeping_children) depth 14

proper_go_back : (p : Point) → Proper (go_back p)
unfolding go_back
proper_go_back p = search (proper_parts, proper_back_turn)

proper_climb_turn : (a : _) → Proper (climb_turn a)
unfolding climb_turn
proper_climb_turn a = search (proper_parts, proper_drop_child)

proper_climb : (p : Point) → Proper (climb p)
unfolding climb
proper_climb p = search (proper_parts, proper_climb_turn)

-- ---- entries of lists, and indented lines

proper_split_out : (n : ℕ) → Proper (split_out n)
unfolding split_out
proper_split_out n = search (proper_recorded, proper_parts, proper_split, proper_restore_values)

pub proper_rename_stray : (n : ℕ) → Proper (rename_stray n)
unfolding rename_stray
proper_rename_stray n = search (proper_parts, made_container)

proper_lift_entry : (n : ℕ) → Proper (lift_entry n)
unfolding lift_entry
proper_lift_entry n = search (proper_parts, proper_normalize, proper_split_out, proper_rename_stray, proper_fix_ancestors)

proper_outdent_line : (p : Point) → Proper (outdent_line p)
unfolding outdent_line
proper_outdent_line p = search (proper_parts, proper_outdent_node)

proper_part_entry : (k : ℕ) → Proper (part_entry k)
unfolding part_entry
proper_part_entry k = search (proper_parts, proper_append_break)

proper_part_entries : (p : Point) → Proper (part_entries p)
unfolding part_entries
proper_part_entries p = search (proper_parts, proper_part_entry)

-- ---- what goes, and what is joined

pub proper_erase : (m : _) → Proper (erase m)
unfolding erase
proper_erase m = proper_after (Each IsOverride) (delete_selection m) restore_states (proper_delete_selection m) proper_restore_states

proper_erase_single : (p : Point) → Proper (erase_single p)
unfolding erase_single
proper_erase_single p = search (proper_parts, proper_erase)

proper_erase_line : (p q : Point) → Proper (erase_line p q)
unfolding erase_line
proper_erase_line p q = search (proper_parts, proper_erase) depth 9

proper_join : (p q : Point) → Proper (join p q)
unfolding join
proper_join p q = search (proper_parts, proper_part_entries, proper_erase)

-- ---- the command

proper_delete_across : (p : Point) → Proper (delete_across p)
unfolding delete_across
proper_delete_across p = search (proper_parts, proper_climb, proper_outdent_line, proper_erase_line, proper_join) depth 12

proper_delete_from : (p : Point) → Proper (delete_from p)
unfolding delete_from
proper_delete_from p = search (proper_parts, proper_go_back, proper_erase_single, proper_lift_entry, proper_delete_across) depth 12

proper_delete_at_caret : Proper delete_at_caret
unfolding delete_at_caret
proper_delete_at_caret = search (proper_parts, proper_canonicalize_start, proper_delete_from)

pub proper_delete : Proper delete
unfolding delete
proper_delete = search (proper_parts, proper_delete_at_caret, proper_erase)
