-- Deleting is tame.
use Rattle.std.proofs.Common.{ℕ}
use Rattle.edit_model.specs.LiveRange.declared.places.Point.{Point}
use Rattle.inline_value.specs.Ancestors.{split_out}
use Rattle.text_deletion.specs.Approach.{drop_child, back_turn, go_back, climb_turn, climb}
use Rattle.text_insertion.specs.Entries.{rename_stray}
use Rattle.text_insertion.specs.Start.{erase}
use Rattle.text_deletion.specs.Entries.{lift_entry, outdent_line, part_entry, part_entries}
use Rattle.text_deletion.specs.Delete.{erase_single, erase_line, join, delete_across, delete_from, delete_at_caret, delete}
use Rattle.making_laws.specs.Tame.{Tame}
use Rattle.making_laws.proofs.AncestorRuns.{made_container, tame_fix_ancestors}
use Rattle.making_laws.proofs.Wraps.{tame_append_break}
use Rattle.making_laws.proofs.ErasingRuns.{tame_canonicalize_start, tame_delete_selection}
use Rattle.making_laws.proofs.Splits.{tame_keeping_children, tame_split}
use Rattle.making_laws.proofs.SublistRuns.{tame_normalize}
use Rattle.making_laws.proofs.IndentRuns.{tame_outdent_node}
use Rattle.making_laws.proofs.TameRuns.{tame_parts}
use Rattle.making_laws.proofs.PushingRuns.{tame_record_values, tame_restore_values}
use Rattle.making_laws.proofs.RestoringRuns.{tame_restore_states}

-- ---- the ways back from a caret

tame_drop_child : (a : _) (k : ℕ) → Tame (drop_child a k)
unfolding drop_child
tame_drop_child a k = search tame_parts

tame_back_turn : (a : _) → Tame (back_turn a)
unfolding back_turn
tame_back_turn a = search (tame_parts, tame_drop_child, tame_keeping_children) depth 14

tame_go_back : (p : Point) → Tame (go_back p)
unfolding go_back
tame_go_back p = search (tame_parts, tame_back_turn)

tame_climb_turn : (a : _) → Tame (climb_turn a)
unfolding climb_turn
tame_climb_turn a = search (tame_parts, tame_drop_child)

tame_climb : (p : Point) → Tame (climb p)
unfolding climb
tame_climb p = search (tame_parts, tame_climb_turn)

-- ---- entries of lists, and indented lines

tame_split_out : (n : ℕ) → Tame (split_out n)
unfolding split_out
tame_split_out n = search (tame_parts, tame_record_values, tame_split, tame_restore_values)

pub tame_rename_stray : (n : ℕ) → Tame (rename_stray n)
unfolding rename_stray
tame_rename_stray n = search (tame_parts, made_container)

tame_lift_entry : (n : ℕ) → Tame (lift_entry n)
unfolding lift_entry
tame_lift_entry n = search (tame_parts, tame_normalize, tame_split_out, tame_rename_stray, tame_fix_ancestors)

tame_outdent_line : (p : Point) → Tame (outdent_line p)
unfolding outdent_line
tame_outdent_line p = search (tame_parts, tame_outdent_node)

tame_part_entry : (k : ℕ) → Tame (part_entry k)
unfolding part_entry
tame_part_entry k = search (tame_parts, tame_append_break)

tame_part_entries : (p : Point) → Tame (part_entries p)
unfolding part_entries
tame_part_entries p = search (tame_parts, tame_part_entry)

-- ---- what goes, and what is joined

pub tame_erase : (m : _) → Tame (erase m)
unfolding erase
tame_erase m = search (tame_parts, tame_delete_selection, tame_restore_states)

tame_erase_single : (p : Point) → Tame (erase_single p)
unfolding erase_single
tame_erase_single p = search (tame_parts, tame_erase)

tame_erase_line : (p q : Point) → Tame (erase_line p q)
unfolding erase_line
tame_erase_line p q = search (tame_parts, tame_erase) depth 9

tame_join : (p q : Point) → Tame (join p q)
unfolding join
tame_join p q = search (tame_parts, tame_part_entries, tame_erase)

-- ---- the command

tame_delete_across : (p : Point) → Tame (delete_across p)
unfolding delete_across
tame_delete_across p = search (tame_parts, tame_climb, tame_outdent_line, tame_erase_line, tame_join) depth 12

tame_delete_from : (p : Point) → Tame (delete_from p)
unfolding delete_from
tame_delete_from p = search (tame_parts, tame_go_back, tame_erase_single, tame_lift_entry, tame_delete_across) depth 12

tame_delete_at_caret : Tame delete_at_caret
unfolding delete_at_caret
tame_delete_at_caret = search (tame_parts, tame_canonicalize_start, tame_delete_from)

pub tame_delete : Tame delete
unfolding delete
tame_delete = search (tame_parts, tame_delete_at_caret, tame_erase)
