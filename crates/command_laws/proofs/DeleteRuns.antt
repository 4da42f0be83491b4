-- The delete command leaves the states of contenteditable.
use Rattle.std.proofs.Common.{ℕ}
use Rattle.edit_model.specs.LiveRange.declared.places.Point.{Point}
use Rattle.edit_laws.specs.Steady.{Steady}
use Rattle.edit_laws.proofs.SteadyRuns.{steady_parts}
use Rattle.inline_value.specs.Ancestors.{split_out}
use Rattle.list_indent.specs.Outdenting.{outdent_node}
use Rattle.list_indent.specs.Sublists.{normalize_sublists}
use Rattle.text_deletion.specs.Approach.{drop_child, back_turn, go_back, climb_turn, climb}
use Rattle.text_insertion.specs.Entries.{rename_stray}
use Rattle.text_insertion.specs.Start.{erase}
use Rattle.text_deletion.specs.Entries.{lift_entry, outdent_line, part_entry, part_entries}
use Rattle.text_deletion.specs.Delete.{erase_single, erase_line, join, delete_across, delete_from, delete_at_caret, delete}
use Rattle.command_laws.proofs.AncestorRuns.{steady_fix_ancestors}
use Rattle.command_laws.proofs.ErasingRuns.{steady_canonicalize_start, steady_delete_selection}
use Rattle.command_laws.proofs.IndentRuns.{fit_outdent_node}
use Rattle.command_laws.proofs.PushingRuns.{steady_record_values, steady_restore_values}
use Rattle.command_laws.proofs.RestoringRuns.{steady_restore_states}
use Rattle.command_laws.proofs.SteadySplits.{steady_split, steady_keeping_children}
use Rattle.command_laws.proofs.SteadyWraps.{steady_append_break}
use Rattle.command_laws.proofs.SublistRuns.{fit_normalize}

-- ---- the ways back from a caret

steady_drop_child : (a : _) (k : ℕ) → Steady (drop_child a k)
unfolding drop_child
steady_drop_child a k = search steady_parts

steady_back_turn : (a : _) → Steady (back_turn a)
unfolding back_turn
steady_back_turn a = search (steady_parts, steady_drop_child, steady_keeping_children) depth 14

steady_go_back : (p : Point) → Steady (go_back p)
unfolding go_back
steady_go_back p = search (steady_parts, steady_back_turn)

steady_climb_turn : (a : _) → Steady (climb_turn a)
unfolding climb_turn
steady_climb_turn a = search (steady_parts, steady_drop_child)

steady_climb : (p : Point) → Steady (climb p)
unfolding climb
steady_climb p = search (steady_parts, steady_climb_turn)

-- ---- entries of lists, and indented lines

steady_normalize : (n : ℕ) → Steady (normalize_sublists n)
steady_normalize n = (fit_normalize n).states

steady_split_out : (n : ℕ) → Steady (split_out n)
unfolding split_out
steady_split_out n = search (steady_parts, steady_record_values, steady_split, steady_restore_values)

pub steady_rename_stray : (n : ℕ) → Steady (rename_stray n)
unfolding rename_stray
steady_rename_stray n = search steady_parts

steady_lift_entry : (n : ℕ) → Steady (lift_entry n)
unfolding lift_entry
steady_lift_entry n = search (steady_parts, steady_normalize, steady_split_out, steady_rename_stray, steady_fix_ancestors)

steady_outdent_node : (n : ℕ) → Steady (outdent_node n)
steady_outdent_node n = (fit_outdent_node n).states

steady_outdent_line : (p : Point) → Steady (outdent_line p)
unfolding outdent_line
steady_outdent_line p = search (steady_parts, steady_outdent_node)

steady_part_entry : (k : ℕ) → Steady (part_entry k)
unfolding part_entry
steady_part_entry k = search (steady_parts, steady_append_break)

steady_part_entries : (p : Point) → Steady (part_entries p)
unfolding part_entries
steady_part_entries p = search (steady_parts, steady_part_entry)

-- ---- what goes, and what is joined

pub steady_erase : (m : _) → Steady (erase m)
unfolding erase
steady_erase m = search (steady_parts, steady_delete_selection, steady_restore_states)

steady_erase_single : (p : Point) → Steady (erase_single p)
unfolding erase_single
steady_erase_single p = search (steady_parts, steady_erase)

steady_erase_line : (p q : Point) → Steady (erase_line p q)
unfolding erase_line
steady_erase_line p q = search (steady_parts, steady_erase) depth 9

steady_join : (p q : Point) → Steady (join p q)
unfolding join
steady_join p q = search (steady_parts, steady_part_entries, steady_erase)

-- ---- the command

steady_delete_across : (p : Point) → Steady (delete_across p)
unfolding delete_across
steady_delete_across p = search (steady_parts, steady_climb, steady_outdent_line, steady_erase_line, steady_join) depth 12

steady_delete_from : (p : Point) → Steady (delete_from p)
unfolding delete_from
steady_delete_from p = search (steady_parts, steady_go_back, steady_erase_single, steady_lift_entry, steady_delete_across) depth 12

steady_delete_at_caret : Steady delete_at_caret
unfolding delete_at_caret
steady_delete_at_caret = search (steady_parts, steady_canonicalize_start, steady_delete_from)

pub steady_delete : Steady delete
unfolding delete
steady_delete = search (steady_parts, steady_delete_at_caret, steady_erase)
