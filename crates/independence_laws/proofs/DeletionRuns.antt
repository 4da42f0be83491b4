-- Deleting the selection ignores marks and the cap.
use Rattle.std.proofs.Common.{ℕ, Option}
use Rattle.edit_model.specs.LiveRange.declared.places.Point.{Point}
use Rattle.edit_model.specs.Confined.{is_editable_for, is_inside}
use Rattle.inline_value.specs.EditQuery.Queries.{value_of}
use Rattle.inline_value.specs.EditQuery.Rows.{first_value}
use Rattle.inline_value.specs.EditQuery.Formattable.{first_formattable, formattable_nodes, start_node}
use Rattle.inline_value.specs.EditQuery.Leaves.{first_leaf, leaves}
use Rattle.inline_value.specs.Overrides.{states_of, states_at}
use Rattle.delete_core.specs.Deletion.{erase_across, erase, delete_recorded, delete_selected, delete_range, delete_between, delete_selection}
use Rattle.delete_core.specs.Erasing.{is_own_text}
use Rattle.delete_core.specs.Ends.{block_of_end, may_merge, top_inline, up_inline}
use Rattle.independence_laws.proofs.ErasingRuns.{ignores_cut_after, ignores_remove_nodes, ignores_cut_before, ignores_canonicalize_start, ignores_canonicalize_end, ignores_erase_within, ignores_collapse_selection}
use Rattle.independence_laws.proofs.MergingRuns.{ignores_merge_if}
use Rattle.independence_laws.specs.Ignoring.{IgnoresMarks}
use Rattle.independence_laws.proofs.IgnoringRuns.{ignoring_parts}

ignores_erase_across : (m : _) (p q : Point) (b c : Option ℕ) → IgnoresMarks (erase_across m p q b c)
unfolding erase_across
ignores_erase_across m p q b c = search (ignoring_parts, ignores_cut_after, ignores_remove_nodes, ignores_cut_before, ignores_canonicalize_start, ignores_canonicalize_end, ignores_merge_if) depth 7

ignores_erase : (m : _) (p q : Point) (b c : Option ℕ) → IgnoresMarks (erase m p q b c)
unfolding erase is_own_text is_editable_for
ignores_erase m p q b c = search (ignoring_parts, ignores_erase_within, ignores_erase_across)

ignores_delete_recorded : (m : _) (p q : Point) → IgnoresMarks (delete_recorded m p q)
unfolding delete_recorded block_of_end may_merge top_inline up_inline is_inside is_editable_for states_of states_at value_of first_value first_formattable formattable_nodes start_node first_leaf leaves
ignores_delete_recorded m p q = search (ignoring_parts, ignores_erase)

ignores_delete_selected : (m : _) (p q : Point) → IgnoresMarks (delete_selected m p q)
unfolding delete_selected
ignores_delete_selected m p q = search (ignoring_parts, ignores_delete_recorded)

ignores_delete_range : (m : _) (p q : Point) → IgnoresMarks (delete_range m p q)
unfolding delete_range
ignores_delete_range m p q = search (ignoring_parts, ignores_delete_selected, ignores_collapse_selection)

ignores_delete_between : (m : _) → IgnoresMarks (delete_between m)
unfolding delete_between
ignores_delete_between m = search (ignoring_parts, ignores_delete_range)

pub ignores_delete_selection : (m : _) → IgnoresMarks (delete_selection m)
unfolding delete_selection
ignores_delete_selection m = search (ignoring_parts, ignores_canonicalize_start, ignores_canonicalize_end, ignores_delete_between)
