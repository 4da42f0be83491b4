-- What a deletion removes: its runs ignore marks and the cap.
use Rattle.std.proofs.Common.{ℕ, Bool, Option, Some, None}
use Rattle.edit_model.specs.LiveRange.declared.places.Point.{Point}
use Rattle.edit_model.specs.Confined.{is_editable_for, is_inside}
use Rattle.delete_core.specs.Ends.{collapse_selection, canonicalize_start, canonicalize_end}
use Rattle.delete_core.specs.Erasing.{erase_within, cut_after, is_own_text, cut_before, fill_hollow, removed_up, strip_empty, strip_from, remove_under, remove_node, remove_nodes, removable_nodes, is_removable}
use Rattle.independence_laws.proofs.WhitespaceRuns.{ignores_canonicalize}
use Rattle.independence_laws.proofs.WrapRuns.{ignores_append_break}
use Rattle.independence_laws.proofs.IgnoringRuns.{ignores_answer, ignoring_parts}
use Rattle.independence_laws.specs.Ignoring.{IgnoresMarks}

-- ---- the ends

pub ignores_collapse_selection : (backward : Bool) → IgnoresMarks (collapse_selection backward)
unfolding collapse_selection
ignores_collapse_selection backward = search ignoring_parts

pub ignores_canonicalize_start : (fix : Bool) → IgnoresMarks (canonicalize_start fix)
unfolding canonicalize_start
ignores_canonicalize_start fix = search (ignoring_parts, ignores_canonicalize)

pub ignores_canonicalize_end : (fix : Bool) → IgnoresMarks (canonicalize_end fix)
unfolding canonicalize_end
ignores_canonicalize_end fix = search (ignoring_parts, ignores_canonicalize)

-- ---- erasing

pub ignores_erase_within : (backward : Bool) (p q : Point) → IgnoresMarks (erase_within backward p q)
unfolding erase_within
ignores_erase_within backward p q = search (ignoring_parts, ignores_canonicalize, ignores_collapse_selection)

pub ignores_cut_after : (p : Point) → IgnoresMarks (cut_after p)
unfolding cut_after is_own_text is_editable_for
ignores_cut_after p = search ignoring_parts

pub ignores_cut_before : (q : Point) → IgnoresMarks (cut_before q)
unfolding cut_before is_own_text is_editable_for
ignores_cut_before q = search ignoring_parts

ignores_fill_hollow : (p : ℕ) → IgnoresMarks (fill_hollow p)
unfolding fill_hollow is_inside is_editable_for
ignores_fill_hollow p = search (ignoring_parts, ignores_append_break)

pub ignores_removed_up : (o : Option ℕ) → IgnoresMarks (removed_up o)
ignores_removed_up None = ignores_answer None
ignores_removed_up (Some p) = search ignoring_parts

ignores_strip_empty : (p : ℕ) → IgnoresMarks (strip_empty p)
unfolding strip_empty is_editable_for
ignores_strip_empty p = search (ignoring_parts, ignores_removed_up)

ignores_strip_from : (strip : Bool) (start p : ℕ) → IgnoresMarks (strip_from strip start p)
unfolding strip_from
ignores_strip_from strip start p = search (ignoring_parts, ignores_strip_empty)

ignores_remove_under : (strip : Bool) (start n p : ℕ) → IgnoresMarks (remove_under strip start n p)
unfolding remove_under
ignores_remove_under strip start n p = search (ignoring_parts, ignores_fill_hollow, ignores_strip_from)

ignores_remove_node : (strip : Bool) (start n : ℕ) → IgnoresMarks (remove_node strip start n)
unfolding remove_node
ignores_remove_node strip start n = search (ignoring_parts, ignores_remove_under)

pub ignores_remove_nodes : (strip : Bool) (start : ℕ) → IgnoresMarks (remove_nodes strip start)
unfolding remove_nodes removable_nodes is_removable is_editable_for
ignores_remove_nodes strip start = search (ignoring_parts, ignores_remove_node)
