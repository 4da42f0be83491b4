-- Toggling lists ignores marks and the cap.
use Rattle.std.proofs.Common.{ℕ, Bool, List}
use Rattle.edit_model.specs.Confined.{is_editable_for}
use Rattle.inline_value.specs.WrapSplit.declared.rule.Criterion.{Criterion}
use Rattle.inline_value.specs.WrapSplit.declared.rule.Recipe.{Recipe}
use Rattle.inline_value.specs.EditQuery.ListStates.{list_state}
use Rattle.list_indent.specs.Sublists.{is_list, is_in_list}
use Rattle.list_toggle.specs.Ranges.{RangeEnds, keep_range, kept_range, extended_range, other_lists, is_other_list, range_members, range_lines, is_line}
use Rattle.list_toggle.specs.Converting.{move_items, convert_list, is_beside_fit, convert_each, convert_lists}
use Rattle.list_toggle.specs.Collecting.{wrap_line, goes_on_line, make_item, is_container, Collected, collect_next, collect_items, goes_on}
use Rattle.list_toggle.specs.Toggle.{release_series, release_all, goes_on_out, place_items, enlist_next, toggle_off, toggle_on, toggle_lists}
use Rattle.list_toggle.specs.declared.toggling.ListKind.{ListKind}
use Rattle.independence_laws.proofs.PushingRuns.{ignores_record_values, ignores_restore_values}
use Rattle.independence_laws.proofs.SplitRuns.{ignores_split_parent}
use Rattle.independence_laws.proofs.WrapRuns.{ignores_wrap}
use Rattle.independence_laws.proofs.MoveRuns.{ignores_set_tag_name}
use Rattle.independence_laws.proofs.IndentRuns.{ignores_outdent_node, ignores_split_items, ignores_for_series, ignores_normalize_range}
use Rattle.independence_laws.proofs.SelectionRuns.{ignores_fix_ancestors}
use Rattle.independence_laws.specs.Ignoring.{IgnoresMarks}
use Rattle.independence_laws.proofs.IgnoringRuns.{ignoring_parts}

-- ---- the range

ignores_keep_range : (range : RangeEnds) → IgnoresMarks (keep_range range)
unfolding keep_range
ignores_keep_range range = search ignoring_parts

-- ---- lists of the other kind

ignores_move_items : (criterion : Criterion) (recipe : Recipe) (items : List ℕ) → IgnoresMarks (move_items criterion recipe items)
unfolding move_items
ignores_move_items criterion recipe items = search (ignoring_parts, ignores_record_values, ignores_split_parent, ignores_wrap, ignores_restore_values)

ignores_convert_list : (ordered : Bool) (l : ℕ) → IgnoresMarks (convert_list ordered l)
unfolding convert_list is_beside_fit is_editable_for
ignores_convert_list ordered l = search (ignoring_parts, ignores_move_items, ignores_set_tag_name)

ignores_convert_each : (ordered : Bool) (range : RangeEnds) (lists : List ℕ) → IgnoresMarks (convert_each ordered range lists)
unfolding convert_each kept_range
ignores_convert_each ordered range lists = search (ignoring_parts, ignores_keep_range, ignores_convert_list) depth 7

ignores_convert_lists : (ordered : Bool) → IgnoresMarks (convert_lists ordered)
unfolding convert_lists extended_range other_lists is_other_list is_editable_for
ignores_convert_lists ordered = search (ignoring_parts, ignores_convert_each)

-- ---- collecting items

ignores_wrap_line : (list : List ℕ) → IgnoresMarks (wrap_line list)
unfolding wrap_line goes_on_line
ignores_wrap_line list = search (ignoring_parts, ignores_wrap)

ignores_make_item : (list : List ℕ) (x : ℕ) → IgnoresMarks (make_item list x)
unfolding make_item is_container is_list
ignores_make_item list x = search (ignoring_parts, ignores_set_tag_name, ignores_wrap_line)

ignores_collect_next : (c : Collected) → IgnoresMarks (collect_next c)
unfolding collect_next
ignores_collect_next c = search (ignoring_parts, ignores_make_item)

ignores_collect_items : (list : List ℕ) → IgnoresMarks (collect_items list)
unfolding collect_items goes_on
ignores_collect_items list = search (ignoring_parts, ignores_collect_next)

-- ---- toggling

ignores_release_series : (ordered : Bool) (list : List ℕ) → IgnoresMarks (release_series ordered list)
unfolding release_series
ignores_release_series ordered list = search (ignoring_parts, ignores_outdent_node, ignores_split_items)

ignores_release_all : (ordered : Bool) (list : List ℕ) → IgnoresMarks (release_all ordered list)
unfolding release_all goes_on_out
ignores_release_all ordered list = search (ignoring_parts, ignores_for_series, ignores_release_series)

ignores_place_items : (ordered : Bool) (items : List ℕ) → IgnoresMarks (place_items ordered items)
unfolding place_items is_list
ignores_place_items ordered items = search (ignoring_parts, ignores_move_items, ignores_wrap, ignores_fix_ancestors) depth 8

ignores_enlist_next : (ordered : Bool) (list : List ℕ) → IgnoresMarks (enlist_next ordered list)
unfolding enlist_next
ignores_enlist_next ordered list = search (ignoring_parts, ignores_collect_items, ignores_place_items)

ignores_toggle_off : (ordered : Bool) → IgnoresMarks (toggle_off ordered)
unfolding toggle_off range_members extended_range
ignores_toggle_off ordered = search (ignoring_parts, ignores_release_all)

ignores_toggle_on : (ordered : Bool) → IgnoresMarks (toggle_on ordered)
unfolding toggle_on range_lines is_line is_list is_in_list range_members
ignores_toggle_on ordered = search (ignoring_parts, ignores_convert_lists, ignores_enlist_next) depth 7

pub ignores_toggle_lists : (kind : ListKind) → IgnoresMarks (toggle_lists kind)
unfolding toggle_lists list_state
ignores_toggle_lists kind = search (ignoring_parts, ignores_normalize_range, ignores_toggle_off, ignores_toggle_on)
