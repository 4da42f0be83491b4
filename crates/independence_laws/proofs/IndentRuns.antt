-- Indent and outdent ignore marks and the cap.
use Rattle.std.proofs.Common.{◌≡◌, ℕ, Bool, List, Option, zero, suc, [], ◌∷◌, length}
use Rattle.edit_model.specs.DomModel.Forest.{first_in}
use Rattle.edit_model.specs.Run.{Run, ◌>>◌}
use Rattle.edit_model.specs.State.{State}
use Rattle.edit_model.specs.Confined.{is_editable_for}
use Rattle.inline_value.specs.WrapSplit.Wrap.{break_next}
use Rattle.inline_value.specs.EditQuery.Gathered.{outermost}
use Rattle.list_indent.specs.Series.{series_at_most, take_series, for_series}
use Rattle.list_indent.specs.Sublists.{make_follower, follower_of, handed_on, part_last, leaves, is_list, is_blank, normalize_sublists, is_normalizable, is_in_list}
use Rattle.list_indent.specs.Indenting.{nested, quoted, indent_list}
use Rattle.list_indent.specs.Outdenting.{to_div, unboxed, unindented, unwrapped, released, outdent_list, part_around, siblings_after, part_level, child_on_way, part_levels, outdent_through, outdent_along, outdent_node, way_of, way_by, is_passed}
use Rattle.list_indent.specs.Commands.{normalize_range, range_items, normalize_before, shown_before, indent_nodes, indent, is_indentable, split_items, outdent_series, is_lone, outdent_nodes, goes_on_items, outdent, is_outdentable, has_editable_below}
use Rattle.independence_laws.proofs.IgnoringRuns.{ignores_answer, ignores_bind, ignores_look, ignoring_parts}
use Rattle.independence_laws.specs.Unmarked.{unmarked}
use Rattle.independence_laws.proofs.MoveRuns.{ignores_insert_after, ignores_move_first, ignores_move_after, ignores_set_tag_name}
use Rattle.independence_laws.proofs.WrapRuns.{ignores_wrap}
use Rattle.independence_laws.proofs.SelectionRuns.{ignores_fix_ancestors}
use Rattle.independence_laws.proofs.ClearingRuns.{ignores_unset_style}
use Rattle.independence_laws.proofs.SplitRuns.{ignores_remove_keeping_children, ignores_split_parent}
use Rattle.independence_laws.proofs.PushingRuns.{ignores_record_values, ignores_restore_values}
use Rattle.independence_laws.proofs.LookedAt.{first_visible_same, last_visible_same}
use Rattle.independence_laws.specs.Ignoring.{IgnoresMarks}

-- ---- lists taken series by series

ignores_series_at_most : (n : ℕ) (on : State → ℕ → ℕ → Bool) (body : List ℕ → Run (Unit {0})) (list : List ℕ) → ((s : State) → on (unmarked s) ≡ on s) → ((part : List ℕ) → IgnoresMarks (body part)) → IgnoresMarks (series_at_most n on body list)
unfolding series_at_most
ignores_series_at_most zero on body list same h = ignores_answer tt
ignores_series_at_most (suc n) on body [] same h = ignores_answer tt
ignores_series_at_most (suc n) on body (x ∷ xs) same h = ignores_look _
    (λ s i. body (take_series (same s i) (x ∷ xs)).0 >> series_at_most n on body (take_series (same s i) (x ∷ xs)).1)
    (λ s. (
    let series = take_series (on s) (x ∷ xs) in
    ignores_bind (body series.0) (λ _. series_at_most n on body series.1) (h series.0) (λ _. ignores_series_at_most n on body series.1 same h)))

pub ignores_for_series : (on : State → ℕ → ℕ → Bool) (body : List ℕ → Run (Unit {0})) (list : List ℕ) → ((s : State) → on (unmarked s) ≡ on s) → ((part : List ℕ) → IgnoresMarks (body part)) → IgnoresMarks (for_series on body list)
unfolding for_series
ignores_for_series on body list same h = ignores_series_at_most (length list) on body list same h

-- ---- sublists

ignores_make_follower : (item : ℕ) → IgnoresMarks (make_follower item)
unfolding make_follower
ignores_make_follower item = search (ignoring_parts, ignores_insert_after)

ignores_follower_of : (item : ℕ) (follower : Option ℕ) → IgnoresMarks (follower_of item follower)
unfolding follower_of
ignores_follower_of item follower = search (ignoring_parts, ignores_make_follower)

ignores_handed_on : (c x : ℕ) → IgnoresMarks (handed_on c x)
unfolding handed_on
ignores_handed_on c x = search (ignoring_parts, ignores_move_first)

ignores_part_last : (item : ℕ) (follower : Option ℕ) → IgnoresMarks (part_last item follower)
unfolding part_last leaves is_list is_blank
ignores_part_last item follower = search (ignoring_parts, ignores_move_after, ignores_follower_of, ignores_handed_on) depth 7

pub ignores_normalize_sublists : (n : ℕ) → IgnoresMarks (normalize_sublists n)
unfolding normalize_sublists is_normalizable is_editable_for is_list
ignores_normalize_sublists n = search (ignoring_parts, ignores_part_last)

-- ---- indenting a list

ignores_nested : (list : List ℕ) (p : ℕ) → IgnoresMarks (nested list p)
unfolding nested
ignores_nested list p = search (ignoring_parts, ignores_wrap)

ignores_quoted : (list : List ℕ) → IgnoresMarks (quoted list)
unfolding quoted
ignores_quoted list = search (ignoring_parts, ignores_wrap, ignores_fix_ancestors)

ignores_indent_list : (list : List ℕ) → IgnoresMarks (indent_list list)
unfolding indent_list is_list
ignores_indent_list list = search (ignoring_parts, ignores_quoted, ignores_nested)

-- ---- outdenting a node

ignores_to_div : (n : ℕ) → IgnoresMarks (to_div n)
unfolding to_div
ignores_to_div n = search (ignoring_parts, ignores_set_tag_name)

ignores_unboxed : (n : ℕ) → IgnoresMarks (unboxed n)
unfolding unboxed
ignores_unboxed n = search (ignoring_parts, ignores_unset_style, ignores_to_div)

ignores_unindented : (n : ℕ) → IgnoresMarks (unindented n)
unfolding unindented
ignores_unindented n = search (ignoring_parts, ignores_remove_keeping_children, ignores_unboxed)

ignores_unwrapped : (n : ℕ) (children : List ℕ) → IgnoresMarks (unwrapped n children)
unfolding unwrapped
ignores_unwrapped n children = search (ignoring_parts, ignores_record_values, ignores_remove_keeping_children, ignores_restore_values)

ignores_released : (n : ℕ) (children : List ℕ) → IgnoresMarks (released n children)
unfolding released is_in_list is_list
ignores_released n children = search (ignoring_parts, ignores_to_div, ignores_unwrapped)

ignores_outdent_list : (n : ℕ) → IgnoresMarks (outdent_list n)
unfolding outdent_list
ignores_outdent_list n = search (ignoring_parts, ignores_released, ignores_fix_ancestors) depth 8

ignores_part_around : (e t : ℕ) → IgnoresMarks (part_around e t)
unfolding part_around break_next siblings_after
ignores_part_around e t = search (ignoring_parts, ignores_indent_list) depth 9

ignores_part_level : (n : ℕ) (below : Option ℕ) (e : ℕ) → IgnoresMarks (part_level n below e)
unfolding part_level child_on_way
ignores_part_level n below e = search (ignoring_parts, ignores_part_around)

ignores_part_levels : (n : ℕ) (list : List ℕ) → IgnoresMarks (part_levels n list)
unfolding part_levels
ignores_part_levels n [] = ignores_answer tt
ignores_part_levels n (e ∷ list) =
    ignores_bind (part_level n (first_in list) e) (λ _. part_levels n list) (ignores_part_level n (first_in list) e) (λ _. ignores_part_levels n list)

ignores_outdent_through : (n : ℕ) (way : List ℕ) (c : ℕ) → IgnoresMarks (outdent_through n way c)
unfolding outdent_through
ignores_outdent_through n way c = search (ignoring_parts, ignores_part_levels, ignores_unindented)

ignores_outdent_along : (n : ℕ) (way : List ℕ × Option ℕ) → IgnoresMarks (outdent_along n way)
unfolding outdent_along is_editable_for is_list
ignores_outdent_along n way = search (ignoring_parts, ignores_outdent_list, ignores_outdent_through)

pub ignores_outdent_node : (n : ℕ) → IgnoresMarks (outdent_node n)
unfolding outdent_node is_editable_for way_of way_by is_passed is_list
ignores_outdent_node n = search (ignoring_parts, ignores_unindented, ignores_outdent_along)

-- ---- indent and outdent

pub ignores_normalize_range : IgnoresMarks normalize_range
unfolding normalize_range range_items
ignores_normalize_range = search (ignoring_parts, ignores_normalize_sublists)

ignores_normalize_before : (list : List ℕ) → IgnoresMarks (normalize_before list)
unfolding normalize_before is_in_list is_list shown_before
ignores_normalize_before list = ignores_look _ (λ s. rw (first_visible_same s, last_visible_same s)) (λ s. search (ignoring_parts, ignores_normalize_sublists))

ignores_indent_nodes : (list : List ℕ) → IgnoresMarks (indent_nodes list)
unfolding indent_nodes
ignores_indent_nodes list = search (ignoring_parts, ignores_normalize_before, ignores_for_series, ignores_indent_list)

pub ignores_indent : IgnoresMarks indent
unfolding indent outermost is_indentable is_editable_for
ignores_indent = search (ignoring_parts, ignores_normalize_range, ignores_indent_nodes)

pub ignores_split_items : (list : List ℕ) → IgnoresMarks (split_items list)
unfolding split_items
ignores_split_items list = search (ignoring_parts, ignores_record_values, ignores_split_parent, ignores_fix_ancestors, ignores_restore_values)

ignores_outdent_series : (list : List ℕ) → IgnoresMarks (outdent_series list)
unfolding outdent_series is_lone is_list is_in_list
ignores_outdent_series list = search (ignoring_parts, ignores_outdent_node, ignores_split_items)

ignores_outdent_nodes : (list : List ℕ) → IgnoresMarks (outdent_nodes list)
unfolding outdent_nodes goes_on_items is_lone is_list is_in_list
ignores_outdent_nodes list = search (ignoring_parts, ignores_for_series, ignores_outdent_series)

pub ignores_outdent : IgnoresMarks outdent
unfolding outdent outermost is_outdentable is_editable_for has_editable_below is_list is_in_list
ignores_outdent = search (ignoring_parts, ignores_normalize_range, ignores_outdent_nodes)
