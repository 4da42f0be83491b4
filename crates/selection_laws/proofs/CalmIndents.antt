-- Indenting and outdenting place no point by themselves.
use Rattle.std.specs.Prelude.{ℕ, zero, suc, List, [], ◌∷◌}
use Rattle.list_indent.specs.Commands.{indent, indent_nodes, normalize_before, normalize_range, outdent, outdent_nodes, outdent_series, split_items}
use Rattle.list_indent.specs.Indenting.{indent_list, nested, quoted}
use Rattle.list_indent.specs.Outdenting.{outdent_along, outdent_list, outdent_node, outdent_through, part_around, part_level, part_levels, released, to_div, unboxed, unindented, unwrapped}
use Rattle.list_indent.specs.Series.{for_series, series_at_most}
use Rattle.list_indent.specs.Sublists.{follower_of, handed_on, make_follower, normalize_sublists, part_last}
use Rattle.edit_model.specs.Run.{Run}
use Rattle.edit_laws.proofs.HostRuns.{Calm, calm_parts, calm_answer, calm_bind, calm_look}
use Rattle.selection_laws.proofs.CalmMoves.{calm_insert_after, calm_move_after, calm_move_first, calm_set_tag_name}
use Rattle.selection_laws.proofs.CalmValues.{calm_fix_ancestors, calm_record_values, calm_restore_values, calm_unset_style}
use Rattle.selection_laws.proofs.CalmWraps.{calm_remove_keeping_children, calm_split_parent, calm_wrap}

pub calm_make_follower : (item : _) → Calm (make_follower item)
unfolding make_follower
calm_make_follower item = search (calm_parts, calm_insert_after)

pub calm_follower_of : (item : _) (follower : _) → Calm (follower_of item follower)
unfolding follower_of
calm_follower_of item follower = search (calm_parts, calm_make_follower)

pub calm_handed_on : (c : _) (x : _) → Calm (handed_on c x)
unfolding handed_on
calm_handed_on c x = search (calm_parts, calm_move_first)

pub calm_part_last : (item : _) (follower : _) → Calm (part_last item follower)
unfolding part_last
calm_part_last item follower = search (calm_parts, calm_move_after, calm_follower_of, calm_handed_on) depth 9

pub calm_normalize_sublists : (n : _) → Calm (normalize_sublists n)
unfolding normalize_sublists
calm_normalize_sublists n = search (calm_parts, calm_part_last)

pub calm_nested : (list : _) (p : _) → Calm (nested list p)
unfolding nested
calm_nested list p = search (calm_parts, calm_wrap)

pub calm_quoted : (list : _) → Calm (quoted list)
unfolding quoted
calm_quoted list = search (calm_parts, calm_fix_ancestors, calm_wrap)

pub calm_indent_list : (list : _) → Calm (indent_list list)
unfolding indent_list
calm_indent_list list = search (calm_parts, calm_nested, calm_quoted)

pub calm_to_div : (n : _) → Calm (to_div n)
unfolding to_div
calm_to_div n = search (calm_parts, calm_set_tag_name)

pub calm_unboxed : (n : _) → Calm (unboxed n)
unfolding unboxed
calm_unboxed n = search (calm_parts, calm_unset_style, calm_to_div)

pub calm_unindented : (n : _) → Calm (unindented n)
unfolding unindented
calm_unindented n = search (calm_parts, calm_unboxed, calm_remove_keeping_children)

pub calm_unwrapped : (n : _) (children : _) → Calm (unwrapped n children)
unfolding unwrapped
calm_unwrapped n children = search (calm_parts, calm_record_values, calm_restore_values, calm_remove_keeping_children)

pub calm_released : (n : _) (children : _) → Calm (released n children)
unfolding released
calm_released n children = search (calm_parts, calm_to_div, calm_unwrapped)

pub calm_outdent_list : (n : _) → Calm (outdent_list n)
unfolding outdent_list
calm_outdent_list n = search (calm_parts, calm_fix_ancestors, calm_released) depth 10

pub calm_part_around : (e : _) (t : _) → Calm (part_around e t)
unfolding part_around
calm_part_around e t = search (calm_parts, calm_indent_list) depth 9

pub calm_part_level : (n : _) (below : _) (e : _) → Calm (part_level n below e)
unfolding part_level
calm_part_level n below e = search (calm_parts, calm_part_around)

pub calm_part_levels : (a : _) (b : _) → Calm (part_levels a b)
unfolding part_levels
calm_part_levels n [] = calm_answer tt
calm_part_levels n (e ∷ list) = calm_bind _ _ (calm_part_level _ _ _) (λ _. calm_part_levels n list)

pub calm_outdent_through : (n : _) (way : _) (c : _) → Calm (outdent_through n way c)
unfolding outdent_through
calm_outdent_through n way c = search (calm_parts, calm_part_levels, calm_unindented)

pub calm_outdent_along : (n : _) (way : _) → Calm (outdent_along n way)
unfolding outdent_along
calm_outdent_along n way = search (calm_parts, calm_outdent_list, calm_outdent_through)

pub calm_outdent_node : (n : _) → Calm (outdent_node n)
unfolding outdent_node
calm_outdent_node n = search (calm_parts, calm_outdent_along, calm_unindented)

pub calm_series_at_most : (a : _) (b : _) (c : List ℕ → Run (Unit {0})) → ((y0 : _) → Calm (c y0)) → (d : _) → Calm (series_at_most a b c d)
unfolding series_at_most
calm_series_at_most zero on body calm list = calm_answer tt
calm_series_at_most (suc n) on body calm [] = calm_answer tt
calm_series_at_most (suc n) on body calm (x ∷ xs) =
    calm_look _ (λ s. calm_bind _ _ (calm _) (λ _. calm_series_at_most n on body calm _))

pub calm_for_series : (on : _) (body : List ℕ → Run (Unit {0})) → ((y0 : _) → Calm (body y0)) → (list : _) → Calm (for_series on body list)
unfolding for_series
calm_for_series on body calm list = search (calm_parts, calm_series_at_most, calm)

pub calm_normalize_range : Calm normalize_range
unfolding normalize_range
calm_normalize_range = search (calm_parts, calm_normalize_sublists)

pub calm_normalize_before : (list : _) → Calm (normalize_before list)
unfolding normalize_before
calm_normalize_before list = search (calm_parts, calm_normalize_sublists)

pub calm_indent_nodes : (list : _) → Calm (indent_nodes list)
unfolding indent_nodes
calm_indent_nodes list = search (calm_parts, calm_normalize_before, calm_indent_list, calm_for_series)

pub calm_indent : Calm indent
unfolding indent
calm_indent = search (calm_parts, calm_indent_nodes, calm_normalize_range)

pub calm_split_items : (list : _) → Calm (split_items list)
unfolding split_items
calm_split_items list = search (calm_parts, calm_fix_ancestors, calm_record_values, calm_restore_values, calm_split_parent) depth 9

pub calm_outdent_series : (list : _) → Calm (outdent_series list)
unfolding outdent_series
calm_outdent_series list = search (calm_parts, calm_split_items, calm_outdent_node)

pub calm_outdent_nodes : (list : _) → Calm (outdent_nodes list)
unfolding outdent_nodes
calm_outdent_nodes list = search (calm_parts, calm_outdent_series, calm_for_series)

pub calm_outdent : Calm outdent
unfolding outdent
calm_outdent = search (calm_parts, calm_normalize_range, calm_outdent_nodes)
