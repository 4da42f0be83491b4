-- What toggling lists does to lines and lists places no point by itself.
use Rattle.list_toggle.specs.Collecting.{collect_items, collect_next, make_item, wrap_line}
use Rattle.list_toggle.specs.Converting.{convert_list, move_items}
use Rattle.list_toggle.specs.Toggle.{enlist_next, place_items, release_all, release_series, toggle_off}
use Rattle.edit_laws.proofs.HostRuns.{Calm, calm_parts}
use Rattle.selection_laws.proofs.CalmIndents.{calm_for_series, calm_outdent_node, calm_split_items}
use Rattle.selection_laws.proofs.CalmMoves.{calm_set_tag_name}
use Rattle.selection_laws.proofs.CalmValues.{calm_fix_ancestors, calm_record_values, calm_restore_values}
use Rattle.selection_laws.proofs.CalmWraps.{calm_split_parent, calm_wrap}

pub calm_move_items : (criterion : _) (recipe : _) (items : _) → Calm (move_items criterion recipe items)
unfolding move_items
calm_move_items criterion recipe items = search (calm_parts, calm_record_values, calm_restore_values, calm_split_parent, calm_wrap) depth 9

pub calm_convert_list : (ordered : _) (l : _) → Calm (convert_list ordered l)
unfolding convert_list
calm_convert_list ordered l = search (calm_parts, calm_set_tag_name, calm_move_items)

pub calm_wrap_line : (list : _) → Calm (wrap_line list)
unfolding wrap_line
calm_wrap_line list = search (calm_parts, calm_wrap)

pub calm_make_item : (list : _) (x : _) → Calm (make_item list x)
unfolding make_item
calm_make_item list x = search (calm_parts, calm_set_tag_name, calm_wrap_line)

pub calm_collect_next : (c : _) → Calm (collect_next c)
unfolding collect_next
calm_collect_next c = search (calm_parts, calm_make_item)

pub calm_collect_items : (list : _) → Calm (collect_items list)
unfolding collect_items
calm_collect_items list = search (calm_parts, calm_collect_next)

pub calm_release_series : (ordered : _) (list : _) → Calm (release_series ordered list)
unfolding release_series
calm_release_series ordered list = search (calm_parts, calm_split_items, calm_outdent_node)

pub calm_release_all : (ordered : _) (list : _) → Calm (release_all ordered list)
unfolding release_all
calm_release_all ordered list = search (calm_parts, calm_for_series, calm_release_series)

pub calm_place_items : (ordered : _) (items : _) → Calm (place_items ordered items)
unfolding place_items
calm_place_items ordered items = search (calm_parts, calm_fix_ancestors, calm_move_items, calm_wrap) depth 9

pub calm_enlist_next : (ordered : _) (list : _) → Calm (enlist_next ordered list)
unfolding enlist_next
calm_enlist_next ordered list = search (calm_parts, calm_collect_items, calm_place_items)

pub calm_toggle_off : (ordered : _) → Calm (toggle_off ordered)
unfolding toggle_off
calm_toggle_off ordered = search (calm_parts, calm_release_all)
