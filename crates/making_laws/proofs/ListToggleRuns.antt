-- Toggling lists is tame.
use Rattle.std.proofs.Common.{◌≡◌, ℕ, Bool, true, false, List}
use Rattle.inline_value.specs.WrapSplit.declared.rule.Recipe.TheVariants.{Nothing}
use Rattle.inline_value.specs.WrapSplit.Wrap.{wrap}
use Rattle.list_toggle.specs.Converting.{of_kind, move_items, convert_list, convert_each, convert_lists}
use Rattle.inline_value.specs.EditQuery.ListStates.{list_name}
use Rattle.list_toggle.specs.Ranges.{RangeEnds, keep_range}
use Rattle.list_toggle.specs.declared.toggling.ListKind.{ListKind}
use Rattle.list_toggle.specs.Toggle.{goes_on_out, release_series, release_all, new_list, place_items, enlist_next, toggle_off, toggle_on, toggle_lists}
use Rattle.making_laws.specs.Names.{is_made_name}
use Rattle.making_laws.specs.Tame.{Tame}
use Rattle.making_laws.proofs.IndentRuns.{made_ol, made_ul, tame_fixed, tame_outdent_node, tame_range, tame_series, tame_split_items}
use Rattle.making_laws.proofs.CollectRuns.{tame_collect}
use Rattle.making_laws.proofs.TameRuns.{tame_parts}
use Rattle.making_laws.proofs.PushingRuns.{tame_record_values, tame_restore_values}
use Rattle.making_laws.proofs.Splits.{tame_split}
use Rattle.making_laws.proofs.Wraps.{tame_wrap, tame_wrap_found}

tame_keep_range : (range : RangeEnds) → Tame (keep_range range)
unfolding keep_range
tame_keep_range range = search tame_parts

-- ---- names

made_list : (ordered : Bool) → is_made_name (list_name ordered) ≡ true
made_list true = made_ol
made_list false = made_ul

-- ---- lists of the other kind

tame_join : (ordered : Bool) (children : List ℕ) → Tame (move_items (of_kind ordered) Nothing children)
unfolding move_items
tame_join ordered children = search (tame_parts, tame_record_values, tame_split, tame_wrap_found, tame_restore_values)

tame_convert : (ordered : Bool) (l : ℕ) → Tame (convert_list ordered l)
unfolding convert_list
tame_convert ordered l = search (tame_parts, made_list, tame_join) depth 8

tame_convert_each : (ordered : Bool) (range : RangeEnds) (lists : List ℕ) → Tame (convert_each ordered range lists)
unfolding convert_each
tame_convert_each ordered range lists = search (tame_parts, tame_keep_range, tame_convert) depth 8

tame_convert_lists : (ordered : Bool) → Tame (convert_lists ordered)
unfolding convert_lists
tame_convert_lists ordered = search (tame_parts, tame_convert_each)

-- ---- off

tame_release_series : (ordered : Bool) (list : List ℕ) → Tame (release_series ordered list)
unfolding release_series
tame_release_series ordered list = search (tame_parts, tame_outdent_node, tame_split_items)

tame_release_all : (ordered : Bool) (list : List ℕ) → Tame (release_all ordered list)
unfolding release_all
tame_release_all ordered list = tame_series (goes_on_out ordered) (release_series ordered) (tame_release_series ordered) list

tame_toggle_off : (ordered : Bool) → Tame (toggle_off ordered)
unfolding toggle_off
tame_toggle_off ordered = search (tame_parts, tame_release_all)

-- ---- on

tame_wrap_list : (ordered : Bool) (items : List ℕ) → Tame (wrap (of_kind ordered) (new_list ordered) items)
tame_wrap_list ordered items = tame_wrap (of_kind ordered) (new_list ordered) (made_list ordered, tt) items

tame_move_list : (ordered : Bool) (items : List ℕ) → Tame (move_items (of_kind ordered) (new_list ordered) items)
unfolding move_items
tame_move_list ordered items = search (tame_parts, tame_record_values, tame_split, tame_wrap_list, tame_restore_values)

tame_place_items : (ordered : Bool) (items : List ℕ) → Tame (place_items ordered items)
unfolding place_items
tame_place_items ordered items = search (tame_parts, tame_move_list, tame_wrap_list, tame_fixed) depth 8

tame_enlist_next : (ordered : Bool) (list : List ℕ) → Tame (enlist_next ordered list)
unfolding enlist_next
tame_enlist_next ordered list = search (tame_parts, tame_collect, tame_place_items)

tame_toggle_on : (ordered : Bool) → Tame (toggle_on ordered)
unfolding toggle_on
tame_toggle_on ordered = search (tame_parts, tame_convert_lists, tame_enlist_next) depth 9

pub tame_toggle_lists : (kind : ListKind) → Tame (toggle_lists kind)
unfolding toggle_lists
tame_toggle_lists kind = search (tame_parts, tame_range, tame_toggle_off, tame_toggle_on) depth 8
