-- Toggling lists keeps to the grammar.
use Rattle.std.proofs.Common.{◌≡◌, ℕ, Bool, true, false, List}
use Rattle.inline_value.specs.WrapSplit.declared.rule.Recipe.TheVariants.{Nothing}
use Rattle.inline_value.specs.WrapSplit.Wrap.{wrap}
use Rattle.list_toggle.specs.Converting.{of_kind, move_items, convert_list, convert_each, convert_lists}
use Rattle.inline_value.specs.EditQuery.ListStates.{list_name}
use Rattle.list_toggle.specs.Ranges.{RangeEnds, keep_range}
use Rattle.list_toggle.specs.declared.toggling.ListKind.{ListKind}
use Rattle.list_toggle.specs.Toggle.{goes_on_out, release_series, release_all, new_list, place_items, enlist_next, toggle_off, toggle_on, toggle_lists}
use Rattle.making_laws.specs.Names.{is_made_name}
use Rattle.grammar_laws.specs.Runs.{Proper}
use Rattle.grammar_laws.proofs.Lists.{list_none}
use Rattle.grammar_laws.proofs.IndentRuns.{made_ol, made_ul, proper_fixed, proper_outdent_node, proper_range, proper_series, proper_split_items}
use Rattle.grammar_laws.proofs.CollectRuns.{proper_collect}
use Rattle.grammar_laws.proofs.ProperRuns.{proper_parts}
use Rattle.grammar_laws.proofs.PushingRuns.{proper_recorded, proper_restore_values}
use Rattle.grammar_laws.proofs.Splits.{proper_split}
use Rattle.grammar_laws.proofs.Wraps.{proper_wrap, proper_wrap_found}

proper_keep_range : (range : RangeEnds) → Proper (keep_range range)
unfolding keep_range
proper_keep_range range = search proper_parts

-- ---- names

made_list : (ordered : Bool) → is_made_name (list_name ordered) ≡ true
made_list true = made_ol
made_list false = made_ul

-- ---- lists of the other kind

proper_join : (ordered : Bool) (children : List ℕ) → Proper (move_items (of_kind ordered) Nothing children)
unfolding move_items
proper_join ordered children = search (proper_recorded, proper_parts, proper_split, proper_wrap_found, proper_restore_values)

proper_convert : (ordered : Bool) (l : ℕ) → Proper (convert_list ordered l)
unfolding convert_list
proper_convert ordered l = search (proper_parts, made_list, proper_join) depth 8

proper_convert_each : (ordered : Bool) (range : RangeEnds) (lists : List ℕ) → Proper (convert_each ordered range lists)
unfolding convert_each
proper_convert_each ordered range lists = search (proper_parts, proper_keep_range, proper_convert) depth 8

proper_convert_lists : (ordered : Bool) → Proper (convert_lists ordered)
unfolding convert_lists
proper_convert_lists ordered = search (proper_parts, proper_convert_each)

-- ---- off

proper_release_series : (ordered : Bool) (list : List ℕ) → Proper (release_series ordered list)
unfolding release_series
proper_release_series ordered list = search (proper_parts, proper_outdent_node, proper_split_items)

proper_release_all : (ordered : Bool) (list : List ℕ) → Proper (release_all ordered list)
unfolding release_all
proper_release_all ordered list = proper_series (goes_on_out ordered) (release_series ordered) (proper_release_series ordered) list

proper_toggle_off : (ordered : Bool) → Proper (toggle_off ordered)
unfolding toggle_off
proper_toggle_off ordered = search (proper_parts, proper_release_all)

-- ---- on

proper_wrap_list : (ordered : Bool) (items : List ℕ) → Proper (wrap (of_kind ordered) (new_list ordered) items)
proper_wrap_list ordered items = proper_wrap (of_kind ordered) (new_list ordered) (made_list ordered, list_none) items

proper_move_list : (ordered : Bool) (items : List ℕ) → Proper (move_items (of_kind ordered) (new_list ordered) items)
unfolding move_items
proper_move_list ordered items = search (proper_recorded, proper_parts, proper_split, proper_wrap_list, proper_restore_values)

proper_place_items : (ordered : Bool) (items : List ℕ) → Proper (place_items ordered items)
unfolding place_items
proper_place_items ordered items = search (proper_parts, proper_move_list, proper_wrap_list, proper_fixed) depth 8

proper_enlist_next : (ordered : Bool) (list : List ℕ) → Proper (enlist_next ordered list)
unfolding enlist_next
proper_enlist_next ordered list = search (proper_parts, proper_collect, proper_place_items)

proper_toggle_on : (ordered : Bool) → Proper (toggle_on ordered)
unfolding toggle_on
proper_toggle_on ordered = search (proper_parts, proper_convert_lists, proper_enlist_next) depth 9

pub proper_toggle_lists : (kind : ListKind) → Proper (toggle_lists kind)
unfolding toggle_lists
proper_toggle_lists kind = search (proper_parts, proper_range, proper_toggle_off, proper_toggle_on) depth 8
