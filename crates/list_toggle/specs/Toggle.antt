-- Toggling lists (HTML Editing APIs, "toggle lists"): the lines of the active range become items of
-- lists of a kind, or leave them. The steps are those of docs/ALGORITHMS.md. In each step a kind of
-- list is told by whether it is ordered.
use Rattle.std.specs.Prelude.{ℕ, Bool, true, false, not, ◌&&◌, ◌||◌, List, if◌then◌else◌}
use Rattle.std.specs.List.{list_all}
use Rattle.edit_model.specs.DomModel.Forest.{first_in}
use Rattle.inline_value.specs.BlockExtend.Series.{is_next}
use Rattle.inline_value.specs.Wrappers.{bare}
use Rattle.block_commands.specs.Series.{in_turns}
use Rattle.edit_model.specs.State.{State}
use Rattle.edit_model.specs.Run.{Run, ◌>>=◌, ◌>>◌, answer, done, look, given}
use Rattle.inline_value.specs.WrapSplit.declared.rule.Recipe.{Recipe}
use Rattle.inline_value.specs.WrapSplit.declared.rule.Recipe.TheVariants.{Make}
use Rattle.inline_value.specs.WrapSplit.Wrap.{wrap}
use Rattle.inline_value.specs.EditQuery.ListStates.{list_name, is_list_of, is_child_of, is_list_state, list_state}
use Rattle.list_indent.specs.Commands.{normalize_range, split_items}
use Rattle.list_indent.specs.Indenting.{fixed}
use Rattle.list_indent.specs.Outdenting.{outdent_node}
use Rattle.list_indent.specs.Series.{for_series}
use Rattle.list_indent.specs.Sublists.{is_list}
use Rattle.list_toggle.specs.Collecting.{collect_items}
use Rattle.list_toggle.specs.Converting.{of_kind, move_items, convert_lists}
use Rattle.list_toggle.specs.Ranges.{extended_range, range_members, range_lines}
use Rattle.list_toggle.specs.declared.toggling.ListKind.{ListKind}
use Rattle.list_toggle.specs.declared.toggling.ListKind.TheVariants.{Ordered, Unordered}

-- ---- step 5: the lines leave their lists

-- series of siblings end before a list of the kind, which is outdented alone
unfoldable pub goes_on_out : Bool → State → ℕ → ℕ → Bool
goes_on_out ordered s x y =
    is_next s.trees x y
    && (not (is_list_of ordered s.trees x) && not (is_list_of ordered s.trees y))

-- of one series
unfoldable pub release_series : Bool → List ℕ → Run (Unit {0})
release_series ordered list = given (first_in list) done λ x. look λ s.
    if is_list_of ordered s.trees x then outdent_node x else split_items list

-- series by series
unfoldable pub release_all : Bool → List ℕ → Run (Unit {0})
release_all ordered list = for_series (goes_on_out ordered) (release_series ordered) list

-- ---- step 6: the lines become items of lists of the kind

-- the recipe in c and d: a new list of the kind
abbrev pub new_list : Bool → Recipe
new_list ordered = Make (bare (list_name ordered))

-- steps 6 b to d, where a is the first item: items that stand in such a list, or that all are lists,
-- stay; those in a list of the other kind leave it
unfoldable pub place_items : Bool → List ℕ → Run (Unit {0})
place_items ordered items = given (first_in items) done λ a. look λ s.
    if is_child_of ordered s.trees a || list_all (is_list s) items then done
    else (if is_child_of (not ordered) s.trees a
    then move_items (of_kind ordered) (new_list ordered) items
    else (wrap (of_kind ordered) (new_list ordered) items >>= fixed))

-- one turn, which answers what is left of the list
unfoldable pub enlist_next : Bool → List ℕ → Run (List ℕ)
enlist_next ordered list = do
  collected ← collect_items list
  place_items ordered collected.0
  answer collected.1

-- ---- the whole

-- steps 2, 4 and 5
unfoldable pub toggle_off : Bool → Run (Unit {0})
toggle_off ordered = look λ s. release_all ordered (range_members s (extended_range s))

-- steps 2 to 4 and 6
unfoldable pub toggle_on : Bool → Run (Unit {0})
toggle_on ordered = do
  range ← convert_lists ordered
  look λ s. in_turns (enlist_next ordered) (range_lines s range)

abbrev pub is_ordered : ListKind → Bool
is_ordered Ordered = true
is_ordered Unordered = false

-- whether the lines stand in lists of the kind is asked before the first step changes something
unfoldable pub toggle_lists : ListKind → Run Bool
toggle_lists kind = look λ s. do
  normalize_range
  if is_list_state (is_ordered kind) (list_state s s.host)
      then toggle_off (is_ordered kind) else toggle_on (is_ordered kind)
  answer true
