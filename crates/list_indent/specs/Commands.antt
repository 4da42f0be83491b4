-- The commands indent and outdent (HTML Editing APIs, "the indent command", "the outdent command").
-- The steps are those of docs/ALGORITHMS.md.
use Rattle.std.specs.Prelude.{ℕ, Bool, true, ◌||◌, ◌&&◌, not, List, [], ◌++◌, map, filter, reverse, codes, Option, if◌then◌else◌}
use Rattle.std.specs.Option.{option_and_then, option_map_or}
use Rattle.edit_model.specs.DomModel.declared.Content.{Content}
use Rattle.edit_model.specs.DomModel.Contents.{has_name}
use Rattle.edit_model.specs.DomModel.Forest.{Forest, parent_of, children_of, first_in}
use Rattle.edit_model.specs.PointOrder.PointOrder.{is_within}
use Rattle.inline_value.specs.NodeStyles.Allowed.{allowed_in_name}
use Rattle.inline_value.specs.NodeStyles.Lineage.{lineage}
use Rattle.edit_model.specs.State.{State}
use Rattle.edit_model.specs.Confined.{is_editable_for}
use Rattle.edit_model.specs.Run.{Run, ◌>>=◌, ◌>>◌, answer, done, look, given, for_each}
use Rattle.inline_value.specs.EditActions.ActiveRange.{start_of, end_of}
use Rattle.inline_value.specs.EditActions.Siblings.{until}
use Rattle.inline_value.specs.EditQuery.Gathered.{outermost}
use Rattle.inline_value.specs.WrapSplit.Split.{split_parent}
use Rattle.inline_value.specs.WrapSplit.Wrap.{first_visible, last_visible}
use Rattle.inline_value.specs.Ancestors.{fix_ancestors}
use Rattle.inline_value.specs.Recording.{record_values, restore_values}
use Rattle.inline_value.specs.BlockExtend.Descendants.{has_descendant}
use Rattle.inline_value.specs.BlockExtend.Series.{is_next}
use Rattle.list_indent.specs.Series.{for_series}
use Rattle.list_indent.specs.Sublists.{is_list, is_item, is_in_list, normalize_sublists}
use Rattle.list_indent.specs.Indenting.{indent_list}
use Rattle.list_indent.specs.Outdenting.{outdent_node}

-- ---- indent and outdent, step 1: the items around the ends of the active range

-- the items among a node and its ancestors, in tree order
unfoldable pub items_over : Forest Content → ℕ → List ℕ
items_over f n =
    filter (λ l. has_name f l (codes "li")) (reverse (map (λ k. k.label) (lineage f n)))

-- the items around two nodes of which the first isn't after the second, in tree order: those around
-- the first, and then those around the second alone
unfoldable pub items_around : Forest Content → ℕ → ℕ → List ℕ
items_around f start end =
    items_over f start ++ filter (λ l. not (is_within f l start)) (items_over f end)

-- the items around the ends of the active range
unfoldable pub range_items : State → List ℕ
range_items s = option_map_or
    (λ pair. items_around s.trees (start_of s.trees pair).label (end_of s.trees pair).label)
    s.points.selection []

-- the sublists of each of them are normalized, in order
unfoldable pub normalize_range : Run (Unit {0})
normalize_range = look λ s. for_each (range_items s) normalize_sublists

-- ---- indent

-- indent, step 2: an editable node that may stand in a div or an ol
unfoldable pub is_indentable : State → ℕ → Bool
is_indentable s n =
    is_editable_for s n
    && (allowed_in_name s.trees n (codes "div") || allowed_in_name s.trees n (codes "ol"))

-- indent, step 3: the last visible sibling before n
unfoldable pub shown_before : State → ℕ → Option ℕ
shown_before s n =
    option_and_then (λ p. last_visible s (until n (children_of s.trees p))) (parent_of s.trees n)

-- indent, step 3, where n is the first visible member
unfoldable pub normalize_before : List ℕ → Run (Unit {0})
normalize_before list = look λ s. given (first_visible s list) done λ n.
    if is_item s n && is_in_list s n then given (shown_before s n) done normalize_sublists else done

-- indent, step 4: series of siblings
abbrev pub goes_on : State → ℕ → ℕ → Bool
goes_on s x y = is_next s.trees x y

-- indent, steps 3 and 4
unfoldable pub indent_nodes : List ℕ → Run (Unit {0})
indent_nodes list = do
  normalize_before list
  for_series goes_on indent_list list

-- indent, steps 1 to 4
unfoldable pub indent : Run Bool
indent = do
  normalize_range
  look λ s. indent_nodes (outermost (is_indentable s) s)
  answer true

-- ---- outdent

-- a descendant of n is editable
unfoldable pub has_editable_below : State → ℕ → Bool
has_editable_below s n = has_descendant (is_editable_for s) s.trees n

-- outdent, step 2: an editable node without editable descendants, or a list, or an item of a list
unfoldable pub is_outdentable : State → ℕ → Bool
is_outdentable s n =
    is_editable_for s n
    && (not (has_editable_below s n) || (is_list s n || (is_item s n && is_in_list s n)))

-- outdent, step 3: a member that is outdented alone, a list or what stands in none
unfoldable pub is_lone : State → ℕ → Bool
is_lone s n = is_list s n || not (is_in_list s n)

-- others are taken in series, which end before a list
unfoldable pub goes_on_items : State → ℕ → ℕ → Bool
goes_on_items s x y = is_next s.trees x y && (not (is_lone s x) && not (is_list s y))

-- outdent, step 3: items leave their list
unfoldable pub split_items : List ℕ → Run (Unit {0})
split_items list = do
  values ← record_values list
  split_parent list
  for_each list fix_ancestors
  restore_values values

-- outdent, step 3, one turn: the first member alone, or a series that begins with it
unfoldable pub outdent_series : List ℕ → Run (Unit {0})
outdent_series list = given (first_in list) done λ x. look λ s.
    if is_lone s x then outdent_node x else split_items list

-- outdent, step 3: series by series
unfoldable pub outdent_nodes : List ℕ → Run (Unit {0})
outdent_nodes list = for_series goes_on_items outdent_series list

-- outdent, steps 1 to 3
unfoldable pub outdent : Run Bool
outdent = do
  normalize_range
  look λ s. outdent_nodes (outermost (is_outdentable s) s)
  answer true
