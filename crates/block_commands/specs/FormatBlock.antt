-- The command formatBlock (HTML Editing APIs, "the formatBlock command"): the lines of the active
-- range become blocks of a name. The steps are those of docs/ALGORITHMS.md.
use Rattle.std.specs.Prelude.{ℕ, ◌==◌, ◌-◌, nat_le, Bool, true, false, ◌&&◌, ◌||◌, not, List, [], map, length, take, drop, slice_index, Option, Some, None, bytes_eq, codes, if◌then◌else◌}
use Rattle.std.specs.Char.{to_ascii_lowercase}
use Rattle.std.specs.List.{list_any}
use Rattle.edit_model.specs.DomModel.declared.Content.{Content}
use Rattle.edit_model.specs.DomModel.Contents.{has_name, is_break}
use Rattle.edit_model.specs.DomModel.Forest.{Forest, parent_of, children_of, first_in}
use Rattle.edit_model.specs.HtmlNames.ElementNames as names
use Rattle.inline_value.specs.NodeStyles.Allowed.{allowed_in_name}
use Rattle.inline_value.specs.NodeStyles.Lineage.{Ancestor, lineage}
use Rattle.inline_value.specs.NodeStyles.NameClasses.{is_formattable_block, is_non_list_single_line, is_single_line}
use Rattle.edit_model.specs.State.{State}
use Rattle.edit_model.specs.Confined.{is_editable_for}
use Rattle.edit_model.specs.Run.{Run, ◌>>=◌, ◌>>◌, answer, done, look, given, for_each, while_at_most}
use Rattle.inline_value.specs.BlockExtend.Prohibited.{is_above_prohibited}
use Rattle.inline_value.specs.BlockExtend.Series.{is_next}
use Rattle.inline_value.specs.WrapSplit.declared.rule.Criterion.{Criterion}
use Rattle.inline_value.specs.WrapSplit.declared.rule.Criterion.TheVariants.{Never, Named}
use Rattle.inline_value.specs.WrapSplit.declared.rule.Recipe.TheVariants.{Make}
use Rattle.inline_value.specs.WrapSplit.Split.{split_around, remove_keeping_children}
use Rattle.inline_value.specs.WrapSplit.Walks.{turn_bound}
use Rattle.inline_value.specs.WrapSplit.Wrap.{wrap}
use Rattle.inline_value.specs.Ancestors.{fix_ancestors}
use Rattle.inline_value.specs.Recording.{record_values, restore_values}
use Rattle.inline_value.specs.Wrappers.{bare}
use Rattle.inline_value.specs.EditQuery.Gathered.{outermost}
use Rattle.block_commands.specs.Series.{take_series, in_turns}

-- ---- step 1: the name that the value gives

-- without a `<` and `>` around it
unfoldable pub unbracketed : List ℕ → List ℕ
unbracketed value =
    if nat_le 2 (length value)
    && ((slice_index value 0 == 60) && (slice_index value (length value - 1) == 62))
    then take (length value - 2) (drop 1 value)
    else value

unfoldable pub block_name : List ℕ → List ℕ
block_name value = map to_ascii_lowercase (unbracketed value)

-- ---- step 2: the nodes that are formatted

-- a line of its own but for li, or what may stand in a paragraph
unfoldable pub is_line : Forest Content → ℕ → Bool
is_line f l =
    is_non_list_single_line f l
    || (has_name f l (codes "dd") || (has_name f l (codes "dt") || allowed_in_name f l (codes "p")))

unfoldable pub is_formatted : State → ℕ → Bool
is_formatted s l = is_editable_for s l && (is_line s.trees l && not (is_above_prohibited s.trees l))

-- ---- step 3: they leave the blocks that they stand in

-- an editable block with no other block in it
unfoldable pub is_outer_block : State → ℕ → Bool
is_outer_block s e =
    is_editable_for s e && (is_formattable_block s.trees e && not (is_above_prohibited s.trees e))

abbrev pub lineage_at : Forest Content → Option ℕ → List Ancestor
lineage_at f None = []
lineage_at f (Some p) = lineage f p

-- an ancestor is one
unfoldable pub has_outer_block : State → ℕ → Bool
has_outer_block s n =
    list_any (λ k. is_outer_block s k.label) (lineage_at s.trees (parent_of s.trees n))

-- one node
unfoldable pub leave_blocks : ℕ → Run (Unit {0})
leave_blocks n = look λ s. while_at_most (turn_bound s) has_outer_block split_around n >> done

unfoldable pub split_blocks : List ℕ → Run (Unit {0})
split_blocks list = do
  values ← record_values list
  for_each list leave_blocks
  restore_values values

-- ---- step 4: they are wrapped, line by line

-- b: y goes on the line of x
unfoldable pub is_next_on_line : State → ℕ → ℕ → Bool
is_next_on_line s x y =
    is_next s.trees x y && (not (is_single_line s.trees y) && not (is_break s.trees x))

-- c: the criterion, which no sibling meets for div and p
abbrev pub same_block : List ℕ → Criterion
same_block name =
    if bytes_eq name (codes "div") || bytes_eq name (codes "p") then Never else Named name true

-- d
abbrev pub fixed : Option ℕ → Run (Unit {0})
fixed made = given made done fix_ancestors

-- c and d
unfoldable pub make_block : List ℕ → List ℕ → Run (Unit {0})
make_block name list = wrap (same_block name) (Make (bare name)) list >>= fixed

-- a and c to e: the container n goes, and its children are wrapped
unfoldable pub format_container : List ℕ → ℕ → Run (Unit {0})
format_container name n = look λ s. do
  values ← record_values (children_of s.trees n)
  remove_keeping_children n
  make_block name (children_of s.trees n)
  restore_values values

-- b to d: the line that the list begins with is wrapped, and the rest of the list is answered
unfoldable pub format_line : List ℕ → List ℕ → Run (List ℕ)
format_line name list = look λ s.
    let line = take_series (is_next_on_line s) list in
    make_block name line.0 >> answer line.1

-- one turn, which answers what is left of the list
unfoldable pub format_next : List ℕ → List ℕ → Run (List ℕ)
format_next name list = given (first_in list) (answer []) λ x. look λ s.
    if is_single_line s.trees x then (format_container name x >> answer (drop 1 list))
    else format_line name list

-- ---- the whole

-- steps 2 to 4, where the value names a block
unfoldable pub format_range : List ℕ → Run Bool
format_range name = look λ s. do
  split_blocks (outermost (is_formatted s) s)
  in_turns (format_next name) (outermost (is_formatted s) s)
  answer true

unfoldable pub format_block : List ℕ → Run Bool
format_block value =
    if names.is_formattable_block (block_name value) then format_range (block_name value)
    else answer false
