-- The single-line container that a new paragraph parts (HTML Editing APIs, "the insertParagraph
-- command", steps 3 and 4). The steps are those of docs/ALGORITHMS.md.
use Rattle.std.specs.Prelude.{ℕ, zero, suc, Bool, false, ◌||◌, ◌&&◌, List, [], ◌∷◌, codes, Option, Some, None, if◌then◌else◌}
use Rattle.std.specs.List.{find}
use Rattle.std.specs.Option.{option_map_or, option_and_then}
use Rattle.edit_model.specs.DomModel.Contents.{has_name}
use Rattle.edit_model.specs.DomModel.Forest.{parent_of, next_of}
use Rattle.edit_model.specs.LiveRange.declared.places.Pair.{Pair}
use Rattle.edit_model.specs.LiveRange.declared.places.Point.{Point}
use Rattle.inline_value.specs.NodeStyles.Allowed.{allowed_in_name, name_allowed_in}
use Rattle.inline_value.specs.NodeStyles.NameClasses.{is_single_line}
use Rattle.edit_model.specs.State.{State}
use Rattle.edit_model.specs.Confined.{is_editable_for}
use Rattle.edit_model.specs.Run.{Run, ◌>>=◌, ◌>>◌, answer, look, given, make_element, collapse}
use Rattle.inline_value.specs.EditActions.ActiveRange.{start_of, end_of}
use Rattle.inline_value.specs.EditQuery.Leaves.{nodes_in}
use Rattle.inline_value.specs.EditQuery.Rows.{container_name}
use Rattle.inline_value.specs.WrapSplit.declared.rule.Blank.{Blank}
use Rattle.inline_value.specs.WrapSplit.declared.rule.Criterion.TheVariants.{Never}
use Rattle.inline_value.specs.WrapSplit.declared.rule.Recipe.TheVariants.{Make}
use Rattle.inline_value.specs.WrapSplit.Walks.{walk, turn_bound}
use Rattle.inline_value.specs.WrapSplit.Wrap.{wrap, append_break, list_on}
use Rattle.inline_value.specs.BlockExtend.BlockExtend.{block_extend}
use Rattle.delete_core.specs.Places.{start_in}
use Rattle.text_insertion.specs.Entries.{is_entry}
use Rattle.text_insertion.specs.Start.{active_start, insert_at_start}

-- ---- insert a paragraph, step 3: up from a node, as long as the parent is editable

abbrev pub if_editable : State → Option ℕ → Option ℕ
if_editable s None = None
if_editable s (Some l) = if is_editable_for s l then Some l else None

-- step 3: to a single-line container
unfoldable pub up_to_container : State → ℕ → Option ℕ
up_to_container s l = if is_single_line s.trees l then None else if_editable s (parent_of s.trees l)

-- insert a paragraph, step 3: as far up as it goes
unfoldable pub nearest_container : State → ℕ → ℕ
nearest_container s l = walk (up_to_container s) (turn_bound s) l

-- step 3: to an entry of a list
unfoldable pub up_to_entry : State → ℕ → Option ℕ
up_to_entry s l = if is_entry s l then None else if_editable s (parent_of s.trees l)

-- insert a paragraph, step 3: as far up as it goes, to an entry
unfoldable pub nearest_entry : State → ℕ → ℕ
nearest_entry s l = walk (up_to_entry s) (turn_bound s) l

-- step 3: a p or div gives way to the entry in which it stands
unfoldable pub is_plain_block : State → ℕ → Bool
is_plain_block s c =
    is_editable_for s c && (has_name s.trees c (codes "p") || has_name s.trees c (codes "div"))

unfoldable pub entry_over : State → ℕ → ℕ
entry_over s c =
    if is_plain_block s c && is_entry s (nearest_entry s c) then nearest_entry s c else c

-- step 3
unfoldable pub container_of : State → ℕ → ℕ
container_of s l = entry_over s (nearest_container s l)

-- ---- insert a paragraph, step 4: a line without a container of its own gets one

unfoldable pub is_own_container : State → ℕ → Bool
is_own_container s c = is_editable_for s c && is_single_line s.trees c

-- step 4: an editable node that may stand in a paragraph
unfoldable pub is_line_content : State → ℕ → Bool
is_line_content s n = is_editable_for s n && allowed_in_name s.trees n (codes "p")

abbrev pub first_between : State → Point × Point → Option ℕ
first_between s range = find (is_line_content s) (nodes_in s.trees range)

abbrev pub first_around : State → Pair → Option ℕ
first_around s pair =
    first_between s (block_extend s.trees (start_of s.trees pair) (end_of s.trees pair))

-- step 4: the first one in the block-extended range
unfoldable pub first_content : State → Option ℕ
first_content s = option_and_then (first_around s) s.points.selection

-- step 4, where there is none: an empty container at the start of the active range
unfoldable pub make_container : Run ℕ
make_container = look λ s. do
  c ← make_element (container_name s.flags.paragraphs) []
  append_break c
  answer c

-- insert a paragraph, step 4: it is inserted, with the caret at the start of it
unfoldable pub insert_container : Run (Unit {0})
insert_container = do
  c ← make_container
  insert_at_start c
  collapse (start_in c)

-- insert a paragraph, step 4: it may stand there
unfoldable pub takes_container : State → Bool
takes_container s =
    option_map_or (λ p. name_allowed_in (container_name s.flags.paragraphs) s.trees p.label)
    (active_start s) false

-- insert a paragraph, step 4, where nothing can be wrapped: this ends the algorithm
unfoldable pub add_container : Run (Option ℕ)
add_container =
    look λ s. if takes_container s then (insert_container >> answer None) else answer None

-- step 4: the siblings after z that may stand in a paragraph, one a turn
abbrev pub if_paragraph_child : State → Option ℕ → Option ℕ
if_paragraph_child s None = None
if_paragraph_child s (Some k) = if allowed_in_name s.trees k (codes "p") then Some k else None

unfoldable pub contents_after : State → ℕ → ℕ → List ℕ
contents_after s zero z = []
contents_after s (suc n) z =
    list_on (if_paragraph_child s (next_of s.trees z)) [] λ q. q ∷ contents_after s n q

-- insert a paragraph, step 4: the line that begins with k
unfoldable pub contents_from : State → ℕ → List ℕ
contents_from s k = k ∷ contents_after s (turn_bound s) k

-- step 4: the line that begins with k is wrapped
abbrev pub plain_container : State → Blank
plain_container s = record { name = container_name s.flags.paragraphs; attributes = [] }

-- insert a paragraph, step 4: that line is wrapped
unfoldable pub wrap_line : ℕ → Run (Option ℕ)
wrap_line k = look λ s. wrap Never (Make (plain_container s)) (contents_from s k)

-- insert a paragraph, step 4: a line is wrapped, or an empty container is put there
unfoldable pub make_line : Run (Option ℕ)
make_line = look λ s. given (first_content s) add_container wrap_line

-- step 4: it answers the container, or none where it ends the algorithm
unfoldable pub own_container : ℕ → Run (Option ℕ)
own_container c = look λ s. if is_own_container s c then answer (Some c) else make_line
