-- Merging the blocks of the two ends after a deletion (HTML Editing APIs, "delete the selection",
-- steps 9 to 15). The steps are those of docs/ALGORITHMS.md. Each of the three ways of merging
-- answers the values to restore, or none where it ends the deletion.
use Rattle.std.specs.Prelude.{ℕ, zero, suc, ◌==◌, Bool, false, ◌||◌, ◌&&◌, not, List, [], ◌∷◌, map, Option, Some, None, is_none, is_some, codes, if◌then◌else◌}
use Rattle.std.specs.List.{find}
use Rattle.std.specs.Option.{option_map_or}
use Rattle.edit_model.specs.DomModel.declared.Content.{Content}
use Rattle.edit_model.specs.DomModel.Contents.{has_name, is_break}
use Rattle.edit_model.specs.DomModel.Forest.{Forest, parent_of, prev_of, next_of, first_of, last_of, children_of}
use Rattle.edit_model.specs.DomModel.Places.{index_of}
use Rattle.inline_value.specs.NodeStyles.Blocks.{is_block}
use Rattle.inline_value.specs.NodeStyles.Lineage.{lineage}
use Rattle.inline_value.specs.NodeTests.BlockProps.{is_block_prop}
use Rattle.edit_model.specs.PointOrder.PointOrder.{is_ancestor, child_toward}
use Rattle.edit_model.specs.State.{State}
use Rattle.edit_model.specs.Confined.{is_editable_for, is_inside}
use Rattle.edit_model.specs.Moves.{make_break, insert_after, move_each_last}
use Rattle.edit_model.specs.Run.{Run, ◌>>=◌, ◌>>◌, answer, done, look, given, while_at_most, remove, collapse}
use Rattle.inline_value.specs.WrapSplit.Walks.{turn_bound}
use Rattle.inline_value.specs.Recording.{Recorded, values_of, restore_values}
use Rattle.inline_value.specs.WrapSplit.Breaks.{breaks_at_end}
use Rattle.inline_value.specs.WrapSplit.Split.{split_parent}
use Rattle.inline_value.specs.WrapSplit.Wrap.{append_break, is_inline, list_on}
use Rattle.delete_core.specs.Ends.{collapse_selection}
use Rattle.delete_core.specs.Erasing.{removed_up}
use Rattle.delete_core.specs.Places.{at, end_in}

-- ---- lines: inline siblings up to a br

abbrev pub if_inline : State → Option ℕ → Option ℕ
if_inline s None = None
if_inline s (Some k) = if is_block s.trees k then None else Some k

-- the node after one that is no br, where it is inline
abbrev pub next_in_line : State → ℕ → Option ℕ
next_in_line s z = if is_break s.trees z then None else if_inline s (next_of s.trees z)

-- the inline siblings after z, one a turn, up to a br
unfoldable pub line_after : State → ℕ → ℕ → List ℕ
line_after s zero z = []
line_after s (suc n) z = list_on (next_in_line s z) [] λ q. q ∷ line_after s n q

-- delete the selection, step 11 d: the line that begins with k
unfoldable pub line_from : State → ℕ → List ℕ
line_from s k = k ∷ line_after s (turn_bound s) k

-- step 12: the line that begins with a node, if there is one and it is inline
unfoldable pub line_at : State → Option ℕ → List ℕ
line_at s o = list_on (if_inline s o) [] (line_from s)

-- ---- delete the selection, step 10: the one child of b that only holds its line open
unfoldable pub drop_prop : ℕ → Run (Unit {0})
drop_prop b = look λ s. given (first_of s.trees b) done λ k.
    if is_none (next_of s.trees k) && is_block_prop s.trees k then remove k >> done else done

-- ---- delete the selection, step 11: b is an ancestor of c

-- it has a parent other than b
unfoldable pub is_apart : ℕ → State → ℕ → Bool
is_apart b s l = option_map_or (λ p. not (p == b)) (parent_of s.trees l) false

-- step 11 b: the one child of a parent other than b
unfoldable pub is_sole : ℕ → State → ℕ → Bool
is_sole b s c =
    is_editable_for s c
    && (is_none (prev_of s.trees c) && (is_none (next_of s.trees c) && is_apart b s c))

-- delete the selection, step 11 b: c goes, and its former parent is the next c
unfoldable pub drop_sole : ℕ → Run ℕ
drop_sole c = look λ s. given (parent_of s.trees c) (answer c) λ p. remove c >> answer p

-- step 11 b: a new br, where lines before and after a block would join once it goes
unfoldable pub parts_lines : State → ℕ → Bool
parts_lines s c =
    is_editable_for s c
    && (is_block s.trees c
    && (is_inline s (prev_of s.trees c) && is_inline s (next_of s.trees c)))

-- delete the selection, step 11 b: that br, just after c
unfoldable pub part_lines : ℕ → Run (Unit {0})
part_lines c = look λ s. if parts_lines s c then (make_break >>= insert_after c) else done

-- delete the selection, step 11 b: an editable c goes
unfoldable pub remove_own : ℕ → Run (Unit {0})
remove_own c = look λ s. if is_editable_for s c then remove c >> done else done

-- delete the selection, step 11 b: the br, and then c
unfoldable pub drop_parted : ℕ → Run (Unit {0})
drop_parted c = part_lines c >> remove_own c

-- delete the selection, step 11 b: as long as c is such a child
unfoldable pub drop_soles : ℕ → ℕ → Run ℕ
drop_soles b c = look λ s. while_at_most (turn_bound s) (is_sole b) drop_sole c

-- step 11 b
unfoldable pub drop_block : ℕ → ℕ → Run (Unit {0})
drop_block b c = drop_soles b c >>= drop_parted

-- step 11 e: the line that begins with k is taken out of its parent
unfoldable pub split_line : List ℕ → ℕ → Run ℕ
split_line list k = split_parent list >> answer k

-- delete the selection, step 11 e: while the first of the line has another parent than b
unfoldable pub split_out : ℕ → List ℕ → ℕ → Run (Unit {0})
split_out b list k = look λ s. while_at_most (turn_bound s) (is_apart b) (split_line list) k >> done

-- step 11 f
unfoldable pub drop_break_before : ℕ → Run (Unit {0})
drop_break_before k = look λ s. given (prev_of s.trees k) done λ r.
    if is_editable_for s r && is_break s.trees r then remove r >> done else done

-- steps 11 d to 11 f, where k is the first child of c
unfoldable pub take_out_line : ℕ → ℕ → Run (Option (List Recorded))
take_out_line b k = look λ s. do
  split_out b (line_from s k) k
  drop_break_before k
  answer (Some (values_of s (line_from s k)))

-- step 11 c, and then from 11 d on
unfoldable pub take_line : ℕ → ℕ → Run (Option (List Recorded))
take_line b k = look λ s. if is_block s.trees k then answer None else take_out_line b k

-- steps 11 b to 11 f
unfoldable pub merge_content : ℕ → ℕ → Run (Option (List Recorded))
merge_content b c =
    look λ s. given (first_of s.trees c) (drop_block b c >> answer None) (take_line b)

-- step 11 a, and then from 11 b on
unfoldable pub merge_inner : ℕ → ℕ → Run (Option (List Recorded))
merge_inner b c = look λ s. given (child_toward s.trees b c) (answer None) λ q.
    collapse (at b (index_of s.trees q)) >> merge_content b c

-- ---- delete the selection, step 12: b is a descendant of c

-- steps 12 and 13: a br at the end of b goes, where what comes after it there is inline
unfoldable pub drop_last_break : ℕ → Option ℕ → Run (Unit {0})
drop_last_break b after = look λ s. given (last_of s.trees b) done λ z.
    if is_inline s after && is_break s.trees z then remove z >> done else done

-- delete the selection, step 12: the line after q goes to the end of b
unfoldable pub take_following : ℕ → ℕ → Run (Option (List Recorded))
take_following b q = look λ s.
    move_each_last (line_at s (next_of s.trees q)) b
    >> answer (Some (values_of s (line_at s (next_of s.trees q))))

-- delete the selection, step 12
unfoldable pub merge_outer : ℕ → ℕ → Run (Option (List Recorded))
merge_outer b c = look λ s. given (child_toward s.trees c b) (answer None) λ q. do
  collapse (end_in s.trees b)
  drop_last_break b (next_of s.trees q)
  take_following b q

-- ---- delete the selection, step 13: neither stands in the other

abbrev pub is_emptied : State → Option ℕ → Bool
is_emptied s None = false
is_emptied s (Some c) = is_editable_for s c && is_none (first_of s.trees c)

-- delete the selection, step 13: an editable c without children goes, and so on up
unfoldable pub drop_emptied : ℕ → Run (Unit {0})
drop_emptied c = look λ s. while_at_most (turn_bound s) is_emptied removed_up (Some c) >> done

-- delete the selection, step 13: the children of c go to the end of b
unfoldable pub take_children : ℕ → ℕ → Run (Option (List Recorded))
take_children b c = look λ s. do
  move_each_last (children_of s.trees c) b
  drop_emptied c
  answer (Some (values_of s (children_of s.trees c)))

-- delete the selection, step 13
unfoldable pub merge_beside : ℕ → ℕ → Run (Option (List Recorded))
merge_beside b c = look λ s. do
  collapse (end_in s.trees b)
  drop_last_break b (first_of s.trees c)
  take_children b c

-- steps 11 to 13
unfoldable pub merged : ℕ → ℕ → Run (Option (List Recorded))
merged b c = look λ s.
    if is_ancestor s.trees b c then merge_inner b c
    else (if is_ancestor s.trees c b then merge_outer b c else merge_beside b c)

-- ---- delete the selection, step 14: lists that have come to stand side by side

abbrev pub is_list_before : List ℕ → State → ℕ → Bool
is_list_before name s l =
    has_name s.trees l name
    && option_map_or (λ n. is_inside s n && has_name s.trees n name) (next_of s.trees l) false

-- a list that is inside, with a list of the same kind after it
unfoldable pub joins_next : State → ℕ → Bool
joins_next s l =
    is_inside s l && (is_list_before (codes "ol") s l || is_list_before (codes "ul") s l)

-- the deepest such one that b is or stands in
unfoldable pub list_to_join : State → ℕ → Option ℕ
list_to_join s b = find (joins_next s) (map (λ k. k.label) (lineage s.trees b))

-- delete the selection, step 14: the children of n go to the end of l, and n goes
unfoldable pub join_lists_at : ℕ → ℕ → Run (Unit {0})
join_lists_at l n = look λ s. move_each_last (children_of s.trees n) l >> (remove n >> done)

-- delete the selection, step 14: a list l takes in the list after it
unfoldable pub join_next : ℕ → Run (Unit {0})
join_next l = look λ s. given (next_of s.trees l) done (join_lists_at l)

-- delete the selection, step 14: one turn
unfoldable pub join_once : ℕ → Run ℕ
join_once b = look λ s. given (list_to_join s b) (answer b) λ l. join_next l >> answer b

-- delete the selection, step 14: there is such a list
unfoldable pub has_list_to_join : State → ℕ → Bool
has_list_to_join s b = is_some (list_to_join s b)

-- delete the selection, step 14
unfoldable pub join_lists : ℕ → Run (Unit {0})
join_lists b = look λ s. while_at_most (turn_bound s) has_list_to_join join_once b >> done

-- ---- delete the selection, step 15, and the whole

-- delete the selection, step 15: a new br where b has no children
unfoldable pub fill_empty : ℕ → Run (Unit {0})
fill_empty b = look λ s. if is_none (first_of s.trees b) then append_break b else done

-- steps 14 and 15
unfoldable pub finish : ℕ → List Recorded → Run (Unit {0})
finish b values = do
  join_lists b
  restore_values values
  fill_empty b
  breaks_at_end b

-- delete the selection, steps 14 and 15, unless a step before them ended the algorithm
unfoldable pub finish_if : ℕ → Option (List Recorded) → Run (Unit {0})
finish_if b values = given values done (finish b)

-- steps 10 to 15
unfoldable pub merge : ℕ → ℕ → Run (Unit {0})
merge b c = do
  drop_prop b
  values ← merged b c
  finish_if b values

-- delete the selection, step 9: both are inside, and they are not the same
unfoldable pub are_mergeable : State → ℕ → ℕ → Bool
are_mergeable s b c = is_inside s b && (is_inside s c && not (b == c))

-- delete the selection, step 9, and then from 10 on, with two blocks
unfoldable pub merge_both : Bool → ℕ → ℕ → Run (Unit {0})
merge_both backward b c =
    look λ s. if are_mergeable s b c then merge b c else collapse_selection backward

-- delete the selection, step 9, and then from 10 on, of blocks that there may be
unfoldable pub merge_if : Bool → Bool → Option ℕ → Option ℕ → Run (Unit {0})
merge_if merging backward b c =
    if merging then
    (given b (collapse_selection backward) λ x.
    given c (collapse_selection backward) (merge_both backward x))
    else collapse_selection backward
