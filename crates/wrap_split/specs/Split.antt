-- Splitting the parent of a list of siblings, and removing a node while its children stay (HTML
-- Editing APIs, "split the parent", "remove preserving its descendants"). The steps are those of
-- docs/ALGORITHMS.md.
use Rattle.std.specs.Prelude.{ℕ, Bool, false, ◌||◌, ◌&&◌, not, List, [], ◌∷◌, if◌then◌else◌, codes, is_none}
use Rattle.std.specs.Option.{option_map_or}
use Rattle.edit_model.specs.DomModel.Contents.{name_of, is_break}
use Rattle.edit_model.specs.DomModel.Forest.{parent_of, next_of, children_of, first_of, first_in, last_in}
use Rattle.command_value.specs.NodeStyles.Blocks.{is_block}
use Rattle.edit_actions.specs.NodeTests.LineBreaks.{follows_break, precedes_break}
use Rattle.edit_model.specs.State.{State}
use Rattle.edit_model.specs.Kept.{is_thing}
use Rattle.edit_model.specs.Confined.{is_editable_for}
use Rattle.edit_model.specs.Compositions.{tag_of, attribute_list_of}
use Rattle.edit_model.specs.Moves.{insert_before, insert_after, make_break, move_all_before, move_all_after, move_each_last}
use Rattle.edit_model.specs.Run.{Run, ◌>>=◌, ◌>>◌, answer, done, look, given, remove, unset_attribute, make_element}
use Rattle.edit_actions.specs.Siblings.{first_parent, members, until, starts_in, ends_in}
use Rattle.wrap_split.specs.Breaks.{breaks_before, breaks_at_end}

-- split the parent, step 8: a new br before a, where it is wanted and a doesn't follow a line break
unfoldable pub break_before : Bool → ℕ → Run (Unit {0})
break_before wanted a = look λ s.
    if wanted && not (follows_break s.trees a) then (make_break >>= insert_before a) else done

-- split the parent, steps 5 and 10: a new br after z, where it is wanted and z doesn't precede a
-- line break
unfoldable pub break_after : Bool → ℕ → Run (Unit {0})
break_after wanted z = look λ s.
    if wanted && not (precedes_break s.trees z) then (make_break >>= insert_after z) else done

-- split the parent, step 3: the line breaks before o go, where its first child is a member
unfoldable pub clear_before : ℕ → List ℕ → Run (Unit {0})
clear_before o list = look λ s. if starts_in s o list then breaks_before o else done

-- split the parent, step 6: the children before the member a go to a copy of o before it; o loses
-- its id
unfoldable pub copied : ℕ → ℕ → Run (Unit {0})
copied o a = look λ s. do
  x ← make_element (tag_of s.trees o) (attribute_list_of s.trees o)
  unset_attribute o (codes "id")
  insert_before o x
  move_each_last (until a (children_of s.trees o)) x

-- split the parent, step 6, where the first child of o is no member
unfoldable pub copy_front : ℕ → List ℕ → ℕ → Run (Unit {0})
copy_front o list a = look λ s. if starts_in s o list then done else copied o a

-- split the parent, step 9: where the member z is inline and no br, a br that the block o then
-- begins with goes
unfoldable pub drop_first_break : ℕ → ℕ → Run (Unit {0})
drop_first_break o z = look λ s. given (first_of s.trees o) done λ c.
    if not (is_block s.trees z)
    && (not (is_break s.trees z) && (is_break s.trees c && is_block s.trees o))
    then remove c >> done else done

-- split the parent, step 10: an emptied o goes, and a br comes where one is wanted after the member
-- z
unfoldable pub close : ℕ → ℕ → Bool → Run (Unit {0})
close o z wanted = look λ s.
    if is_none (first_of s.trees o) then (remove o >> break_after wanted z) else breaks_before o

-- split the parent, step 11: where the member z is the last child of a node, the line breaks at the
-- end of that go
unfoldable pub tidy_after : ℕ → Run (Unit {0})
tidy_after z = look λ s. if is_none (next_of s.trees z) then
    given (parent_of s.trees z) done breaks_at_end else done

-- split the parent, step 5: the members stand at the end of o, and not at its start
unfoldable pub split_end : ℕ → List ℕ → ℕ → Bool → Run (Unit {0})
split_end o list z wanted = do
  move_all_after list o
  break_after wanted z
  breaks_at_end o

-- split the parent, steps 6 to 11
unfoldable pub split_rest : ℕ → List ℕ → ℕ → ℕ → Bool → Bool → Run (Unit {0})
split_rest o list a z before after = do
  copy_front o list a
  move_all_before list o
  break_before before a
  drop_first_break o z
  close o z after
  tidy_after z

-- split the parent, step 4, and then 5 or 6 to 11: a and z are the first and the last member
unfoldable pub split_marked : ℕ → List ℕ → ℕ → ℕ → Run (Unit {0})
split_marked o list a z = look λ s.
    let before = starts_in s o list && follows_break s.trees o in
    let after = ends_in s o list && precedes_break s.trees o in
    if not (starts_in s o list) && ends_in s o list then split_end o list z after
    else split_rest o list a z before after

-- an image or a rule, which has no end tag
abbrev pub is_void_thing : State → ℕ → Bool
is_void_thing s o = option_map_or is_thing (name_of s.trees o) false

-- split the parent, steps 2 and 3, and then from 4 on
unfoldable pub split_at : ℕ → List ℕ → ℕ → ℕ → Run (Unit {0})
split_at o list a z = look λ s.
    if not (is_editable_for s o) || (is_none (parent_of s.trees o) || is_void_thing s o)
    then done
    else (clear_before o list >> split_marked o list a z)

-- split the parent, from step 2 on, with the first and the last member
unfoldable pub split_members : ℕ → List ℕ → Run (Unit {0})
split_members o list =
    given (first_in list) done λ a. given (last_in list) done λ z. split_at o list a z

-- split the parent, step 1: of the list, those that have a parent, and the same parent as the first
-- of them, are taken
unfoldable pub split_parent : List ℕ → Run (Unit {0})
split_parent list =
    look λ s. given (first_parent s list) done λ o. split_members o (members s o list)

-- the parent of one node is split around it; it answers the node, for a loop of this
unfoldable pub split_around : ℕ → Run ℕ
split_around n = split_parent (n ∷ []) >> answer n

-- remove, preserving descendants, steps 1 and 2
unfoldable pub remove_keeping_children : ℕ → Run (Unit {0})
remove_keeping_children n = look λ s.
    if is_none (first_of s.trees n) then remove n >> done else split_parent (children_of s.trees n)
