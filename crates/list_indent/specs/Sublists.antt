-- Normalizing the sublists of an item (HTML Editing APIs, "normalize sublists"). The steps are
-- those of docs/ALGORITHMS.md.
use Rattle.std.specs.Prelude.{ℕ, Bool, false, ◌||◌, ◌&&◌, [], codes, Option, Some, None, is_none, if◌then◌else◌}
use Rattle.std.specs.List.{list_any}
use Rattle.std.specs.Option.{option_map_or}
use Rattle.edit_model.specs.DomModel.declared.Content.{Content}
use Rattle.edit_model.specs.DomModel.declared.Content.TheVariants.{Document, Element, Words, Remark}
use Rattle.edit_model.specs.DomModel.Contents.{has_name}
use Rattle.edit_model.specs.DomModel.Forest.{parent_of, children_of, last_of, content_of}
use Rattle.inline_value.specs.NodeStyles.Allowed.{are_spaces}
use Rattle.edit_model.specs.State.{State}
use Rattle.edit_model.specs.Confined.{is_editable_for}
use Rattle.edit_model.specs.Moves.{insert_after, move_after, move_first}
use Rattle.edit_model.specs.Run.{Run, ◌>>=◌, ◌>>◌, answer, done, look, given, while_at_most, make_element}
use Rattle.inline_value.specs.WrapSplit.Walks.{turn_bound}

-- an ol or ul, and an li
unfoldable pub is_list : State → ℕ → Bool
is_list s n = has_name s.trees n (codes "ol") || has_name s.trees n (codes "ul")

abbrev pub is_item : State → ℕ → Bool
is_item s n = has_name s.trees n (codes "li")

-- the parent is an ol or ul
unfoldable pub is_in_list : State → ℕ → Bool
is_in_list s n = option_map_or (is_list s) (parent_of s.trees n) false

-- Words of space characters alone
abbrev pub is_blank_content : Content → Bool
is_blank_content Document = false
is_blank_content (Element name attributes) = false
is_blank_content (Words chars) = are_spaces chars
is_blank_content (Remark chars) = false

unfoldable pub is_blank : State → ℕ → Bool
is_blank s n = option_map_or is_blank_content (content_of s.trees n) false

-- ---- normalize sublists

-- step 2: the item has a list among its children
abbrev pub has_sublist : ℕ → State → Option ℕ → Bool
has_sublist item s follower = list_any (is_list s) (children_of s.trees item)

-- step 2: the child c leaves the item alone, and doesn't go to the follower
unfoldable pub leaves : State → Option ℕ → ℕ → Bool
leaves s follower c = is_list s c || (is_none follower && is_blank s c)

-- step 2: a new li just after the item
unfoldable pub make_follower : ℕ → Run ℕ
make_follower item = do
  x ← make_element (codes "li") []
  insert_after item x
  answer x

-- step 2: the follower, which is made where there is none
unfoldable pub follower_of : ℕ → Option ℕ → Run ℕ
follower_of item follower = given follower (make_follower item) answer

-- step 2: c goes to the front of x, which is the follower from now on
unfoldable pub handed_on : ℕ → ℕ → Run (Option ℕ)
handed_on c x = move_first x c >> answer (Some x)

-- step 2, one turn: the last child of the item comes to stand just after the item, or goes to the
-- follower. It answers the follower
unfoldable pub part_last : ℕ → Option ℕ → Run (Option ℕ)
part_last item follower = look λ s. given (last_of s.trees item) (answer follower) λ c.
    if leaves s follower c then (move_after item c >> answer None)
    else (follower_of item follower >>= handed_on c)

-- step 1: an editable item of an editable parent
unfoldable pub is_normalizable : State → ℕ → Bool
is_normalizable s n =
    is_item s n && (is_editable_for s n
    && option_map_or (is_editable_for s) (parent_of s.trees n) false)

-- steps 1 and 2
unfoldable pub normalize_sublists : ℕ → Run (Unit {0})
normalize_sublists n = look λ s.
    if is_normalizable s n
    then (while_at_most (turn_bound s) (has_sublist n) (part_last n) None >> done) else done
