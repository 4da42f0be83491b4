-- The ways that the delete command takes back from a caret (HTML Editing APIs, "the delete
-- command", steps 3 and 7). The steps are those of docs/ALGORITHMS.md.
use Rattle.std.specs.Prelude.{ℕ, ◌-◌, ◌==◌, Bool, true, false, ◌||◌, ◌&&◌, not, codes, Option, Some, None, if◌then◌else◌}
use Rattle.std.specs.Option.{option_and_then}
use Rattle.edit_model.specs.DomModel.Contents.{has_name, is_break, is_image}
use Rattle.edit_model.specs.DomModel.Forest.{is_label, prev_of}
use Rattle.edit_model.specs.LiveRange.declared.places.Point.{Point}
use Rattle.inline_value.specs.NodeStyles.Blocks.{is_block}
use Rattle.inline_value.specs.NodeTests.BlockPoints.{child_before}
use Rattle.inline_value.specs.NodeTests.Visible.{is_visible}
use Rattle.edit_model.specs.State.{State}
use Rattle.edit_model.specs.Confined.{is_editable_for}
use Rattle.edit_model.specs.Run.{Run, ◌>>◌, answer, look, given, while_at_most, remove}
use Rattle.inline_value.specs.WrapSplit.Split.{remove_keeping_children}
use Rattle.inline_value.specs.WrapSplit.Walks.{turn_bound}
use Rattle.delete_core.specs.Places.{at, end_in, before_node}
use Rattle.text_deletion.specs.declared.approach.Approach.{Approach}

abbrev pub moved_to : Approach → Point → Approach
moved_to a p = record a { at = p }

abbrev pub halted : Approach → Approach
halted a = record a { going = false }

abbrev pub ended : Approach → Approach
ended a = record a { going = false; unlinked = true }

abbrev pub begun_at : Point → Approach
begun_at p = record { at = p; going = true; unlinked = false }

abbrev pub goes_on : State → Approach → Bool
goes_on s a = a.going

abbrev pub is_affected_host : State → ℕ → Bool
is_affected_host s n = is_label s.host n

-- an editable node that shows nothing, if there is one
abbrev pub if_hidden : State → Option ℕ → Option ℕ
if_hidden s None = None
if_hidden s (Some k) = if is_editable_for s k && not (is_visible s.trees k) then Some k else None

-- the first line that applies: what is there goes on, and otherwise the next line is asked
infixr 5 for◌then◌else◌
abbrev pub for◌then◌else◌ : {A B : Type 0} → Option A → (A → Run B) → Run B → Run B
for o then f else n = given o n f

-- steps 3 b and 7: the child before the point
unfoldable pub hidden_child : State → Point → Option ℕ
hidden_child s p = if_hidden s (child_before s.trees p.label p.offset)

-- steps 3 b and 7: it goes, and the offset shrinks by 1
unfoldable pub drop_child : Approach → ℕ → Run Approach
drop_child a k = remove k >> answer (moved_to a (at a.at.label (a.at.offset - 1)))

-- ---- step 3: back to what is deleted

-- a: the sibling before the node at whose start the point stands
unfoldable pub hidden_prev : State → Point → Option ℕ
hidden_prev s p =
    if not (is_affected_host s p.label) && (p.offset == 0) then
    if_hidden s (prev_of s.trees p.label) else None

-- c: out of an inline node at its start, and out of a node that shows nothing
unfoldable pub out_of_node : State → Point → Option Point
out_of_node s p = if not (is_affected_host s p.label)
    && (((p.offset == 0) && not (is_block s.trees p.label)) || not (is_visible s.trees p.label))
    then before_node s.trees p.label else None

-- d: an editable a before the point
unfoldable pub link_before : State → Point → Option ℕ
link_before s p = option_and_then
    (λ k. if is_editable_for s k && has_name s.trees k (codes "a") then Some k else None)
    (child_before s.trees p.label p.offset)

-- e: the end of a child before the point that is no block, br or img
unfoldable pub into_child : State → Point → Option Point
into_child s p = option_and_then
    (λ k. if is_block s.trees k || (is_break s.trees k || is_image s.trees k) then None
    else Some (end_in s.trees k)) (child_before s.trees p.label p.offset)

-- one turn: the lines a to f. An a gives way to its children, and the command ends.
unfoldable pub back_turn : Approach → Run Approach
back_turn a = look λ s.
    for hidden_prev s a.at then (λ k. remove k >> answer a)
    else for hidden_child s a.at then drop_child a
    else for out_of_node s a.at then (λ p. answer (moved_to a p))
    else for link_before s a.at then (λ k. remove_keeping_children k >> answer (ended a))
    else for into_child s a.at then (λ p. answer (moved_to a p))
    else answer (halted a)

unfoldable pub go_back : Point → Run Approach
go_back p = look λ s. while_at_most (turn_bound s) goes_on back_turn (begun_at p)

-- ---- step 7: out to where something stands before the point

unfoldable pub out_of_start : State → Point → Option Point
out_of_start s p = if (p.offset == 0) && not (is_affected_host s p.label) then
    before_node s.trees p.label else None

-- one turn
unfoldable pub climb_turn : Approach → Run Approach
climb_turn a = look λ s.
    for out_of_start s a.at then (λ p. answer (moved_to a p))
    else for hidden_child s a.at then drop_child a
    else answer (halted a)

unfoldable pub climb : Point → Run Approach
climb p = look λ s. while_at_most (turn_bound s) goes_on climb_turn (begun_at p)
