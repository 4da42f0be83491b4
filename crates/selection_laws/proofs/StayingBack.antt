-- The delete command leaves the selection in the host. What it erases a line over keeps the caret's point in the scratch pair.
use Rattle.std.proofs.Common.{ℕ, Bool, true, false, ◌&&◌, ◌||◌, not, eqb, if◌then◌else◌, Option, Some, None, IfSome, refl}
use Rattle.std.specs.Option.{option_and_then}
use Rattle.std.proofs.lemmas.Bool.{and_parts}
use Rattle.edit_model.specs.DomModel.declared.Content.{Content}
use Rattle.edit_model.specs.DomModel.Contents.{is_break, is_image}
use Rattle.edit_model.specs.DomModel.Forest.{Forest}
use Rattle.edit_model.specs.LiveRange.declared.places.Point.{Point}
use Rattle.inline_value.specs.NodeStyles.Blocks.{is_block}
use Rattle.inline_value.specs.NodeTests.BlockPoints.{child_before}
use Rattle.edit_model.specs.State.{State}
use Rattle.edit_laws.specs.InHost.{IsNear, IsNearPair, IsInHost}
use Rattle.edit_laws.proofs.HostRuns.{Stays, StaysWith, calm_edit, stays_parts, stays_calm, stays_answer, stays_bind, stays_look, stays_look_at, stays_if, stays_known, stays_perform, stays_from, gives_answer, gives_after, gives_look, gives_given, gives_known, gives_while}
use Rattle.inline_value.specs.EditActions.ActiveRange.{start_of}
use Rattle.inline_value.specs.WrapSplit.Walks.{turn_bound}
use Rattle.delete_core.specs.declared.deletion.TheConstants.Manner.{DEFAULT, BACKWARD}
use Rattle.delete_core.specs.Places.{start_in, end_in}
use Rattle.text_insertion.specs.Entries.{is_entry}
use Rattle.text_deletion.specs.Approach.{moved_to, halted, ended, begun_at, goes_on, is_affected_host, drop_child, hidden_prev, hidden_child, out_of_node, link_before, into_child, back_turn, go_back, out_of_start, climb_turn, climb}
use Rattle.text_deletion.specs.Delete.{follows_single, erase_single, erase_line, into_last, deepest_before, between_entries, joined, join, delete_across, delete_from, delete_at_caret, delete}
use Rattle.text_deletion.specs.Entries.{starts_entry}
use Rattle.selection_laws.proofs.CalmEntries.{calm_lift_entry, calm_outdent_line, calm_part_entries}
use Rattle.selection_laws.proofs.CalmErasing.{calm_canonicalize_start}
use Rattle.selection_laws.proofs.CalmWraps.{calm_remove_keeping_children}
use Rattle.selection_laws.proofs.Points.{NearAt, walk_keeps, some_if, some_mapped, near_start, near_child_at, near_child_before, near_before, not_host}
use Rattle.selection_laws.proofs.Selected.{stays_at_selection}
use Rattle.selection_laws.proofs.StayingLines.{stays_erase}

module _ (outer : Forest Content) (h : ℕ) where
  abbrev Near : Point → Type 0
  Near p = NearAt outer h true p

  -- ---- the way back

  module _ (s : State) (is : IsInHost outer h true s) where
    node_near : (p : Point) → IsNear outer h p.label → IfSome (out_of_node s p) Near
    unfolding out_of_node
    node_near p near =
        some_if Near _ _ None (λ e. near_before outer h true s is p.label near (not_host outer h true s is p.label (and_parts (not (is_affected_host s p.label)) _ e).0)) (λ _. tt)

    start_near : (p : Point) → IsNear outer h p.label → IfSome (out_of_start s p) Near
    unfolding out_of_start
    start_near p near =
        some_if Near _ _ None (λ e. near_before outer h true s is p.label near (not_host outer h true s is p.label (and_parts (eqb p.offset 0) _ e).1)) (λ _. tt)

    child_near : (p : Point) → IsNear outer h p.label → IfSome (into_child s p) Near
    unfolding into_child
    child_near p near = by_child (child_before s.trees p.label p.offset) (near_child_before outer h true s is p.label p.offset near)
      where
        by_child : (o : Option ℕ) → IfSome o (IsNear outer h)
            → IfSome (option_and_then (λ k. if is_block s.trees k || (is_break s.trees k || is_image s.trees k) then None else Some (end_in s.trees k)) o) Near
        by_child None near = tt
        by_child (Some k) near = some_if Near (is_block s.trees k || (is_break s.trees k || is_image s.trees k)) None (Some (end_in s.trees k)) (λ _. tt) (λ _. near)

    -- ---- what is joined

    last_near : (q : Point) → IsNear outer h q.label → IfSome (into_last s q) Near
    unfolding into_last
    last_near q near = some_mapped Near (end_in s.trees) _ (near_child_before outer h true s is q.label q.offset near)

    deepest_near : (q : Point) → IsNear outer h q.label → Near (deepest_before s q)
    unfolding deepest_before
    deepest_near q near = walk_keeps Near (into_last s) (turn_bound s) q last_near near

    entries_near : (o n : Option ℕ) (other : Point × Point) → IfSome o (IsNear outer h) → IfSome n (IsNear outer h) → Near other.0 × Near other.1 → Near (between_entries s o n other).0 × Near (between_entries s o n other).1
    entries_near None n other near_o near_n near = near
    entries_near (Some j) None other near_o near_n near = near
    entries_near (Some j) (Some k) other near_o near_n near = by_test (is_entry s j && is_entry s k)
      where
        by_test : (v : Bool) → Near (if v then (end_in s.trees j, start_in k) else other).0 × Near (if v then (end_in s.trees j, start_in k) else other).1
        by_test true = (near_o, near_n)
        by_test false = near

    joined_near : (p q : Point) → IsNear outer h p.label → IsNear outer h q.label → Near (joined s p q).0 × Near (joined s p q).1
    unfolding joined
    joined_near p q near_p near_q =
        entries_near _ _ (deepest_before s q, p) (near_child_before outer h true s is q.label q.offset near_q) (near_child_at outer h true s is q.label q.offset near_q) (deepest_near q near_q, near_p)

  gives_drop_child : (a : _) (k : ℕ) → Near (halted a).at → StaysWith outer h true (λ a. Near (halted a).at) (drop_child a k)
  unfolding drop_child
  gives_drop_child a k near = gives_after outer h true (λ a. Near (halted a).at) _ _ (stays_calm outer h true _ (calm_edit _)) (λ _. gives_answer outer h true (λ a. Near (halted a).at) _ near)

  gives_back_turn : (a : _) → Near (halted a).at → StaysWith outer h true (λ a. Near (halted a).at) (back_turn a)
  unfolding back_turn
  gives_back_turn a near =
      gives_look outer h true (λ a. Near (halted a).at) _
      (λ s is. gives_given outer h true (λ a. Near (halted a).at) (hidden_prev s a.at) _ _
      (gives_given outer h true (λ a. Near (halted a).at) (hidden_child s a.at) _ _
      (gives_known outer h true Near (λ a. Near (halted a).at) (out_of_node s a.at) _ _ (node_near s is a.at near)
      (gives_given outer h true (λ a. Near (halted a).at) (link_before s a.at) _ _
      (gives_known outer h true Near (λ a. Near (halted a).at) (into_child s a.at) _ _ (child_near s is a.at near) (gives_answer outer h true (λ a. Near (halted a).at) (halted a) near) (λ p there. gives_answer outer h true (λ a. Near (halted a).at) (moved_to a p) there))
      (λ k. gives_after outer h true (λ a. Near (halted a).at) _ _ (stays_calm outer h true _ (calm_remove_keeping_children k)) (λ _. gives_answer outer h true (λ a. Near (halted a).at) (ended a) near)))
      (λ p there. gives_answer outer h true (λ a. Near (halted a).at) (moved_to a p) there))
      (λ k. gives_drop_child a k near))
      (λ k. gives_after outer h true (λ a. Near (halted a).at) _ _ (stays_calm outer h true _ (calm_edit _)) (λ _. gives_answer outer h true (λ a. Near (halted a).at) a near)))

  gives_go_back : (p : Point) → IsNear outer h p.label → StaysWith outer h true (λ a. Near (halted a).at) (go_back p)
  unfolding go_back
  gives_go_back p near =
      gives_look outer h true (λ a. Near (halted a).at) _ (λ s _. gives_while outer h true (λ a. Near (halted a).at) (turn_bound s) goes_on back_turn (begun_at p) gives_back_turn near)

  gives_climb_turn : (a : _) → Near (halted a).at → StaysWith outer h true (λ a. Near (halted a).at) (climb_turn a)
  unfolding climb_turn
  gives_climb_turn a near =
      gives_look outer h true (λ a. Near (halted a).at) _
      (λ s is. gives_known outer h true Near (λ a. Near (halted a).at) (out_of_start s a.at) _ _ (start_near s is a.at near)
      (gives_given outer h true (λ a. Near (halted a).at) (hidden_child s a.at) _ _ (gives_answer outer h true (λ a. Near (halted a).at) (halted a) near) (λ k. gives_drop_child a k near))
      (λ p there. gives_answer outer h true (λ a. Near (halted a).at) (moved_to a p) there))

  gives_climb : (p : Point) → IsNear outer h p.label → StaysWith outer h true (λ a. Near (halted a).at) (climb p)
  unfolding climb
  gives_climb p near =
      gives_look outer h true (λ a. Near (halted a).at) _ (λ s _. gives_while outer h true (λ a. Near (halted a).at) (turn_bound s) goes_on climb_turn (begun_at p) gives_climb_turn near)

  -- ---- what is erased

  stays_erase_single : (p : Point) → IsNear outer h p.label → Stays outer h true (erase_single p)
  unfolding erase_single
  stays_erase_single p near =
      stays_bind outer h true _ _ (stays_perform outer h true _ (near, near))
      (λ _. stays_bind outer h true _ _ (stays_perform outer h true _ near) (λ _. stays_erase outer h true DEFAULT))

  stays_erase_line : (p q : Point) → IsNear outer h p.label → IsNear outer h q.label → Stays outer h true (erase_line p q)
  unfolding erase_line
  stays_erase_line p q near_p near_q =
      stays_bind outer h true _ _ (stays_perform outer h true _ (λ _. (near_p, near_p)))
      (λ _. stays_bind outer h true _ _ (stays_perform outer h true _ (near_q, near_q))
      (λ _. stays_bind outer h true _ _ (stays_erase outer h true DEFAULT)
      (λ _. stays_look outer h true _
      (λ s is. stays_known outer h true (IsNearPair outer h) s.points.scratch _ _ (is.scratch refl) (stays_answer outer h true tt) (λ pair near. stays_perform outer h true _ (near.0, near.0))))))

  stays_join : (p q : Point) → IsNear outer h p.label → IsNear outer h q.label → Stays outer h true (join p q)
  unfolding join
  stays_join p q near_p near_q =
      stays_bind outer h true _ _ (stays_calm outer h true _ (calm_part_entries q))
      (λ _. stays_bind outer h true _ _ (stays_look outer h true _ (λ s is. stays_perform outer h true _ (joined_near s is p q near_p near_q))) (λ _. stays_erase outer h true BACKWARD))

  -- ---- the whole

  stays_delete_across : (p : Point) → IsNear outer h p.label → Stays outer h true (delete_across p)
  unfolding delete_across
  stays_delete_across p near =
      stays_from outer h true (λ a. Near (halted a).at) _ _ (gives_climb p near)
      (λ a there. stays_look_at outer h true _
      (λ s. stays_if outer h true _ _ _ (stays_calm outer h true _ (calm_outdent_line p))
      (stays_if outer h true _ _ _ (stays_answer outer h true tt)
      (stays_if outer h true _ _ _ (stays_perform outer h true _ (there, there))
      (stays_if outer h true _ _ _ (stays_erase_line p a.at near there) (stays_join p a.at near there))))))

  stays_delete_from : (p : Point) → IsNear outer h p.label → Stays outer h true (delete_from p)
  unfolding delete_from
  stays_delete_from p near =
      stays_from outer h true (λ a. Near (halted a).at) _ _ (gives_go_back p near)
      (λ a there. stays_look_at outer h true _
      (λ s. stays_if outer h true a.unlinked _ _ (stays_answer outer h true tt)
      (stays_if outer h true (follows_single s a.at) _ _ (stays_erase_single a.at there)
      (stays_if outer h true (not (is_block s.trees a.at.label)) _ _ (stays_answer outer h true tt)
      (stays_if outer h true (starts_entry s a.at) _ _ (stays_calm outer h true _ (calm_lift_entry a.at.label)) (stays_delete_across a.at there))))))

  stays_delete_at_caret : Stays outer h true delete_at_caret
  unfolding delete_at_caret
  stays_delete_at_caret =
      stays_bind outer h true _ _ (stays_calm outer h true _ (calm_canonicalize_start true))
      (λ _. stays_at_selection outer h true _ _ (stays_answer outer h true tt) (λ s is pair near. stays_delete_from (start_of s.trees pair) (near_start outer h true s.trees pair near)))

  pub stays_delete : Stays outer h true delete
  unfolding delete
  stays_delete = search (stays_parts, stays_delete_at_caret, stays_erase)
