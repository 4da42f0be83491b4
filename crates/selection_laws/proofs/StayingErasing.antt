-- Deleting the selection leaves what is then selected in the host.
use Rattle.std.proofs.Common.{◌≡◌, ℕ, ◌<◌, Bool, true, false, ◌&&◌, if◌then◌else◌, [], Option, Some, None, IfSome, refl, subst}
use Rattle.std.specs.Prelude.{◌==◌}
use Rattle.std.proofs.lemmas.Bool.{and_parts}
use Rattle.edit_model.specs.DomModel.Contents.{length_of}
use Rattle.edit_model.specs.DomModel.declared.Content.{Content}
use Rattle.edit_model.specs.DomModel.Forest.{Forest, count_of, IsWithin}
use Rattle.edit_model.specs.LiveRange.declared.places.Point.{Point}
use Rattle.edit_model.specs.LiveRange.declared.places.Pair.{Pair}
use Rattle.inline_value.specs.NodeTests.CollapsedWhitespace.{is_words}
use Rattle.edit_model.specs.State.{State}
use Rattle.edit_model.specs.Confined.{is_inside}
use Rattle.edit_model.specs.Run.{◌>>◌, answer, final, look, given}
use Rattle.edit_model.specs.Valid.{IsPlacedPair}
use Rattle.edit_model.proofs.Points.{placed_is}
use Rattle.edit_model.specs.PointOrder.PointOrder.{is_placed}
use Rattle.edit_laws.specs.InHost.{IsNear, IsNearPair, IsInHost}
use Rattle.edit_laws.proofs.HostRuns.{Stays, calm_parts, stays_parts, stays_calm, stays_answer, stays_bind, stays_look, stays_look_at, stays_here, stays_if, stays_choice, stays_given, stays_perform}
use Rattle.edit_laws.proofs.Nearness.{near_inside, near_within, hollow_is, within_host}
use Rattle.inline_value.specs.EditActions.ActiveRange.{start_of, end_of}
use Rattle.delete_core.specs.declared.deletion.Manner.{Manner}
use Rattle.delete_core.specs.Deletion.{erase_across, erase, delete_recorded, delete_selected, delete_range, delete_between, delete_selection}
use Rattle.delete_core.specs.Ends.{collapse_selection, out_of_start, out_of_end}
use Rattle.delete_core.specs.Equivalent.{last_equivalent, first_equivalent}
use Rattle.delete_core.specs.Erasing.{erase_within}
use Rattle.delete_core.specs.Merging.{merge_inner, merge_outer, merge_beside, merged, merge, are_mergeable, merge_both, merge_if}
use Rattle.delete_core.specs.Places.{before_node, after_node, comes_before}
use Rattle.selection_laws.proofs.CalmErasing.{calm_canonicalize, calm_canonicalize_start, calm_canonicalize_end, calm_cut_after, calm_cut_before, calm_remove_nodes, calm_merge_content, calm_drop_last_break, calm_take_following, calm_take_children, calm_drop_prop, calm_finish_if}
use Rattle.selection_laws.proofs.Equivalents.{equivalents_inside}
use Rattle.selection_laws.proofs.Points.{NearAt, some_if, some_or, either_point, near_start, near_end, near_before, near_after, words_off}
use Rattle.selection_laws.proofs.Selected.{stays_at_selection}
use Rattle.edit_laws.proofs.StayingKinds.{kind_there}
use Rattle.edit_laws.specs.Kinds.{Element}

module _ (outer : Forest Content) (h : ℕ) (kept : Bool) where
  pub stays_collapse_selection : (backward : Bool) → Stays outer h kept (collapse_selection backward)
  unfolding collapse_selection
  stays_collapse_selection backward =
      stays_at_selection outer h kept _ _ (stays_answer outer h kept tt)
      (λ s is pair near. (
      let n = either_point outer h kept backward (end_of s.trees pair) (start_of s.trees pair) (near_end outer h kept s.trees pair near) (near_start outer h kept s.trees pair near) in
      stays_perform outer h kept _ (n, n)))

  stays_erase_within : (backward : Bool) (p q : Point) → Stays outer h kept (erase_within backward p q)
  unfolding erase_within
  stays_erase_within backward p q = search (stays_parts, stays_collapse_selection, stays_calm, calm_parts, calm_canonicalize)

  -- ---- merging, with the caret in the block that stays

  stays_merge_inner : (b c : ℕ) → IsNear outer h b → Stays outer h kept (merge_inner b c)
  unfolding merge_inner
  stays_merge_inner b c near =
      stays_look_at outer h kept _
      (λ s. stays_given outer h kept _ _ _ (stays_answer outer h kept None)
      (λ q. stays_bind outer h kept _ _ (stays_perform outer h kept _ (near, near)) (λ _. stays_calm outer h kept _ (calm_merge_content b c))))

  stays_merge_outer : (b c : ℕ) → IsNear outer h b → Stays outer h kept (merge_outer b c)
  unfolding merge_outer
  stays_merge_outer b c near =
      stays_look_at outer h kept _
      (λ s. stays_given outer h kept _ _ _ (stays_answer outer h kept None)
      (λ q. stays_bind outer h kept _ _ (stays_perform outer h kept _ (near, near))
      (λ _. stays_bind outer h kept _ _ (stays_calm outer h kept _ (calm_drop_last_break _ _)) (λ _. stays_calm outer h kept _ (calm_take_following _ _)))))

  stays_merge_beside : (b c : ℕ) → IsNear outer h b → Stays outer h kept (merge_beside b c)
  unfolding merge_beside
  stays_merge_beside b c near =
      stays_look_at outer h kept _
      (λ s. stays_bind outer h kept _ _ (stays_perform outer h kept _ (near, near))
      (λ _. stays_bind outer h kept _ _ (stays_calm outer h kept _ (calm_drop_last_break _ _)) (λ _. stays_calm outer h kept _ (calm_take_children _ _))))

  stays_merged : (b c : ℕ) → IsNear outer h b → Stays outer h kept (merged b c)
  unfolding merged
  stays_merged b c near =
      stays_look_at outer h kept _
      (λ s. stays_if outer h kept _ _ _ (stays_merge_inner b c near) (stays_if outer h kept _ _ _ (stays_merge_outer b c near) (stays_merge_beside b c near)))

  stays_merge : (b c : ℕ) → IsNear outer h b → Stays outer h kept (merge b c)
  unfolding merge
  stays_merge b c near =
      stays_bind outer h kept _ _ (stays_calm outer h kept _ (calm_drop_prop b))
      (λ _. stays_bind outer h kept _ _ (stays_merged b c near) (λ values. stays_calm outer h kept _ (calm_finish_if b values)))

  mergeable_inside : (s : State) (b c : ℕ) → are_mergeable s b c ≡ true → is_inside s b ≡ true
  unfolding are_mergeable
  mergeable_inside s b c e = (and_parts (is_inside s b) _ e).0

  stays_merge_both : (backward : Bool) (b c : ℕ) → Stays outer h kept (merge_both backward b c)
  unfolding merge_both
  stays_merge_both backward b c =
      stays_look outer h kept _
      (λ s is. stays_choice outer h kept (are_mergeable s b c) _ _ (λ on. stays_merge b c (near_inside outer h kept s is b (mergeable_inside s b c on))) (λ _. stays_collapse_selection backward))

  stays_merge_if : (merging backward : Bool) (b c : Option ℕ) → Stays outer h kept (merge_if merging backward b c)
  unfolding merge_if
  stays_merge_if merging backward b c = search (stays_parts, stays_collapse_selection, stays_merge_both)

  -- ---- what is between two points goes

  stays_erase_across : (m : Manner) (p q : Point) (b c : Option ℕ) → Stays outer h kept (erase_across m p q b c)
  unfolding erase_across
  stays_erase_across m p q b c =
      search (stays_parts, stays_merge_if, stays_calm, calm_cut_after, calm_remove_nodes, calm_cut_before, calm_canonicalize_start, calm_canonicalize_end) depth 10

  stays_erase : (m : Manner) (p q : Point) (b c : Option ℕ) → Stays outer h kept (erase m p q b c)
  unfolding erase
  stays_erase m p q b c = search (stays_parts, stays_erase_within, stays_erase_across)

  stays_delete_recorded : (m : Manner) (p q : Point) → Stays outer h kept (delete_recorded m p q)
  unfolding delete_recorded
  stays_delete_recorded m p q = search (stays_parts, stays_erase)

  stays_delete_selected : (m : Manner) (p q : Point) → IsNear outer h p.label → IsNear outer h q.label → Stays outer h kept (delete_selected m p q)
  unfolding delete_selected
  stays_delete_selected m p q near_p near_q =
      stays_bind outer h kept _ _ (stays_perform outer h kept _ (near_p, near_q)) (λ _. stays_delete_recorded m p q)

  -- ---- its ends

  module _ (s : State) (is : IsInHost outer h kept s) where
    start_near : (p : Point) → IsNear outer h p.label → IsNear outer h (out_of_start s.trees p).label
    unfolding out_of_start
    start_near p near =
        some_or (NearAt outer h kept) (if is_words s.trees p.label && (p.offset == 0) then before_node s.trees p.label else None) p
        (some_if (NearAt outer h kept) (is_words s.trees p.label && (p.offset == 0)) (before_node s.trees p.label) None
        (λ e. near_before outer h kept s is p.label near (words_off outer h kept s is p.label (and_parts (is_words s.trees p.label) (p.offset == 0) e).0)) (λ _. tt))
        near

    end_near : (p : Point) → IsNear outer h p.label → IsNear outer h (out_of_end s.trees p).label
    unfolding out_of_end
    end_near p near =
        some_or (NearAt outer h kept) (if is_words s.trees p.label && (p.offset == length_of s.trees p.label) then after_node s.trees p.label else None) p
        (some_if (NearAt outer h kept) (is_words s.trees p.label && (p.offset == length_of s.trees p.label)) (after_node s.trees p.label) None
        (λ e. near_after outer h kept s is p.label near (words_off outer h kept s is p.label (and_parts (is_words s.trees p.label) (p.offset == length_of s.trees p.label) e).0)) (λ _. tt))
        near

    h_there : 0 < count_of s.trees h
    h_there = kind_there s.trees h (Element is.name) is.element

    near_again : (l : ℕ) → IsWithin s.trees h l → IsNear outer h l
    near_again l inside = subst (λ g. IsNear g h l) (hollow_is outer h kept s is) (near_within s.trees s.next is.valid.forest h l inside)

    -- where the points are in order, they are in the host
    range_at : (m : Manner) (p q : Point) → IsWithin s.trees h p.label → IsWithin s.trees h q.label → IsInHost outer h kept (final (delete_range m (last_equivalent s.trees p) (first_equivalent s.trees q)) s)
    unfolding delete_range look final
    range_at m p q in_p in_q = by_order (comes_before s.trees (last_equivalent s.trees p) (first_equivalent s.trees q)) refl
      where
        by_order : (v : Bool) → comes_before s.trees (last_equivalent s.trees p) (first_equivalent s.trees q) ≡ v
            → IsInHost outer h kept (final (if v then delete_selected m (out_of_start s.trees (last_equivalent s.trees p)) (out_of_end s.trees (first_equivalent s.trees q)) else (collapse_selection m.backward >> answer [])) s)
        by_order true e =
            let inside = equivalents_inside s.trees is.valid.forest.distinct h h_there p q in_p in_q e in
            (stays_delete_selected m _ _ (start_near _ (near_again _ inside.0)) (end_near _ (near_again _ inside.1))).stays s is
        by_order false e = (stays_bind outer h kept _ _ (stays_collapse_selection m.backward) (λ _. stays_answer outer h kept [])).stays s is

    point_within : (p : Point) → IsNear outer h p.label → is_placed s.trees p ≡ true → IsWithin s.trees h p.label
    point_within p near placed = within_host outer h kept s is p.label near (placed_is s.trees p placed).inside

    either_within : (b : Bool) (p q : Point) → IsWithin s.trees h p.label → IsWithin s.trees h q.label → IsWithin s.trees h (if b then p else q).label
    either_within true p q on off = on
    either_within false p q on off = off

    between_at : (m : Manner) (o : Option Pair) → IfSome o (IsNearPair outer h) → IfSome o (IsPlacedPair s.trees)
        → IsInHost outer h kept (final (given o (answer []) (λ pair. delete_range m (last_equivalent s.trees (start_of s.trees pair)) (first_equivalent s.trees (end_of s.trees pair)))) s)
    between_at m None near placed = (stays_answer outer h kept []).stays s is
    between_at m (Some pair) near placed =
        let in_anchor = point_within pair.anchor near.0 placed.anchor in
        let in_focus = point_within pair.focus near.1 placed.focus in
        range_at m (start_of s.trees pair) (end_of s.trees pair) (either_within _ pair.focus pair.anchor in_focus in_anchor) (either_within _ pair.anchor pair.focus in_anchor in_focus)

  stays_delete_between : (m : Manner) → Stays outer h kept (delete_between m)
  unfolding delete_between
  stays_delete_between m = stays_here outer h kept _ (λ s is. between_at s is m s.points.selection is.selection is.valid.placed.selection)

  pub stays_delete_selection : (m : Manner) → Stays outer h kept (delete_selection m)
  unfolding delete_selection
  stays_delete_selection m = search (stays_parts, stays_delete_between, stays_calm, calm_canonicalize_start, calm_canonicalize_end)
