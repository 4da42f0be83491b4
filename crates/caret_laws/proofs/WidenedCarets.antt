-- The range of a caret is widened to a lane, out of the end of the caret's node or out of its start, and what is selected is erased:
-- that takes out and puts in blanks alone, and leaves a caret at a node that is near.
use Rattle.std.proofs.Common.{◌≡◌, ◌≢◌, ◌⊎◌, ℕ, zero, suc, ◌+◌, Bool, true, false, ◌&&◌, not, eqb, Option, Some, None, refl, sym, ap, subst, ◌∙◌, inl, inr, true≢false}
use Rattle.std.proofs.lemmas.Bool.{and_parts, eq-eqb, ne_eqb}
use Rattle.std.proofs.lemmas.Bool.Decides.{eqb_tells}
use Rattle.edit_model.specs.DomModel.Contents.{length_of}
use Rattle.edit_model.specs.DomModel.Forest as forest
use Rattle.edit_model.specs.DomModel.Forest.{is_label, tree_of, parent_of, content_of, IsWithin}
use Rattle.edit_model.specs.DomModel.declared.Content.TheVariants.{Words}
use Rattle.edit_model.specs.DomModel.Places.{index_of}
use Rattle.edit_model.specs.LiveRange.declared.places.Pair.{Pair}
use Rattle.edit_model.specs.LiveRange.declared.places.Point.{Point}
use Rattle.inline_value.specs.NodeTests.BlockPoints.{child_at}
use Rattle.edit_model.specs.Action as action
use Rattle.edit_model.specs.Action.{selected, acted}
use Rattle.edit_model.specs.Confined.{is_inside, may_select}
use Rattle.edit_model.specs.Edit.{changed}
use Rattle.edit_model.specs.Run.{final, done, given, select}
use Rattle.edit_model.specs.State.{State}
use Rattle.edit_model.specs.Valid.{IsValid}
use Rattle.edit_model.proofs.Documents.{within_above}
use Rattle.edit_model.proofs.OutsideRuns.{trees-selected}
use Rattle.edit_model.proofs.Steps.{final-look, final-perform}
use Rattle.edit_model.proofs.ValidRuns.{valid_acted}
use Rattle.edit_laws.proofs.Hosts.{parent_inside}
use Rattle.edit_laws.proofs.SteadyRuns.{steady_perform}
use Rattle.inline_value.specs.EditActions.ActiveRange.{end_of}
use Rattle.inline_value.specs.WrapSplit.Walks.{turn_bound}
use Rattle.delete_core.specs.declared.deletion.Manner.{Manner}
use Rattle.delete_core.specs.Places.{at, before_in, after_in, before_node, after_node, led_on, walk_points}
use Rattle.text_insertion.specs.Start.{erase}
use Rattle.insert_objects.specs.Rule.{out_of_start, out_of_end, outermost_start, outermost_end, select_widened, widen_range}
use Rattle.caret_laws.specs.RuleLaws.{StaysWhenWidened, IsFilled}
use Rattle.caret_laws.specs.SolidOrder.{solid_leaves, KeepsOrderUpToBlanks, StandsAt, HasRoom}
use Rattle.caret_laws.proofs.Blanks.{blanked_here, caret_then}
use Rattle.caret_laws.proofs.Canonical.{mapped_is, chosen_is, same_number, walk_keeps, Settled}
use Rattle.caret_laws.proofs.CaretErasing.{caret_start, caret_end, settled_select, settled_trans, erased}
use Rattle.caret_laws.proofs.EmptyRanges.{corner, filled_long, emptied}
use Rattle.caret_laws.proofs.InsideRuns.{Began, Underway, Near, open_near, near_editable, valid_way, host_way}
use Rattle.caret_laws.proofs.Lanes.{Lane, stays, leads, lane_trans}
use Rattle.caret_laws.proofs.PutThings.{nearby_caret}
use Rattle.caret_laws.proofs.Trails.{own_index, Into, Out}
use Rattle.caret_laws.proofs.Trees.{inside_open}
use Rattle.caret_laws.proofs.Underways.{way_steady}

not_true : (v : Bool) → not v ≡ true → v ≡ false
not_true true e = absurd (true≢false (sym e))
not_true false e = refl

-- a walk that no step leads on stays
walk_stays : (step : Point → Option Point) (n : ℕ) (x : Point) → step x ≡ None → walk_points step n x ≡ x
unfolding walk_points
walk_stays step zero x e = refl
walk_stays step (suc n) x e = ap (λ o. led_on o x (walk_points step n)) e

pub start_stays : (t : State) (p : Point) → p.offset ≢ 0 → outermost_start t p ≡ p
unfolding outermost_start out_of_start
start_stays t p off = walk_stays (out_of_start t) (turn_bound t) p (let no = ne_eqb p.offset 0 off in rw no refl)

pub end_stays : (t : State) (p : Point) → p.offset ≢ length_of t.trees p.label → outermost_end t p ≡ p
unfolding outermost_end out_of_end
end_stays t p off = walk_stays (out_of_end t) (turn_bound t) p (let no = ne_eqb p.offset (length_of t.trees p.label) off in rw no refl)

-- where the caret's range is widened to
pub widened_is : (t : State) (p : Point) → StandsAt t p → final widen_range t ≡ selected (outermost_start t p) (outermost_end t p) t
unfolding widen_range acted
widened_is t p caret =
    let pair : Pair = record { anchor = p; focus = p } in
    final-look _ t
    ∙ (ap (λ o. final (given o done (select_widened t)) t) caret
    ∙ (ap (λ q. final (select (outermost_start t q) (outermost_end t (end_of t.trees pair))) t) (caret_start t.trees p)
    ∙ (ap (λ q. final (select (outermost_start t p) (outermost_end t q)) t) (caret_end t.trees p)
    ∙ final-perform (action.Select (outermost_start t p) (outermost_end t p)) t)))

module _ (s : State) (h : ℕ) (b : Began s h) where
  -- what erasing leaves: the order besides blanks, and a caret at a node that is near
  pub record Left (t u : State) : Type 0 where
    pub order : KeepsOrderUpToBlanks t u
    pub place : Point
    pub caret : StandsAt u place
    pub near : Near s h false b place.label

  module _ (t : State) (way : Underway s h false t) (p : Point) (caret : StandsAt t p) (held : is_inside t p.label ≡ true) (room : HasRoom t) where
    is : IsValid t
    is = valid_way s h false b t way

    near_p : Near s h false b p.label
    near_p = (nearby_caret s h b t p way caret held).near

    inside_p : IsWithin t.trees 0 p.label
    inside_p = (nearby_caret s h b t p way caret held).inside

    wide : State
    wide = final widen_range t

    pub way_wide : Underway s h false (final widen_range t)
    unfolding acted
    way_wide =
        let a = outermost_start t p in
        let z = outermost_end t p in
        subst (λ u. Underway s h false u) (final-perform (action.Select a z) t ∙ sym (widened_is t p caret)) (way_steady s h b (select a z) t (steady_perform (action.Select a z) tt) way)

    -- ---- the caret stays

    module _ (m : Manner) where
      pub left_at : (v : State) → Settled t v → Left t (final (erase m) v)
      left_at v k =
          let q = caret_then t v p k.blanked caret in
          let u = final (erase m) v in
          let more = settled_trans t v u k (erased m q.place v k.blanked.valid k.room q.caret) in
          let r = caret_then t u p more.blanked caret in
          record { order = more.blanked.order; place = r.place; caret = r.caret; near = subst (λ l. Near s h false b l) (sym r.label) near_p }

      pub left_caret : StaysWhenWidened t p → Left t (final (erase m) (final widen_range t))
      left_caret still =
          let same : final widen_range t ≡ selected p p t = widened_is t p caret ∙ (ap (λ q. selected q (outermost_end t p) t) still.0 ∙ ap (λ q. selected p q t) still.1) in
          left_at (final widen_range t) (subst (Settled t) (sym same) (settled_select p t is room caret))

    -- ---- the range is widened

    near_up : (l q : ℕ) → Near s h false b l → IsWithin t.trees 0 l → is_label t.host l ≡ false → parent_of t.trees l ≡ Some q → Near s h false b q
    near_up l q near inside off child =
        let apart : l ≢ h = λ same. true≢false (sym (ap (λ o. is_label o l) (host_way s h false b t way) ∙ eq-eqb h l (sym same)) ∙ off) in
        let editable = near_editable s h false b t way l near inside apart in
        open_near s h false b t way q (inside_open t q (parent_inside t is l q child editable))

    record Ended (x y : Point) : Type 0 where
      edge : Out t.trees x y
      apart : is_label t.host x.label ≡ false

    end_step : (x y : Point) → out_of_end t x ≡ Some y → Ended x y
    unfolding out_of_end after_node
    end_step x y e =
        let c = chosen_is (eqb x.offset (length_of t.trees x.label) && not (is_label t.host x.label)) (after_in t.trees x.label (parent_of t.trees x.label)) y e in
        let m = mapped_is (λ q. at q (index_of t.trees x.label + 1)) (parent_of t.trees x.label) y c.1 in
        let parts = and_parts (eqb x.offset (length_of t.trees x.label)) (not (is_label t.host x.label)) c.0 in
        record {
          edge = record { parent = m.0; child = m.1; end = same_number x.offset (length_of t.trees x.label) parts.0; there = m.2 };
          apart = not_true (is_label t.host x.label) parts.1;
        }

    record Started (x y : Point) : Type 0 where
      edge : Into t.trees y x
      parent : parent_of t.trees x.label ≡ Some y.label
      apart : is_label t.host x.label ≡ false

    start_step : (x y : Point) → out_of_start t x ≡ Some y → Started x y
    unfolding out_of_start before_node
    start_step x y e =
        let c = chosen_is (eqb x.offset 0 && not (is_label t.host x.label)) (before_in t.trees x.label (parent_of t.trees x.label)) y e in
        let m = mapped_is (λ q. at q (index_of t.trees x.label)) (parent_of t.trees x.label) y c.1 in
        let parts = and_parts (eqb x.offset 0) (not (is_label t.host x.label)) c.0 in
        let stands : child_at t.trees y.label y.offset ≡ Some x.label = subst (λ (q : Point). child_at t.trees q.label q.offset ≡ Some x.label) (sym m.2) (own_index t.trees is.forest.distinct x.label m.0 m.1) in
        record {
          edge = record { child = x.label; stands = stands; there = ap (at x.label) (same_number x.offset 0 parts.0) };
          parent = m.1 ∙ ap (λ (q : Point). Some q.label) (sym m.2);
          apart = not_true (is_label t.host x.label) parts.1;
        }

    -- a lane of near nodes
    pub record Outward (y : Point) : Type 0 where
      pub lane : Lane (Near s h false b) true t.trees p y
      pub near : Near s h false b y.label
      pub inside : IsWithin t.trees 0 y.label

    pub to_end : Outward (outermost_end t p)
    unfolding outermost_end
    to_end = walk_keeps Outward (out_of_end t) on (turn_bound t) p (record { lane = stays refl near_p; near = near_p; inside = inside_p })
      where
        on : (x y : Point) → Outward x → out_of_end t x ≡ Some y → Outward y
        on x y k e =
            let w = end_step x y e in
            let at_y : y.label ≡ w.edge.parent = ap (λ (q : Point). q.label) w.edge.there in
            let near : Near s h false b y.label = near_up x.label y.label k.near k.inside w.apart (w.edge.child ∙ ap Some (sym at_y)) in
            record {
              lane = leads x k.lane w.edge near;
              near = near;
              inside = within_above t.trees t.next is.forest y.label x.label (w.edge.child ∙ ap Some (sym at_y)) k.inside;
            }

    pub record Inward (y : Point) : Type 0 where
      pub lane : Lane (Near s h false b) false t.trees y p
      pub near : Near s h false b y.label
      pub inside : IsWithin t.trees 0 y.label

    pub to_start : Inward (outermost_start t p)
    unfolding outermost_start
    to_start = walk_keeps Inward (out_of_start t) on (turn_bound t) p (record { lane = stays refl near_p; near = near_p; inside = inside_p })
      where
        on : (x y : Point) → Inward x → out_of_start t x ≡ Some y → Inward y
        on x y k e =
            let w = start_step x y e in
            let near : Near s h false b y.label = near_up x.label y.label k.near k.inside w.apart w.parent in
            record {
              lane = lane_trans (Near s h false b) false t.trees y x p (leads y (stays refl near) w.edge k.near) k.lane;
              near = near;
              inside = within_above t.trees t.next is.forest y.label x.label w.parent k.inside;
            }

    module _ (m : Manner) (unmerged : m.block_merging ≡ false) where
      -- where a lane is selected, or the caret stays
      left_lane : (v : Bool) (a z : Point) → Lane (Near s h false b) v t.trees a z → IsFilled t (corner v a z).label → Left t (final (erase m) (selected a z t))
      unfolding selected changed acted
      left_lane v a z lane filled = by (may_select t a && may_select t z) refl
        where
          trees : (selected a z t).trees ≡ t.trees
          trees = trees-selected a z t

          valid : IsValid (selected a z t)
          valid = valid_acted (action.Select a z) t is

          filled_there : IsFilled (selected a z t) (corner v a z).label
          filled_there = by_kind filled
            where
              by_kind : IsFilled t (corner v a z).label → IsFilled (selected a z t) (corner v a z).label
              by_kind (inl kids) = inl (λ e. kids (ap (λ f. forest.children_of f (corner v a z).label) (sym trees) ∙ e))
              by_kind (inr (chars, text, solid)) = inr (chars, ap (λ f. content_of f (corner v a z).label) trees ∙ text, solid)

          by : (w : Bool) → (may_select t a && may_select t z) ≡ w → Left t (final (erase m) (selected a z t))
          by false e = subst (λ u. Left t (final (erase m) u)) (let same : t ≡ selected a z t = rw e refl in same) (left_at m t (record { blanked = blanked_here t is; room = room }))
          by true e =
              let u = selected a z t in
              let k = emptied (Near s h false b) v m unmerged u a z valid (λ l chars q. room l chars (subst (λ f. content_of f l ≡ Some (Words chars)) trees q)) (rw e refl) (subst (λ f. Lane (Near s h false b) v f a z) (sym trees) lane) filled_there in
              record { order = k.order ∙ ap (λ f. solid_leaves (tree_of f 0)) trees; place = k.place; caret = k.caret; near = k.known }

      left_filled : IsFilled t p.label → Left t (final (erase m) (final widen_range t))
      left_filled filled = subst (λ u. Left t (final (erase m) u)) (sym (widened_is t p caret)) (elim (eqb_tells p.offset 0) [
        | inl (_, first) ↦ (
            let same : outermost_end t p ≡ p = end_stays t p (λ e. filled_long t p.label is filled (sym e ∙ first)) in
            subst (λ q. Left t (final (erase m) (selected (outermost_start t p) q t))) (sym same) (left_lane false (outermost_start t p) p to_start.lane filled))
        | inr (_, off) ↦ (
            let same : outermost_start t p ≡ p = start_stays t p off in
            subst (λ q. Left t (final (erase m) (selected q (outermost_end t p) t))) (sym same) (left_lane true p (outermost_end t p) to_end.lane filled))
      ])

      pub left_wide : StaysWhenWidened t p ⊎ IsFilled t p.label → Left t (final (erase m) (final widen_range t))
      left_wide (inl still) = left_caret m still
      left_wide (inr filled) = left_filled filled
