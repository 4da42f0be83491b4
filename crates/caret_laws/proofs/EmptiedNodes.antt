-- Deleting a selection over a valley: it takes out nodes that bear nothing, takes out and puts in blanks, and leaves a caret at a node
-- that is near.
use Rattle.std.proofs.Common.{◌≡◌, ◌≢◌, ℕ, Bool, true, false, ◌&&◌, eqb, if◌then◌else◌, [], Option, Some, IfSome, refl, sym, ap, subst, ◌∙◌, inl, inr, true≢false}
use Rattle.std.specs.Option.{option_map_or}
use Rattle.std.proofs.lemmas.Bool.{and_right}
use Rattle.std.proofs.lemmas.Bool.Decides.{eqb_tells}
use Rattle.edit_model.specs.DomModel.declared.Content.{Content}
use Rattle.edit_model.specs.DomModel.declared.Content.TheVariants.{Words}
use Rattle.edit_model.specs.DomModel.Contents.{length_of}
use Rattle.edit_model.specs.DomModel.Forest.{Forest, parent_of, content_of, tree_of, IsWithin}
use Rattle.edit_model.specs.LiveRange.declared.places.Pair.{Pair}
use Rattle.edit_model.specs.LiveRange.declared.places.Point.{Point}
use Rattle.edit_model.specs.PointOrder.PointOrder.{is_before}
use Rattle.inline_value.specs.NodeTests.CollapsedWhitespace.{is_words_content, is_words}
use Rattle.edit_model.specs.Action as action
use Rattle.edit_model.specs.Action.{selected, acted}
use Rattle.edit_model.specs.Confined.{is_editable_for, may_select}
use Rattle.edit_model.specs.Edit.{changed}
use Rattle.edit_model.specs.Run.{Run, ◌>>◌, final, answer, given, for_each, select}
use Rattle.edit_model.specs.State.{State}
use Rattle.edit_model.specs.Valid.{IsValid, IsPlacedPair}
use Rattle.edit_model.proofs.OutsideRuns.{trees-selected}
use Rattle.edit_model.proofs.Points.{Placed, placed_is}
use Rattle.edit_model.proofs.Steps.{final-perform}
use Rattle.edit_laws.proofs.SteadyRuns.{steady_perform}
use Rattle.inline_value.specs.EditActions.ActiveRange.{start_of, end_of}
use Rattle.inline_value.specs.BlockExtend.Gather.{gathered}
use Rattle.inline_value.specs.Overrides.{states_of}
use Rattle.delete_core.specs.declared.deletion.Manner.{Manner}
use Rattle.delete_core.specs.Deletion.{erase as erase_between, erase_across, delete_recorded, delete_selected, delete_range, delete_between}
use Rattle.delete_core.specs.Ends.{collapse_selection, canonicalize_start, canonicalize_end, out_of_start, out_of_end, block_of_end}
use Rattle.delete_core.specs.Equivalent.{last_equivalent, first_equivalent}
use Rattle.delete_core.specs.Erasing.{is_own_text, is_removable, removable_between, removable_nodes, remove_node, erase_within, cut_after, cut_before, remove_nodes}
use Rattle.delete_core.specs.Merging.{merge_both, merge_if}
use Rattle.delete_core.specs.Places.{comes_before}
use Rattle.caret_laws.specs.SolidOrder.{solid_leaves, HasRoom}
use Rattle.caret_laws.specs.TailLaws.{is_thing_at}
use Rattle.caret_laws.proofs.BareTrees.{Same, Chain, Selected, Onward, AllBarren, all_removed}
use Rattle.caret_laws.proofs.Canonical.{Ends, ends_answer, ends_look, ends_bind, ends_perform, Settled}
use Rattle.caret_laws.proofs.CaretErasing.{settled_start, settled_end, settled_trans}
use Rattle.caret_laws.proofs.EmptyRanges.{Emptied, none_removable, collapsed, emptied_later, after_cut, before_cut, comes_is, and_left}
use Rattle.caret_laws.proofs.InsideRuns.{Began, Underway, Near, valid_way}
use Rattle.caret_laws.proofs.Lanes.{lane_begins, lane_ends}
use Rattle.caret_laws.proofs.LineBreaks.{Br}
use Rattle.caret_laws.proofs.Trails.{not_back}
use Rattle.caret_laws.proofs.Underways.{way_steady}
use Rattle.caret_laws.proofs.Valleys.{Valley, valley_trail, valley_barren, Path, along, through, Cleared, cleared}

-- ---- texts along the way

room_on : (t u : State) → ((l : ℕ) → Same t u l) → HasRoom t → HasRoom u
room_on t u same room l chars e = elim (same l) [
  | inl before ↦ room l chars (sym before ∙ e)
  | inr br ↦ absurd (let k : Some Br ≡ Some (Words chars) = sym br ∙ e in cc)
]

words_on : (t u : State) (l : ℕ) → Same t u l → is_words u.trees l ≡ true → is_words t.trees l ≡ true
unfolding is_words
words_on t u l (inl before) words = ap (λ o. option_map_or is_words_content o false) (sym before) ∙ words
words_on t u l (inr br) words = absurd (true≢false (sym words ∙ ap (λ o. option_map_or is_words_content o false) br))

module _ (s : State) (h : ℕ) (b : Began s h) (Q : ℕ → Type 0) (x : ℕ) where
  -- a state under way with an empty node of this kind
  pub record Hollow (t : State) : Type 0 where
    pub way : Underway s h false t
    pub room : HasRoom t
    pub chain : Chain s h b Q t
    pub own : Q x
    pub empty : length_of t.trees x ≡ 0

  -- what is selected may be removed
  record Spot (t : State) : Type 0 where
    selected : Selected s h b Q t
    bares : AllBarren s h b Q t (removable_nodes t)

  valid : (t : State) → Hollow t → IsValid t
  valid t k = valid_way s h false b t k.way

  placed : (t : State) (y z : Point) → IsValid t → t.points.selection ≡ Some (record { anchor = y; focus = z }) → Placed t.trees y × Placed t.trees z
  placed t y z is selection =
      let pair : IsPlacedPair t.trees (record { anchor = y; focus = z }) = subst (λ o. IfSome o (IsPlacedPair t.trees)) selection is.placed.selection in
      (placed_is t.trees y pair.anchor, placed_is t.trees z pair.focus)

  module _ (t : State) (is : IsValid t) (y z : Point) (k : Valley (Near s h false b) t.trees x y z) (here : IsWithin t.trees 0 y.label) where
    forth : is_before t.trees z y ≡ false
    forth = not_back t.trees t.next is.forest y z (valley_trail (Near s h false b) t.trees t.next is.forest x y z k) here

    first_is : start_of t.trees (record { anchor = y; focus = z }) ≡ y
    first_is = rw forth refl

    last_is : end_of t.trees (record { anchor = y; focus = z }) ≡ z
    last_is = rw forth refl

  bares_path : (t : State) → Hollow t → (y z : Point) → t.points.selection ≡ Some (record { anchor = y; focus = z }) → Path (Near s h false b) t.trees x y z → AllBarren s h b Q t (removable_nodes t)
  unfolding removable_nodes
  bares_path t k y z selection (along v lane) =
      subst (AllBarren s h b Q t) (sym (none_removable (Near s h false b) v t (record { valid = valid t k; room = k.room; anchor = y; focus = z; selection = selection; lane = lane }))) tt
  bares_path t k y z selection (through valley) =
      let is = valid t k in
      let there = placed t y z is selection in
      let pair : Pair = record { anchor = y; focus = z } in
      let these : removable_nodes t ≡ gathered (is_removable t) t.trees y z =
      ap (λ (o : Option Pair). option_map_or (removable_between t) o []) selection
      ∙ (ap (λ q. gathered (is_removable t) t.trees q (end_of t.trees pair)) (first_is t is y z valley there.0.inside)
      ∙ ap (λ q. gathered (is_removable t) t.trees y q) (last_is t is y z valley there.0.inside)) in
      subst (AllBarren s h b Q t) (sym these) (valley_barren s h b Q t (Near s h false b) is k.chain x k.own k.empty (is_removable t) y z valley there.0.inside there.1.fits)

  path_near : (f : Forest Content) (y z : Point) → Path (Near s h false b) f x y z → Near s h false b y.label × Near s h false b z.label
  path_near f y z (along v lane) = (lane_begins (Near s h false b) v f y z lane, lane_ends (Near s h false b) v f y z lane)
  path_near f y z (through k) = (lane_begins (Near s h false b) false f y (record { label = x; offset = 0 }) k.down, lane_ends (Near s h false b) true f (record { label = x; offset = 0 }) z k.up)

  spot_at : (t : State) → Hollow t → (y z : Point) → t.points.selection ≡ Some (record { anchor = y; focus = z }) → Path (Near s h false b) t.trees x y z → Spot t
  spot_at t k y z selection path =
      let near = path_near t.trees y z path in
      record {
        selected = record { anchor = y; focus = z; selection = selection; near_anchor = near.0; near_focus = near.1 };
        bares = bares_path t k y z selection path;
      }

  selected_settled : (t u : State) → Settled t u → Selected s h b Q t → Selected s h b Q u
  selected_settled t u w k =
      let m = w.blanked.moved k.anchor k.focus k.selection in
      record {
        anchor = m.anchor;
        focus = m.focus;
        selection = m.selects;
        near_anchor = subst (Near s h false b) (sym m.at_anchor) k.near_anchor;
        near_focus = subst (Near s h false b) (sym m.at_focus) k.near_focus;
      }

  module _ (m : Manner) (unmerged : m.block_merging ≡ false) where
    abbrev pub Gone : State → State → Type 0
    Gone t u = Emptied (Near s h false b) true t u

    caret_left : (t : State) → IsValid t → HasRoom t → Selected s h b Q t → Ends (collapse_selection m.backward) t (λ u _. Gone t u)
    caret_left t is room k = collapsed (Near s h false b) true m.backward t is room k.anchor k.focus k.selection k.near_anchor k.near_focus

    unmerged_left : (p q : Option ℕ) (t : State) → IsValid t → HasRoom t → Selected s h b Q t → Ends (merge_if m.block_merging m.backward p q) t (λ u _. Gone t u)
    unfolding merge_if
    unmerged_left p q t is room k =
        subst (λ w. Ends (if w then given p (collapse_selection m.backward) (λ x. given q (collapse_selection m.backward) (merge_both m.backward x)) else collapse_selection m.backward) t (λ u _. Gone t u)) (sym unmerged)
        (caret_left t is room k)

    across : (a z : Point) (p q : Option ℕ) (t : State) → Hollow t → Spot t → (is_words t.trees a.label ≡ true → a.offset ≡ length_of t.trees a.label) → (is_words t.trees z.label ≡ true → z.offset ≡ 0) → Ends (erase_across m a z p q) t (λ u _. Gone t u)
    unfolding erase_across remove_nodes
    across a z p q t k spot after before =
        let one = after_cut a t after in
        let run = remove_nodes m.strip_wrappers a.label in
        let u = final run t in
        let two : Onward s h b Q t u = ends_look (λ v. for_each (removable_nodes v) (remove_node m.strip_wrappers a.label)) t (λ v _. Onward s h b Q t v) (all_removed s h b Q m.strip_wrappers a.label (removable_nodes t) t k.way k.chain spot.bares) in
        let three = before_cut z u (λ words. before (words_on t u z.label (two.contents z.label) words)) in
        let t1 = final (canonicalize_start false) u in
        let first : Settled u t1 = settled_start false u (valid_way s h false b u two.way) (room_on t u two.contents k.room) in
        let t2 = final (canonicalize_end false) t1 in
        let second : Settled t1 t2 = settled_end false t1 first.blanked.valid first.room in
        let both = settled_trans u t1 t2 first second in
        let merging : Run (Unit {0}) = merge_if m.block_merging m.backward p q in
        let done_all : Ends merging t2 (λ v _. Gone t v) =
        emptied_later (Near s h false b) true t t2 (final merging t2) (both.blanked.order ∙ two.order)
        (unmerged_left p q t2 both.blanked.valid both.room (selected_settled u t2 both (two.selects spot.selected))) in
        ends_bind (cut_after a) (λ _. run >> (cut_before z >> (canonicalize_start false >> (canonicalize_end false >> merging)))) t (λ v _. Gone t v)
        (subst (λ w. Ends (run >> (cut_before z >> (canonicalize_start false >> (canonicalize_end false >> merging)))) w (λ v _. Gone t v)) (sym one)
        (ends_bind run (λ _. cut_before z >> (canonicalize_start false >> (canonicalize_end false >> merging))) t (λ v _. Gone t v)
        (ends_bind (cut_before z) (λ _. canonicalize_start false >> (canonicalize_end false >> merging)) u (λ v _. Gone t v)
        (subst (λ w. Ends (canonicalize_start false >> (canonicalize_end false >> merging)) w (λ v _. Gone t v)) (sym three)
        (ends_bind (canonicalize_start false) (λ _. canonicalize_end false >> merging) u (λ v _. Gone t v)
        (ends_bind (canonicalize_end false) (λ _. merging) t1 (λ v _. Gone t v) done_all))))))

    gone_between : (a z : Point) (p q : Option ℕ) (t : State) → Hollow t → Spot t → Cleared (Near s h false b) t.trees x a z → Ends (erase_between m a z p q) t (λ u _. Gone t u)
    unfolding erase_between is_own_text
    gone_between a z p q t k spot c =
        ends_look (λ v. if (eqb a.label z.label) && is_own_text v a.label then erase_within m.backward a z else erase_across m a z p q) t (λ u _. Gone t u)
        (subst (λ w. Ends (if w then erase_within m.backward a z else erase_across m a z p q) t (λ u _. Gone t u)) (sym off) (across a z p q t k spot c.after c.before))
      where
        no_own : is_words t.trees a.label ≡ false → is_own_text t a.label ≡ false
        no_own e = and_right (is_editable_for t a.label) (is_words t.trees a.label) e

        off : ((eqb a.label z.label) && is_own_text t a.label) ≡ false
        off = elim (eqb_tells a.label z.label) [
          | inl (_, same) ↦ and_right (eqb a.label z.label) (is_own_text t a.label) (no_own (c.apart same))
          | inr (e, _) ↦ and_left (eqb a.label z.label) (is_own_text t a.label) e
        ]

    gone_recorded : (a z : Point) (t : State) → Hollow t → Spot t → Cleared (Near s h false b) t.trees x a z → Ends (delete_recorded m a z) t (λ u _. Gone t u)
    unfolding delete_recorded
    gone_recorded a z t k spot c =
        let erasing = erase_between m a z (block_of_end t a.label) (block_of_end t z.label) in
        let u = final erasing t in
        ends_look (λ v. erase_between m a z (block_of_end v a.label) (block_of_end v z.label) >> answer (states_of v)) t (λ u _. Gone t u)
        (ends_bind erasing (λ _. answer (states_of t)) t (λ u _. Gone t u)
        (ends_answer (states_of t) u (λ u _. Gone t u) (gone_between a z (block_of_end t a.label) (block_of_end t z.label) t k spot c)))

    hollow_selected : (a z : Point) (t : State) → Hollow t → Hollow (selected a z t)
    unfolding acted
    hollow_selected a z t k =
        let trees : (selected a z t).trees ≡ t.trees = trees-selected a z t in
        record {
          way = subst (λ u. Underway s h false u) (final-perform (action.Select a z) t) (way_steady s h b (select a z) t (steady_perform (action.Select a z) tt) k.way);
          room = λ l chars e. k.room l chars (subst (λ f. content_of f l ≡ Some (Words chars)) trees e);
          chain = record {
            closed = λ l q own e. k.chain.closed l q own (subst (λ f. parent_of f l ≡ Some q) trees e);
            plain = λ l own. ap (λ f. is_thing_at f l) trees ∙ k.chain.plain l own;
          };
          own = k.own;
          empty = ap (λ f. length_of f x) trees ∙ k.empty;
        }

    gone_selected : (y z a c : Point) (t : State) → Hollow t → t.points.selection ≡ Some (record { anchor = y; focus = z }) → Path (Near s h false b) t.trees x y z → Cleared (Near s h false b) t.trees x a c → Ends (delete_selected m a c) t (λ u _. Gone t u)
    unfolding delete_selected selected changed acted
    gone_selected y z a c t k selection path clear =
        let u = selected a c t in
        let trees : u.trees ≡ t.trees = trees-selected a c t in
        let k_u = hollow_selected a c t k in
        let rest = gone_recorded a c u k_u (by (may_select t a && may_select t c) refl) (subst (λ f. Cleared (Near s h false b) f x a c) (sym trees) clear) in
        ends_bind (select a c) (λ _. delete_recorded m a c) t (λ u _. Gone t u)
        (ends_perform (action.Select a c) t (λ u _. Ends (delete_recorded m a c) u (λ w _. Gone t w))
        (emptied_later (Near s h false b) true t u (final (delete_recorded m a c) u) (ap (λ f. solid_leaves (tree_of f 0)) trees) rest))
      where
        by : (w : Bool) → (may_select t a && may_select t c) ≡ w → Spot (selected a c t)
        by true e = spot_at (selected a c t) (hollow_selected a c t k) a c (rw e refl) (subst (λ f. Path (Near s h false b) f x a c) (sym (trees-selected a c t)) clear.path)
        by false e = spot_at (selected a c t) (hollow_selected a c t k) y z (rw e selection) (subst (λ f. Path (Near s h false b) f x y z) (sym (trees-selected a c t)) path)

    module _ (y z : Point) (t : State) (k : Hollow t) (selection : t.points.selection ≡ Some (record { anchor = y; focus = z })) (valley : Valley (Near s h false b) t.trees x y z)
        (above : is_words t.trees x ≡ true → (q : ℕ) × (parent_of t.trees x ≡ Some q) × Near s h false b q) where
      there : Placed t.trees y × Placed t.trees z
      there = placed t y z (valid t k) selection

      gone_range : Ends (delete_range m (last_equivalent t.trees y) (first_equivalent t.trees z)) t (λ u _. Gone t u)
      unfolding delete_range
      gone_range =
          ends_look (λ v. if comes_before v.trees a c then delete_selected m (out_of_start v.trees a) (out_of_end v.trees c) else (collapse_selection m.backward >> answer [])) t (λ u _. Gone t u)
          (by (comes_before t.trees a c) refl)
        where
          a : Point
          a = last_equivalent t.trees y

          c : Point
          c = first_equivalent t.trees z

          by : (w : Bool) → comes_before t.trees a c ≡ w → Ends (if w then delete_selected m (out_of_start t.trees a) (out_of_end t.trees c) else (collapse_selection m.backward >> answer [])) t (λ u _. Gone t u)
          by false e =
              ends_bind (collapse_selection m.backward) (λ _. answer []) t (λ u _. Gone t u)
              (ends_answer [] (final (collapse_selection m.backward) t) (λ u _. Gone t u)
              (caret_left t (valid t k) k.room (spot_at t k y z selection (through valley)).selected))
          by true e =
              gone_selected y z (out_of_start t.trees a) (out_of_end t.trees c) t k selection (through valley)
              (cleared (Near s h false b) t.trees t.next (valid t k).forest x k.empty above y z valley there.0.inside there.1.inside (comes_is (Near s h false b) true m unmerged t.trees a c e))

      pub gone : Ends (delete_between m) t (λ u _. Gone t u)
      unfolding delete_between
      gone =
          let f = t.trees in
          let pair : Pair = record { anchor = y; focus = z } in
          let is = valid t k in
          ends_look (λ v. given v.points.selection (answer []) λ pair. delete_range m (last_equivalent v.trees (start_of v.trees pair)) (first_equivalent v.trees (end_of v.trees pair))) t (λ u _. Gone t u)
          (subst (λ o. Ends (given o (answer []) λ pair. delete_range m (last_equivalent f (start_of f pair)) (first_equivalent f (end_of f pair))) t (λ u _. Gone t u)) (sym selection)
          (subst (λ w. Ends (delete_range m (last_equivalent f w) (first_equivalent f (end_of f pair))) t (λ u _. Gone t u)) (sym (first_is t is y z valley there.0.inside))
          (subst (λ w. Ends (delete_range m (last_equivalent f y) (first_equivalent f w)) t (λ u _. Gone t u)) (sym (last_is t is y z valley there.0.inside)) gone_range)))
