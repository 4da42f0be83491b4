-- The range of a caret that stands in no image and no rule is widened, and what is selected is erased: that takes out nodes that bear
-- nothing, takes out and puts in blanks, and leaves a caret at a node that is near.
use Rattle.std.proofs.Common.{◌≡◌, ◌≢◌, ◌⊎◌, ℕ, ◌+◌, ◌≤◌, Bool, true, false, ◌&&◌, List, length, Option, Some, None, IfSome, refl, sym, ap, subst, ◌∙◌, inl, inr, arith, true≢false}
use Rattle.std.specs.Option.{option_map_or}
use Rattle.std.proofs.lemmas.Bool.Decides.{eqb_tells}
use Rattle.edit_model.specs.DomModel.declared.Content.{Content}
use Rattle.edit_model.specs.DomModel.declared.Content.TheVariants.{Document, Element, Words, Remark}
use Rattle.edit_model.specs.DomModel.Contents.{name_of, length_in, length_of, has_chars_at}
use Rattle.edit_model.specs.DomModel.Forest.{tree_of, parent_of, children_of, content_of, IsWithin}
use Rattle.edit_model.specs.DomModel.Places.{index_of}
use Rattle.edit_model.proofs.DomModel.Within.{within_self, within_up}
use Rattle.edit_model.specs.LiveRange.declared.places.Point.{Point}
use Rattle.inline_value.specs.NodeTests.BlockPoints.{child_at}
use Rattle.inline_value.specs.NodeTests.CollapsedWhitespace.{is_words_content, is_words}
use Rattle.edit_model.specs.Action as action
use Rattle.edit_model.specs.Action.{selected, acted}
use Rattle.edit_model.specs.Confined.{is_inside, may_select}
use Rattle.edit_model.specs.Edit.{changed}
use Rattle.edit_model.specs.Run.{◌>>◌, final, value, select}
use Rattle.edit_model.specs.Kept.{is_thing}
use Rattle.edit_model.specs.State.{State}
use Rattle.edit_model.specs.Valid.{IsValid, IsPlacedPair}
use Rattle.edit_model.proofs.OutsideRuns.{trees-selected}
use Rattle.edit_model.proofs.Points.{placed_is}
use Rattle.edit_model.proofs.Steps.{final-perform}
use Rattle.edit_model.proofs.ValidRuns.{valid_acted}
use Rattle.edit_laws.proofs.SteadyRuns.{steady_perform}
use Rattle.command_laws.proofs.ErasingRuns.{steady_canonicalize_start, steady_canonicalize_end}
use Rattle.inline_commands.specs.RestoringStates.{restore_states}
use Rattle.delete_core.specs.declared.deletion.Manner.{Manner}
use Rattle.delete_core.specs.Deletion.{delete_between, delete_selection}
use Rattle.delete_core.specs.Ends.{canonicalize_start, canonicalize_end}
use Rattle.delete_core.specs.Places.{at}
use Rattle.text_insertion.specs.Start.{erase}
use Rattle.insert_objects.specs.Rule.{outermost_start, outermost_end, widen_range}
use Rattle.caret_laws.specs.ParagraphOrder.{StandsInNoThing}
use Rattle.caret_laws.specs.RuleLaws.{StaysWhenWidened, IsFilled}
use Rattle.caret_laws.specs.SolidOrder.{solid_leaves, StandsAt, HasRoom}
use Rattle.caret_laws.proofs.BareTrees.{Chain}
use Rattle.caret_laws.proofs.Blanks.{Blanked, Moved, blanked_here, length_words}
use Rattle.caret_laws.proofs.Canonical.{Ends, ends_bind, Settled}
use Rattle.caret_laws.proofs.CaretErasing.{settled_start, settled_end, settled_trans}
use Rattle.caret_laws.proofs.EmptiedNodes.{Hollow, gone}
use Rattle.caret_laws.proofs.EmptyRanges.{Selects, Emptied, selects_then, between, restores, emptied_later, into_stays, index_stays, child_stays}
use Rattle.caret_laws.proofs.InsideRuns.{Began, Underway, Near, valid_way}
use Rattle.caret_laws.proofs.Lanes.{Lane, stays, leads, lane_begins, lane_first, lane_last, no_words, length_children}
use Rattle.caret_laws.proofs.PutThings.{nearby_caret}
use Rattle.caret_laws.proofs.SplitTexts.{words_chars, lands_up, text_child}
use Rattle.caret_laws.proofs.Trails.{own_index, there_is, Out}
use Rattle.caret_laws.proofs.Underways.{way_steady}
use Rattle.caret_laws.proofs.Valleys.{Valley}
use Rattle.caret_laws.proofs.WidenedCarets.{start_stays, end_stays, widened_is, Left, left_at, to_start, to_end, left_wide}

-- ---- lanes where blanks come or go

module _ (P : ℕ → Type 0) (s t : State) (is : IsValid s) (k : Blanked s t) where
  parent_child : (w b : Point) → Out s.trees w b → child_at s.trees b.label (index_of s.trees w.label) ≡ Some w.label
  parent_child w b e = subst (λ (q : Point). child_at s.trees q.label (index_of s.trees w.label) ≡ Some w.label) (sym e.there) (own_index s.trees is.forest.distinct w.label e.parent e.child)

  length_kept : (l i c : ℕ) → child_at s.trees l i ≡ Some c → length_of t.trees l ≡ length_of s.trees l
  length_kept l i c e =
      length_children t.trees t.next k.valid.forest l i c (child_stays s.trees t.trees k.parents k.children l i c e)
      ∙ (ap length (k.children l) ∙ sym (length_children s.trees s.next is.forest l i c e))

  -- an edge out of a node leads out of it from where it then ends
  out_edge : (z w y : Point) → w.label ≡ z.label → w.offset ≡ length_of t.trees w.label → Out s.trees z y → Out t.trees w y
  out_edge z w y same end e = record {
    parent = e.parent;
    child = ap (parent_of t.trees) same ∙ (k.parents z.label ∙ e.child);
    end = end;
    there = e.there ∙ ap (λ i. at e.parent (i + 1)) (sym (ap (index_of t.trees) same ∙ index_stays s.trees t.trees k.parents k.children z.label));
  }

  out_stays : (p y : Point) → Lane P true s.trees p y → (p ≡ y) ⊎ Lane P true t.trees (at p.label (length_of t.trees p.label)) y
  out_stays p y (stays e own) = inl e
  out_stays p y (leads z l e own) =
      let end : Point = at p.label (length_of t.trees p.label) in
      let from_p : p ≡ z → Lane P true t.trees (at p.label (length_of t.trees p.label)) y =
      λ same. leads end (stays refl (lane_begins P true s.trees p z l)) (out_edge z end y (ap (λ (q : Point). q.label) same) refl e) own in
      inr (elim (lane_last P true s.trees p z l) [
        | inl same ↦ from_p same
        | inr (w, last) ↦ elim (out_stays p z l) [
          | inl same ↦ from_p same
          | inr more ↦ leads z more (out_edge z z y refl (e.end ∙ sym (length_kept z.label (index_of s.trees w.label) w.label (parent_child w z last))) e) own
        ]
      ])

  -- an empty node stays so
  empty_stays : (x : ℕ) → length_of s.trees x ≡ 0 → length_of t.trees x ≡ 0
  empty_stays x none = by (content_of s.trees x) refl
    where
      same : ((chars : List ℕ) → content_of s.trees x ≢ Some (Words chars)) → length_of t.trees x ≡ 0
      same off =
          ap (λ o. option_map_or (λ c. length_in c (children_of t.trees x)) o 0) (k.others x off)
          ∙ (ap (λ ks. option_map_or (λ c. length_in c ks) (content_of s.trees x) 0) (k.children x) ∙ none)

      by : (o : Option Content) → content_of s.trees x ≡ o → length_of t.trees x ≡ 0
      by None e = same (λ chars h. (let u : None ≡ Some (Words chars) = sym e ∙ h in cc))
      by (Some Document) e = same (λ chars h. (let u : Some Document ≡ Some (Words chars) = sym e ∙ h in cc))
      by (Some (Element name attributes)) e = same (λ chars h. (let u : Some (Element name attributes) ≡ Some (Words chars) = sym e ∙ h in cc))
      by (Some (Remark chars)) e = same (λ c h. (let u : Some (Remark chars) ≡ Some (Words c) = sym e ∙ h in cc))
      by (Some (Words chars)) e =
          let m = k.texts x chars e in
          let n = k.longer x m.0 m.1 in
          let before = length_words s.trees x n.0 n.1 in
          let after = length_words t.trees x m.0 m.1 in
          omega (arith, none, before, after, n.2)

  -- lanes down to a node that is then empty, and from there, are a valley
  module _ (a z p : Point) (into_p : Lane P false s.trees a p) (out_p : Lane P true s.trees p z) (none : length_of t.trees p.label ≡ 0) (m : Moved s t a z) (fits_a : m.anchor.offset ≤ length_of t.trees m.anchor.label) (fits_z : m.focus.offset ≤ length_of t.trees m.focus.label) where
    zero : (q : Point) → q.offset ≡ 0 → q ≡ at q.label 0
    zero q e = ap (at q.label) e

    lowest : (q : Point) → q.label ≡ p.label → q.offset ≤ length_of t.trees q.label → q ≡ at p.label 0
    lowest q same fits =
        let short : length_of t.trees q.label ≡ 0 = ap (length_of t.trees) same ∙ none in
        zero q (omega (arith, short, fits)) ∙ ap (λ l. at l 0) same

    low_anchor : a ≡ p → Lane P false t.trees m.anchor (at p.label 0)
    low_anchor same = stays (lowest m.anchor (m.at_anchor ∙ ap (λ (q : Point). q.label) same) fits_a) (subst P (sym m.at_anchor) (lane_begins P false s.trees a p into_p))

    low_focus : p ≡ z → Lane P true t.trees (at p.label 0) m.focus
    low_focus same = stays (sym (lowest m.focus (m.at_focus ∙ ap (λ (q : Point). q.label) (sym same)) fits_z)) (lane_begins P true s.trees p z out_p)

    valley_then : Valley P t.trees p.label m.anchor m.focus
    valley_then = record {
      down = elim (lane_last P false s.trees a p into_p) [
        | inl same ↦ low_anchor same
        | inr (u, last) ↦ elim (lane_first P false s.trees a p into_p) [
          | inl same ↦ low_anchor same
          | inr (w, first) ↦ (
              let rests : m.anchor ≡ a = m.anchor_edges.rest (no_words s.trees s.next is.forest a.label a.offset first.child first.stands) in
              subst (λ q. Lane P false t.trees q (at p.label 0)) (sym rests)
              (subst (λ q. Lane P false t.trees a q) (zero p (ap (λ (q : Point). q.offset) last.there)) (into_stays s.trees t.trees k.parents k.children P a p into_p)))
        ]
      ];
      up = elim (lane_last P true s.trees p z out_p) [
        | inl same ↦ low_focus same
        | inr (w, last) ↦ elim (out_stays p z out_p) [
          | inl same ↦ low_focus same
          | inr lane ↦ (
              let rests : m.focus ≡ z = m.focus_edges.rest (no_words s.trees s.next is.forest z.label (index_of s.trees w.label) w.label (parent_child w z last)) in
              subst (λ q. Lane P true t.trees (at p.label 0) q) (sym rests) (subst (λ o. Lane P true t.trees (at p.label o) z) none lane))
        ]
      ];
    }

-- ---- a caret in a node without children

words_at : (o : Option Content) → option_map_or is_words_content o false ≡ true → (chars : List ℕ) × (o ≡ Some (Words chars))
words_at None e = absurd (true≢false (sym e))
words_at (Some Document) e = absurd (true≢false (sym e))
words_at (Some (Element name attributes)) e = absurd (true≢false (sym e))
words_at (Some (Words chars)) e = (chars, refl)
words_at (Some (Remark chars)) e = absurd (true≢false (sym e))

module _ (s : State) (h : ℕ) (b : Began s h) (t : State) (way : Underway s h false t) (p : Point) (caret : StandsAt t p) (held : is_inside t p.label ≡ true) (room : HasRoom t) where
  abbrev Q : ℕ → Type 0
  Q l = IsWithin t.trees l p.label

  is : IsValid t
  is = valid_way s h false b t way

  -- the parent of a text is near
  text_parent : is_words t.trees p.label ≡ true → (q : ℕ) × (parent_of t.trees p.label ≡ Some q) × Near s h false b q
  unfolding is_words
  text_parent words =
      let k = nearby_caret s h b t p way caret held in
      let chars : has_chars_at t.trees p.label ≡ true = words_chars (content_of t.trees p.label) words in
      let q = text_child s h b t way p k.inside k.near k.fits chars in
      (q.0, q.1, (lands_up s h b t way p k.inside k.near k.fits q.0 (index_of t.trees p.label + 1) chars q.1 (omega arith)).good.near)

  abbrev a : Point
  a = outermost_start t p

  abbrev z : Point
  z = outermost_end t p

  abbrev wide : State
  wide = selected (outermost_start t p) (outermost_end t p) t

  trees : wide.trees ≡ t.trees
  trees = trees-selected (outermost_start t p) (outermost_end t p) t

  valid_wide : IsValid wide
  unfolding acted
  valid_wide = valid_acted (action.Select (outermost_start t p) (outermost_end t p)) t is

  room_wide : HasRoom wide
  room_wide l chars e = room l chars (subst (λ f. content_of f l ≡ Some (Words chars)) trees e)

  way_selected : Underway s h false wide
  unfolding acted
  way_selected =
      subst (λ u. Underway s h false u) (final-perform (action.Select (outermost_start t p) (outermost_end t p)) t)
      (way_steady s h b (select (outermost_start t p) (outermost_end t p)) t (steady_perform (action.Select (outermost_start t p) (outermost_end t p)) tt) way)

  abbrev first : State
  first = final (canonicalize_start true) wide

  abbrev second : State
  second = final (canonicalize_end true) first

  one : Settled wide first
  one = settled_start true wide valid_wide room_wide

  two : Settled first second
  two = settled_end true first one.blanked.valid one.room

  both : Settled wide second
  both = settled_trans wide first second one two

  way_second : Underway s h false second
  way_second = way_steady s h b (canonicalize_end true) first (steady_canonicalize_end true) (way_steady s h b (canonicalize_start true) wide (steady_canonicalize_start true) way_selected)

  module _ (plain : StandsInNoThing t p.label) where
    chain_second : Chain s h b Q second
    chain_second = record {
      closed = λ l q own e.
          within_up t.trees is.forest.distinct l q p.label (sym (ap (λ f. parent_of f l) trees) ∙ (sym (both.blanked.parents l) ∙ e)) own;
      plain = λ l own. ap (λ o. option_map_or is_thing o false) (both.blanked.names l ∙ ap (λ f. name_of f l) trees) ∙ plain l own;
    }

    own_second : Q p.label
    own_second = within_self t.trees p.label is.forest.distinct (there_is t.trees t.next is.forest p.label (nearby_caret s h b t p way caret held).inside)

    words_before : is_words second.trees p.label ≡ true → is_words t.trees p.label ≡ true
    unfolding is_words
    words_before words =
        let c = words_at (content_of second.trees p.label) words in
        let w = both.blanked.longer p.label c.0 c.1 in
        ap (λ o. option_map_or is_words_content o false) (ap (λ f. content_of f p.label) (sym trees) ∙ w.1)

    parent_second : is_words second.trees p.label ≡ true → (q : ℕ) × (parent_of second.trees p.label ≡ Some q) × Near s h false b q
    parent_second words =
        let q = text_parent (words_before words) in
        (q.0, both.blanked.parents p.label ∙ (ap (λ f. parent_of f p.label) trees ∙ q.1), q.2)

    module _ (m : Manner) (unmerged : m.block_merging ≡ false) (chosen : (may_select t (outermost_start t p) && may_select t (outermost_end t p)) ≡ true) where
      selection : wide.points.selection ≡ Some (record { anchor = a; focus = z })
      unfolding selected changed
      selection = rw chosen refl

      moved : Moved wide second a z
      moved = both.blanked.moved a z selection

      finished : (v : Bool) → Emptied (Near s h false b) v second (final (delete_between m) second) → Left s h b t (final (erase m) wide)
      unfolding erase delete_selection
      finished v e =
          let w = final (delete_selection m) wide in
          let list = value (delete_selection m) wide in
          let deleted : Ends (delete_selection m) wide (λ u _. Emptied (Near s h false b) v wide u) =
          ends_bind (canonicalize_start true) (λ _. canonicalize_end true >> delete_between m) wide (λ u _. Emptied (Near s h false b) v wide u)
          (ends_bind (canonicalize_end true) (λ _. delete_between m) first (λ u _. Emptied (Near s h false b) v wide u)
          (emptied_later (Near s h false b) v wide second (final (delete_between m) second) both.blanked.order e)) in
          let k : Ends (erase m) wide (λ u _. Emptied (Near s h false b) v wide u) =
          ends_bind (delete_selection m) restore_states wide (λ u _. Emptied (Near s h false b) v wide u) (restores (Near s h false b) v list wide w deleted) in
          record { order = k.order ∙ ap (λ f. solid_leaves (tree_of f 0)) trees; place = k.place; caret = k.caret; near = k.known }

      -- where the caret's node is then empty
      left_hollow : length_of second.trees p.label ≡ 0 → Left s h b t (final (erase m) wide)
      left_hollow none =
          let placed : IfSome (Some (record { anchor = moved.anchor; focus = moved.focus })) (IsPlacedPair second.trees) = subst (λ o. IfSome o (IsPlacedPair second.trees)) moved.selects both.blanked.valid.placed.selection in
          let hollow : Hollow s h b Q p.label second = record { way = way_second; room = both.room; chain = chain_second; own = own_second; empty = none } in
          let down : Lane (Near s h false b) false wide.trees a p = subst (λ f. Lane (Near s h false b) false f a p) (sym trees) (to_start s h b t way p caret held room).lane in
          let up : Lane (Near s h false b) true wide.trees p z = subst (λ f. Lane (Near s h false b) true f p z) (sym trees) (to_end s h b t way p caret held room).lane in
          let valley = valley_then (Near s h false b) wide second valid_wide both.blanked a z p down up none moved (placed_is second.trees moved.anchor placed.anchor).fits (placed_is second.trees moved.focus placed.focus).fits in
          finished true (gone s h b Q p.label m unmerged moved.anchor moved.focus second hollow moved.selects valley parent_second)

      -- where it isn't, it wasn't before, and the range leads one way alone
      module _ (some : length_of second.trees p.label ≢ 0) where
        some_before : length_of t.trees p.label ≢ 0
        some_before none = some (empty_stays (Near s h false b) wide second valid_wide both.blanked p.label (ap (λ f. length_of f p.label) trees ∙ none))

        in_lane : outermost_end t p ≡ p → Left s h b t (final (erase m) wide)
        in_lane same =
            let lane : Lane (Near s h false b) false wide.trees a z = subst (λ f. Lane (Near s h false b) false f a z) (sym trees) (subst (λ q. Lane (Near s h false b) false t.trees a q) (sym same) (to_start s h b t way p caret held room).lane) in
            let k : Selects (Near s h false b) false wide = record { valid = valid_wide; room = room_wide; anchor = a; focus = z; selection = selection; lane = lane } in
            let l = selects_then (Near s h false b) false wide second k both in
            let full : length_of second.trees l.later.focus.label ≢ 0 = λ none. some (ap (length_of second.trees) (sym (l.at_focus ∙ ap (λ (q : Point). q.label) same)) ∙ none) in
            finished false (between (Near s h false b) false m unmerged second l.later full)

        out_lane : outermost_start t p ≡ p → Left s h b t (final (erase m) wide)
        out_lane same =
            let lane : Lane (Near s h false b) true wide.trees a z = subst (λ f. Lane (Near s h false b) true f a z) (sym trees) (subst (λ q. Lane (Near s h false b) true t.trees q z) (sym same) (to_end s h b t way p caret held room).lane) in
            let k : Selects (Near s h false b) true wide = record { valid = valid_wide; room = room_wide; anchor = a; focus = z; selection = selection; lane = lane } in
            let l = selects_then (Near s h false b) true wide second k both in
            let full : length_of second.trees l.later.anchor.label ≢ 0 = λ none. some (ap (length_of second.trees) (sym (l.at_anchor ∙ ap (λ (q : Point). q.label) same)) ∙ none) in
            finished true (between (Near s h false b) true m unmerged second l.later full)

        left_along : Left s h b t (final (erase m) wide)
        left_along = elim (eqb_tells p.offset 0) [
          | inl (_, none) ↦ in_lane (end_stays t p (λ e. some_before (sym e ∙ none)))
          | inr (_, off) ↦ out_lane (start_stays t p off)
        ]

      left_chosen : Left s h b t (final (erase m) wide)
      left_chosen = elim (eqb_tells (length_of second.trees p.label) 0) [
        | inl (_, none) ↦ left_hollow none
        | inr (_, some) ↦ left_along some
      ]

    module _ (m : Manner) (unmerged : m.block_merging ≡ false) where
      left_plain : Left s h b t (final (erase m) (final widen_range t))
      unfolding selected changed
      left_plain = subst (λ u. Left s h b t (final (erase m) u)) (sym (widened_is t p caret)) (by (may_select t a && may_select t z) refl)
        where
          by : (v : Bool) → (may_select t a && may_select t z) ≡ v → Left s h b t (final (erase m) wide)
          by true e = left_chosen m unmerged e
          by false e = subst (λ u. Left s h b t (final (erase m) u)) (let same : t ≡ wide = rw e refl in same) (left_at s h b t way p caret held room m t (record { blanked = blanked_here t is; room = room }))

  -- where the caret stays, or its node is filled, or stands in no image and no rule
  pub left_any : (m : Manner) → m.block_merging ≡ false → StaysWhenWidened t p ⊎ (IsFilled t p.label ⊎ StandsInNoThing t p.label) → Left s h b t (final (erase m) (final widen_range t))
  left_any m unmerged (inl still) = left_wide s h b t way p caret held room m unmerged (inl still)
  left_any m unmerged (inr (inl filled)) = left_wide s h b t way p caret held room m unmerged (inr filled)
  left_any m unmerged (inr (inr plain)) = left_plain plain m unmerged
