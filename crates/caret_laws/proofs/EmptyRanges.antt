-- Deleting a selection between whose ends nothing stands but ends of nodes, or starts of nodes, where blocks aren't merged: it takes
-- out and puts in blanks alone, and leaves a caret at one of the nodes between.
use Rattle.std.proofs.Common.{◌≡◌, ◌≢◌, ◌⊎◌, ℕ, ◌+◌, ◌-◌, Bool, true, false, ◌&&◌, not, eqb, bytes_eq, nat_le, nat_lt, if◌then◌else◌, List, [], ◌∷◌, ◌++◌, map, take, drop, length, Option, Some, None, is_none, IfSome, refl, sym, ap, subst, ◌∙◌, inl, inr, arith, true≢false}
use Rattle.std.specs.Prelude.{◌^◌, slice_get}
use Rattle.std.specs.List.{filter}
use Rattle.std.specs.Option.{option_map_or}
use Rattle.std.proofs.lemmas.Bool.{and_parts, and_right, ne_eqb}
use Rattle.std.proofs.lemmas.Bool.Decides.{eqb_tells}
use Rattle.std.proofs.lemmas.List.{take-append-drop}
use Rattle.std.proofs.lemmas.Slice.Eq.{bytes_eq-Decides}
use Rattle.edit_model.specs.DomModel.declared.Content.{Content}
use Rattle.edit_model.specs.DomModel.declared.Content.TheVariants.{Document, Element, Words, Remark}
use Rattle.edit_model.specs.DomModel.Contents.{length_of}
use Rattle.edit_model.specs.DomModel.Forest.{Forest, tree_of, parent_of, children_of, content_of, preorder, IsWithin}
use Rattle.edit_model.specs.DomModel.Places.{place_in, index_of}
use Rattle.edit_model.specs.LiveRange.declared.places.Pair.{Pair}
use Rattle.edit_model.specs.LiveRange.declared.places.Point.{Point}
use Rattle.edit_model.specs.PointOrder.PointOrder.{is_before, is_placed}
use Rattle.inline_value.specs.NodeTests.BlockPoints.{child_at}
use Rattle.inline_value.specs.NodeTests.CollapsedWhitespace.{is_words}
use Rattle.inline_value.specs.NodeTests.Ranges.{is_effectively_contained, effective_nodes, all_effective}
use Rattle.inline_value.specs.NodeTests.Visible.{is_formattable}
use Rattle.edit_model.specs.declared.settings.Setting.{Setting}
use Rattle.edit_model.specs.declared.settings.Setting.TheVariants.{On, Off, Text, Absent}
use Rattle.edit_model.specs.Action as action
use Rattle.edit_model.specs.Action.{selected, with_selection, acted}
use Rattle.edit_model.specs.Confined.{spliced, is_editable_for, is_own, is_there, may_change, may_replace, may_select}
use Rattle.edit_model.specs.Edit.{Replace, changed, is_made_edit, edited}
use Rattle.edit_model.specs.Kept.{Letter}
use Rattle.edit_model.specs.Run.{Run, ◌>>◌, final, value, answer, done, given, for_each, collapse, replace, select, set_setting}
use Rattle.edit_model.specs.State.{State}
use Rattle.edit_model.specs.Valid.{IsForest, IsValid, IsPlacedPair}
use Rattle.edit_model.proofs.OutsideRuns.{trees-selected}
use Rattle.edit_model.proofs.Points.{placed_is}
use Rattle.edit_model.proofs.Steps.{final-bind, final-answer, final-look, final-edit}
use Rattle.edit_model.proofs.ValidRuns.{valid_acted}
use Rattle.inline_value.specs.EditActions.ActiveRange.{start_of, end_of}
use Rattle.inline_value.specs.EditQuery.Formattable.{formattable_between, formattable_for, formattable_nodes, first_in, first_formattable}
use Rattle.inline_value.specs.BlockExtend.Gather.{gathered}
use Rattle.inline_value.specs.declared.overrides.Override.{Override}
use Rattle.inline_value.specs.Overrides.{states_of}
use Rattle.inline_commands.specs.RestoringStates.{override_by, set_override, restore_entry, restore_states}
use Rattle.inline_commands.proofs.Merging.{none_found}
use Rattle.delete_core.specs.declared.deletion.Manner.{Manner}
use Rattle.delete_core.specs.Deletion.{erase as erase_between, erase_across, delete_recorded, delete_selected, delete_range, delete_between, delete_selection}
use Rattle.delete_core.specs.Ends.{end_for, collapse_selection, canonicalize_start, canonicalize_end, out_of_start, out_of_end, block_of_end}
use Rattle.delete_core.specs.Equivalent.{last_equivalent, first_equivalent}
use Rattle.delete_core.specs.Erasing.{is_own_text, is_removable, removable_between, removable_nodes, remove_node, erase_within, cut_after, cut_before, remove_nodes}
use Rattle.delete_core.specs.Merging.{merge_both, merge_if}
use Rattle.delete_core.specs.Places.{at, comes_before}
use Rattle.text_insertion.specs.Start.{erase}
use Rattle.caret_laws.specs.RuleLaws.{IsFilled}
use Rattle.caret_laws.specs.SolidOrder.{is_solid, solid_leaves, KeepsOrderUpToBlanks, StandsAt, HasRoom}
use Rattle.caret_laws.proofs.Blanks.{Moved, Blanked, length_words, edit_left}
use Rattle.caret_laws.proofs.Canonical.{Ends, ends_answer, ends_look, ends_bind, ends_perform, Settled}
use Rattle.caret_laws.proofs.CaretErasing.{caret_start, caret_end, settled_start, settled_end, settled_trans, to_last, from_first}
use Rattle.caret_laws.proofs.Lanes.{Lane, stays, leads, lane_trail, lane_begins, lane_ends, lane_first, lane_last, words_off, no_words, length_children, lane_from, lane_to, none_gathered}
use Rattle.caret_laws.proofs.Trails.{own_index, not_itself, Into, Out, Trail, trail_trans, not_back}

-- ---- filled nodes

-- a node that has a child, or a text that isn't empty, isn't empty
pub filled_long : (s : State) (l : ℕ) → IsValid s → IsFilled s l → length_of s.trees l ≢ 0
filled_long s l is (inl kids) e = by (children_of s.trees l) refl
  where
    by : (ks : List ℕ) → children_of s.trees l ≡ ks → ⊥
    by [] none = kids none
    by (k ∷ ks) some =
        let long : length_of s.trees l ≡ length (k ∷ ks) = length_children s.trees s.next is.forest l 0 k (ap (λ list. slice_get list 0) some) ∙ ap length some in
        omega (arith, long, e)
filled_long s l is (inr (chars, text, solid)) e = by chars (sym (length_words s.trees l chars text) ∙ e) solid
  where
    by : (xs : List ℕ) → length xs ≡ 0 → (filter is_solid (map Letter xs) ≡ [] → ⊥) → ⊥
    by [] none k = k refl
    by (x ∷ xs) none k = omega (arith, none)

-- and stays so where blanks come or go
pub filled_then : (s t : State) (l : ℕ) → Blanked s t → IsFilled s l → IsFilled t l
filled_then s t l k (inl kids) = inl (λ e. kids (sym (k.children l) ∙ e))
filled_then s t l k (inr (chars, text, solid)) =
    let m = k.texts l chars text in
    inr (m.0, m.1, λ e. solid (sym m.2 ∙ e))

-- ---- lanes stay where blanks come or go

module _ (f g : Forest Content) (parents : (l : ℕ) → parent_of g l ≡ parent_of f l) (children : (l : ℕ) → children_of g l ≡ children_of f l) where
  pub index_stays : (l : ℕ) → index_of g l ≡ index_of f l
  index_stays l = ap (λ o. option_map_or (λ p. place_in (children_of g p) l) o 0) (parents l) ∙ by (parent_of f l)
    where
      by : (o : Option ℕ) → option_map_or (λ p. place_in (children_of g p) l) o 0 ≡ option_map_or (λ p. place_in (children_of f p) l) o 0
      by None = refl
      by (Some p) = ap (λ ks. place_in ks l) (children p)

  pub child_stays : (p i k : ℕ) → child_at f p i ≡ Some k → child_at g p i ≡ Some k
  child_stays p i k e = ap (λ ks. slice_get ks i) (children p) ∙ e

  pub into_stays : (P : ℕ → Type 0) (x y : Point) → Lane P false f x y → Lane P false g x y
  into_stays P x y (stays e p) = stays e p
  into_stays P x y (leads z l s p) = leads z (into_stays P x z l) (record { child = s.child; stands = child_stays z.label z.offset s.child s.stands; there = s.there }) p

module _ (P : ℕ → Type 0) (s t : State) (is : IsValid s) (k : Blanked s t) (a z : Point) (m : Moved s t a z) where
  abbrev HasChild : ℕ → Type 0
  HasChild l = (i : ℕ) × (c : ℕ) × (child_at s.trees l i ≡ Some c)

  -- a node with a child is as long as it was
  length_stays : (l : ℕ) → HasChild l → length_of t.trees l ≡ length_of s.trees l
  length_stays l (i, c, e) =
      length_children t.trees t.next k.valid.forest l i c (child_stays s.trees t.trees k.parents k.children l i c e)
      ∙ (ap length (k.children l) ∙ sym (length_children s.trees s.next is.forest l i c e))

  -- a point of the lane, as it is afterwards
  record Shifted (y : Point) : Type 0 where
    place : Point
    lane : Lane P true t.trees m.anchor place
    at_node : place.label ≡ y.label
    ends : y.offset ≡ length_of s.trees y.label → place.offset ≡ length_of t.trees place.label
    here : (a ≡ y) ⊎ ((place ≡ y) × HasChild y.label)

  shifted : (y : Point) → Lane P true s.trees a y → Shifted y
  shifted y (stays e p) = record {
    place = m.anchor;
    lane = stays refl (subst P (sym m.at_anchor) p);
    at_node = m.at_anchor ∙ ap (λ (w : Point). w.label) e;
    ends = λ h. m.anchor_edges.end (subst (λ (w : Point). w.offset ≡ length_of s.trees w.label) (sym e) h);
    here = inl e;
  }
  shifted y (leads x l s' p) =
      let w = shifted x l in
      let child : HasChild y.label = (index_of s.trees x.label, x.label, subst (λ (q : Point). child_at s.trees q.label (index_of s.trees x.label) ≡ Some x.label) (sym s'.there) (own_index s.trees is.forest.distinct x.label s'.parent s'.child)) in
      let edge : Out t.trees w.place y = record {
        parent = s'.parent;
        child = ap (parent_of t.trees) w.at_node ∙ (k.parents x.label ∙ s'.child);
        end = w.ends s'.end;
        there = s'.there ∙ ap (λ i. at s'.parent (i + 1)) (sym (ap (index_of t.trees) w.at_node ∙ index_stays s.trees t.trees k.parents k.children x.label));
      } in
      record {
        place = y;
        lane = leads w.place w.lane edge p;
        at_node = refl;
        ends = λ h. h ∙ sym (length_stays y.label child);
        here = inr (refl, child);
      }

  -- a lane out of nodes
  out_lane : Lane P true s.trees a z → Lane P true t.trees m.anchor m.focus
  out_lane lane = by (shifted z lane) (shifted z lane).here
    where
      by : (w : Shifted z) → (a ≡ z) ⊎ ((w.place ≡ z) × HasChild z.label) → Lane P true t.trees m.anchor m.focus
      by w (inl e) = stays (m.together e) (subst P (sym m.at_anchor) (lane_begins P true s.trees a z lane))
      by w (inr (e, (i, c, h))) =
          let same : m.focus ≡ z = m.focus_edges.rest (no_words s.trees s.next is.forest z.label i c h) in
          subst (λ q. Lane P true t.trees m.anchor q) (e ∙ sym same) w.lane

  -- a lane into nodes
  in_lane : Lane P false s.trees a z → Lane P false t.trees m.anchor m.focus
  in_lane lane = by (lane_first P false s.trees a z lane) (lane_last P false s.trees a z lane)
    where
      by : (a ≡ z) ⊎ ((x : Point) × Into s.trees a x) → (a ≡ z) ⊎ ((x : Point) × Into s.trees x z) → Lane P false t.trees m.anchor m.focus
      by (inl e) last = stays (m.together e) (subst P (sym m.at_anchor) (lane_begins P false s.trees a z lane))
      by (inr first) (inl e) = stays (m.together e) (subst P (sym m.at_anchor) (lane_begins P false s.trees a z lane))
      by (inr (x, first)) (inr (y, last)) =
          let start : m.anchor ≡ a = m.anchor_edges.rest (no_words s.trees s.next is.forest a.label a.offset first.child first.stands) in
          let zero : z.offset ≡ 0 = ap (λ (w : Point). w.offset) last.there in
          let end : m.focus ≡ z = ap (λ l. at l m.focus.offset) m.at_focus ∙ ap (at z.label) (m.focus_edges.start zero ∙ sym zero) in
          subst (λ w. Lane P false t.trees w m.focus) (sym start)
          (subst (λ w. Lane P false t.trees a w) (sym end) (into_stays s.trees t.trees k.parents k.children P a z lane))

  pub lane_then : (v : Bool) → Lane P v s.trees a z → Lane P v t.trees m.anchor m.focus
  lane_then true lane = out_lane lane
  lane_then false lane = in_lane lane

-- ---- the ends of a lane

-- where the lane begins that leads out of nodes, and where the one ends that leads into nodes
abbrev pub corner : Bool → Point → Point → Point
corner true x y = x
corner false x y = y

module _ (P : ℕ → Type 0) (v : Bool) (f : Forest Content) (next : ℕ) (law : IsForest f next) (x y : Point) (lane : Lane P v f x y) (here : IsWithin f 0 x.label) where
  pub not_reversed : is_before f y x ≡ false
  not_reversed = not_back f next law x y (lane_trail P v f x y lane) here

  pub start_is : start_of f (record { anchor = x; focus = y }) ≡ x
  start_is = rw not_reversed refl

  pub end_is : end_of f (record { anchor = x; focus = y }) ≡ y
  end_is = rw not_reversed refl

-- what holds of the ends of what is deleted: neither is a text that the deletion would leave or cut
pub record Gap (P : ℕ → Type 0) (v : Bool) (f : Forest Content) (a b : Point) : Type 0 where
  pub lane : Lane P v f a b
  pub start : out_of_start f a ≡ a
  pub end : out_of_end f b ≡ b
  pub apart : (a.label ≡ b.label) → is_words f a.label ≡ false
  pub after : is_words f a.label ≡ true → a.offset ≡ length_of f a.label
  pub before : is_words f b.label ≡ true → b.offset ≡ 0

pub start_left : (f : Forest Content) (a : Point) → (is_words f a.label && eqb a.offset 0) ≡ false → out_of_start f a ≡ a
unfolding out_of_start
start_left f a e = rw e refl

pub end_left : (f : Forest Content) (b : Point) → (is_words f b.label && eqb b.offset (length_of f b.label)) ≡ false → out_of_end f b ≡ b
unfolding out_of_end
end_left f b e = rw e refl

pub and_left : (a b : Bool) → a ≡ false → (a && b) ≡ false
and_left a b e = rw e refl

module _ (P : ℕ → Type 0) (f : Forest Content) (next : ℕ) (law : IsForest f next) (x y : Point) (here : IsWithin f 0 x.label) where
  -- an end that an edge leads to isn't at a text
  out_off : (w b : Point) → Out f w b → is_words f b.label ≡ false
  out_off w b s =
      words_off f next law b.label (index_of f w.label) w.label
      (subst (λ (q : Point). child_at f q.label (index_of f w.label) ≡ Some w.label) (sym s.there) (own_index f law.distinct w.label s.parent s.child))

  module _ (a b : Point) (before : is_before f a b ≡ true) where
    apart_ends : a ≢ b
    apart_ends e = true≢false (sym (subst (λ w. is_before f a w ≡ true) (sym e) before) ∙ not_itself f a)

    -- where the equivalent points of the ends of a lane come one before the other, they are points of the lane
    pub gap_out : length_of f x.label ≢ 0 → Lane P true f x a → Lane P true f a b → Gap P true f a b
    gap_out full early lane = by (lane_first P true f a b lane) (lane_last P true f a b lane) (lane_last P true f x a early)
      where
        by : (a ≡ b) ⊎ ((w : Point) × Out f a w) → (a ≡ b) ⊎ ((w : Point) × Out f w b) → (x ≡ a) ⊎ ((w : Point) × Out f w a) → Gap P true f a b
        by (inl e) last own = absurd (apart_ends e)
        by (inr first) (inl e) own = absurd (apart_ends e)
        by (inr (w, first)) (inr (u, last)) own =
            let off : is_words f b.label ≡ false = out_off u b last in
            let some : a.offset ≢ 0 = λ none. (elim own [
              | inl e ↦ full (subst (λ (q : Point). length_of f q.label ≡ 0) (sym e) (sym first.end ∙ none))
              | inr (u', s) ↦ (let more : index_of f u'.label + 1 ≡ 0 = ap (λ (q : Point). q.offset) (sym s.there) ∙ none in omega (arith, more))
            ]) in
            record {
              lane = lane;
              start = start_left f a (and_right (is_words f a.label) (eqb a.offset 0) (ne_eqb a.offset 0 some));
              end = end_left f b (and_left (is_words f b.label) (eqb b.offset (length_of f b.label)) off);
              apart = λ same. ap (is_words f) same ∙ off;
              after = λ _. first.end;
              before = λ words. absurd (true≢false (sym words ∙ off));
            }

    pub gap_in : length_of f y.label ≢ 0 → Lane P false f a b → Lane P false f b y → Gap P false f a b
    gap_in full lane late = by (lane_first P false f a b lane) (lane_last P false f a b lane) (lane_first P false f b y late)
      where
        by : (a ≡ b) ⊎ ((w : Point) × Into f a w) → (a ≡ b) ⊎ ((w : Point) × Into f w b) → (b ≡ y) ⊎ ((w : Point) × Into f b w) → Gap P false f a b
        by (inl e) last own = absurd (apart_ends e)
        by (inr first) (inl e) own = absurd (apart_ends e)
        by (inr (w, first)) (inr (u, last)) own =
            let off : is_words f a.label ≡ false = words_off f next law a.label a.offset first.child first.stands in
            let zero : b.offset ≡ 0 = ap (λ (q : Point). q.offset) last.there in
            let kept : (is_words f b.label && eqb b.offset (length_of f b.label)) ≡ false = elim own [
              | inl e ↦ and_right (is_words f b.label) (eqb b.offset (length_of f b.label)) (ne_eqb b.offset (length_of f b.label) (λ same. full (subst (λ (q : Point). length_of f q.label ≡ 0) e (sym same ∙ zero))))
              | inr (u', s) ↦ and_left (is_words f b.label) (eqb b.offset (length_of f b.label)) (words_off f next law b.label b.offset s.child s.stands)
            ] in
            record {
              lane = lane;
              start = start_left f a (and_left (is_words f a.label) (eqb a.offset 0) off);
              end = end_left f b kept;
              apart = λ same. off;
              after = λ words. absurd (true≢false (sym words ∙ off));
              before = λ _. zero;
            }

    gap_of : (v : Bool) → length_of f (corner v x y).label ≢ 0 → Lane P v f x a → Lane P v f a b → Lane P v f b y → Gap P v f a b
    gap_of true full early lane late = gap_out full early lane
    gap_of false full early lane late = gap_in full lane late

  -- the equivalent points of the ends of a lane
  gap_between : (v : Bool) → length_of f (corner v x y).label ≢ 0 → Lane P v f x y → IsWithin f 0 y.label → is_before f (last_equivalent f x) (first_equivalent f y) ≡ true → Gap P v f (last_equivalent f x) (first_equivalent f y)
  gap_between v full lane there before =
      let a = last_equivalent f x in
      let b = first_equivalent f y in
      let ahead : Trail f x a = to_last f next law x in
      let behind = from_first f next law y there in
      let never : Trail f b a → ⊥ = λ t. true≢false (sym before ∙ not_back f next law b a t behind.1) in
      elim (lane_from f next law P v x y a lane ahead) [
        | inr t ↦ absurd (never (trail_trans f b y a behind.0 t))
        | inl k ↦ elim (lane_to f next law P v a y b k.rest behind.0) [
          | inr t ↦ absurd (never t)
          | inl j ↦ gap_of a b before v full k.first j.first j.rest
        ]
      ]

-- ---- what leaves the state as it is

-- no characters for none
empty_replace : (n o : ℕ) (s : State) → edited (Replace n o 0 []) s ≡ s
unfolding is_made_edit may_replace
empty_replace n o s = edit_left (Replace n o 0 []) s off
  where
    nothing : (chars : List ℕ) → bytes_eq (spliced chars o 0 []) chars ≡ true
    nothing chars = (bytes_eq-Decides (spliced chars o 0 []) chars).1 ((let none : o + 0 ≡ o = omega arith in ap (λ m. take o chars ++ drop m chars) none) ∙ take-append-drop o chars)

    last_false : (a b : Bool) → (a && (b && not true)) ≡ false
    last_false true true = refl
    last_false true false = refl
    last_false false b = refl

    by : (c : Option Content) → may_change c o 0 [] ≡ false
    by None = refl
    by (Some Document) = refl
    by (Some (Element name attributes)) = refl
    by (Some (Words chars)) = rw (nothing chars) (last_false (nat_le (o + 0) (length chars)) (nat_lt (length (spliced chars o 0 [])) (2 ^ 32)))
    by (Some (Remark chars)) = refl

    off : is_made_edit (Replace n o 0 []) s ≡ false
    off = and_right (is_own s n) (may_change (content_of s.trees n) o 0 []) (by (content_of s.trees n))

own_words : (s : State) (l : ℕ) → is_own_text s l ≡ true → is_words s.trees l ≡ true
unfolding is_own_text
own_words s l e = (and_parts (is_editable_for s l) (is_words s.trees l) e).1

none_replaced : (n o count : ℕ) (s : State) → count ≡ 0 → final (replace n o count [] >> done) s ≡ s
none_replaced n o count s e = rw (final-bind, final-edit, final-answer) (ap (λ c. edited (Replace n o c []) s) e ∙ empty_replace n o s)

pub after_cut : (p : Point) (s : State) → (is_words s.trees p.label ≡ true → p.offset ≡ length_of s.trees p.label) → final (cut_after p) s ≡ s
unfolding cut_after
after_cut p s at_end = final-look _ s ∙ by (is_own_text s p.label) refl
  where
    by : (v : Bool) → is_own_text s p.label ≡ v → final (if v then replace p.label p.offset (length_of s.trees p.label - p.offset) [] >> done else done) s ≡ s
    by false e = final-answer tt s
    by true e = (
        let end = at_end (own_words s p.label e) in
        none_replaced p.label p.offset (length_of s.trees p.label - p.offset) s (omega (arith, end)))

pub before_cut : (q : Point) (s : State) → (is_words s.trees q.label ≡ true → q.offset ≡ 0) → final (cut_before q) s ≡ s
unfolding cut_before
before_cut q s at_start = final-look _ s ∙ by (is_own_text s q.label) refl
  where
    by : (v : Bool) → is_own_text s q.label ≡ v → final (if v then replace q.label 0 q.offset [] >> done else done) s ≡ s
    by false e = final-answer tt s
    by true e = none_replaced q.label 0 q.offset s (at_start (own_words s q.label e))

-- ---- selections over lanes

module _ (P : ℕ → Type 0) (v : Bool) where
  -- a valid state, in which such a range is selected
  pub record Selects (s : State) : Type 0 where
    pub valid : IsValid s
    pub room : HasRoom s
    pub anchor : Point
    pub focus : Point
    pub selection : s.points.selection ≡ Some (record { anchor = anchor; focus = focus })
    pub lane : Lane P v s.trees anchor focus

  anchor_inside : (s : State) (k : Selects s) → IsWithin s.trees 0 k.anchor.label
  anchor_inside s k =
      let placed : IfSome (Some (record { anchor = k.anchor; focus = k.focus })) (IsPlacedPair s.trees) = subst (λ o. IfSome o (IsPlacedPair s.trees)) k.selection k.valid.placed.selection in
      (placed_is s.trees k.anchor placed.anchor).inside

  focus_inside : (s : State) (k : Selects s) → IsWithin s.trees 0 k.focus.label
  focus_inside s k =
      let placed : IfSome (Some (record { anchor = k.anchor; focus = k.focus })) (IsPlacedPair s.trees) = subst (λ o. IfSome o (IsPlacedPair s.trees)) k.selection k.valid.placed.selection in
      (placed_is s.trees k.focus placed.focus).inside

  pub none_removable : (s : State) → Selects s → removable_nodes s ≡ []
  unfolding removable_nodes
  none_removable s k =
      let f = s.trees in
      let pair : Pair = record { anchor = k.anchor; focus = k.focus } in
      let here = anchor_inside s k in
      let first = start_is P v f s.next k.valid.forest k.anchor k.focus k.lane here in
      let last = end_is P v f s.next k.valid.forest k.anchor k.focus k.lane here in
      ap (λ (o : Option Pair). option_map_or (removable_between s) o []) k.selection
      ∙ (ap (λ q. gathered (is_removable s) f q (end_of f pair)) first
      ∙ (ap (λ q. gathered (is_removable s) f k.anchor q) last
      ∙ none_gathered f s.next k.valid.forest P (is_removable s) v k.anchor k.focus k.lane here))

  nothing_removed : (strip : Bool) (start : ℕ) (s : State) → Selects s → final (remove_nodes strip start) s ≡ s
  unfolding remove_nodes for_each
  nothing_removed strip start s k = final-look _ s ∙ (ap (λ list. final (for_each list (remove_node strip start)) s) (none_removable s k) ∙ final-answer tt s)

  -- ---- a caret is left

  -- the order is kept besides blanks, and the selection is a caret at such a node
  pub record Emptied (u s : State) : Type 0 where
    pub valid : IsValid s
    pub room : HasRoom s
    pub order : KeepsOrderUpToBlanks u s
    pub place : Point
    pub caret : StandsAt s place
    pub known : P place.label

  collapsed_to : (s : State) → IsValid s → HasRoom s → (q : Point) → is_placed s.trees q ≡ true → P q.label → Ends (collapse q) s (λ t _. Emptied s t)
  unfolding acted selected may_select changed
  collapsed_to s is room q placed known =
      let t = selected q q s in
      let trees : t.trees ≡ s.trees = trees-selected q q s in
      ends_perform (action.Select q q) s (λ t _. Emptied s t) (record {
        valid = valid_acted (action.Select q q) s is;
        room = λ l chars e. room l chars (subst (λ f. content_of f l ≡ Some (Words chars)) trees e);
        order = ap (λ f. solid_leaves (tree_of f 0)) trees;
        place = q;
        caret = stands placed;
        known = known;
      })
    where
      stands : is_placed s.trees q ≡ true → StandsAt (selected q q s) q
      stands placed = rw placed refl

  pub collapsed : (backward : Bool) (s : State) → IsValid s → HasRoom s → (x y : Point) → s.points.selection ≡ Some (record { anchor = x; focus = y }) → P x.label → P y.label → Ends (collapse_selection backward) s (λ t _. Emptied s t)
  unfolding collapse_selection
  collapsed backward s is room x y selection px py =
      ends_look (λ s. given s.points.selection done λ pair. collapse (end_for backward s.trees pair)) s (λ t _. Emptied s t)
      (subst (λ o. Ends (given o done λ pair. collapse (end_for backward s.trees pair)) s (λ t _. Emptied s t)) (sym selection) (by backward (is_before s.trees y x)))
    where
      placed : IsPlacedPair s.trees (record { anchor = x; focus = y })
      placed = subst (λ o. IfSome o (IsPlacedPair s.trees)) selection is.placed.selection

      to_x : Ends (collapse x) s (λ t _. Emptied s t)
      to_x = collapsed_to s is room x placed.anchor px

      to_y : Ends (collapse y) s (λ t _. Emptied s t)
      to_y = collapsed_to s is room y placed.focus py

      by : (backward w : Bool) → Ends (collapse (if backward then (if w then x else y) else (if w then y else x))) s (λ t _. Emptied s t)
      by true true = to_x
      by true false = to_y
      by false true = to_y
      by false false = to_x

  pub emptied_later : (u s t : State) → KeepsOrderUpToBlanks u s → Emptied s t → Emptied u t
  emptied_later u s t order k = record { valid = k.valid; room = k.room; order = k.order ∙ order; place = k.place; caret = k.caret; known = k.known }

  -- ---- the overrides that are restored there

  -- the overrides alone are others
  record Restored (s t : State) : Type 0 where
    trees : t.trees ≡ s.trees
    selection : t.points.selection ≡ s.points.selection
    valid : IsValid t

  restored_one : (o : Override) (s : State) → IsValid s → Ends (set_override o) s (λ t _. Restored s t)
  unfolding set_override acted
  restored_one o s is = by o.setting
    where
      same : Restored s s
      same = record { trees = refl; selection = refl; valid = is }

      set : (setting : Setting) → Ends (set_setting o.command setting) s (λ t _. Restored s t)
      set setting = ends_perform (action.Override o.command setting) s (λ t _. Restored s t) (record { trees = refl; selection = refl; valid = valid_acted (action.Override o.command setting) s is })

      by : (setting : Setting) → Ends (override_by o.command setting) s (λ t _. Restored s t)
      by Absent = ends_answer tt s (λ t _. Restored s t) same
      by On = set On
      by Off = set Off
      by (Text w) = set (Text w)

  restored_all : (list : List Override) (s : State) → IsValid s → Ends (for_each list set_override) s (λ t _. Restored s t)
  unfolding for_each
  restored_all [] s is = ends_answer tt s (λ t _. Restored s t) (record { trees = refl; selection = refl; valid = is })
  restored_all (o ∷ list) s is =
      let t = final (set_override o) s in
      let first = restored_one o s is in
      let rest = restored_all list t first.valid in
      ends_bind (set_override o) (λ _. for_each list set_override) s (λ t _. Restored s t)
      (record { trees = rest.trees ∙ first.trees; selection = rest.selection ∙ first.selection; valid = rest.valid })

  -- at a caret no node is contained in effect
  none_formattable : (s : State) (q : Point) → StandsAt s q → (host : Option ℕ) → first_formattable s host ≡ None
  unfolding first_formattable formattable_nodes formattable_between effective_nodes is_effectively_contained
  none_formattable s q caret None = refl
  none_formattable s q caret (Some host) =
      let f = s.trees in
      let pair : Pair = record { anchor = q; focus = q } in
      ap (λ o. first_in (formattable_for f (Some host) o)) caret
      ∙ (ap (λ x. first_in (filter (is_formattable f host) (effective_nodes f x (end_of f pair)))) (caret_start f q)
      ∙ (ap (λ x. first_in (filter (is_formattable f host) (effective_nodes f q x))) (caret_end f q)
      ∙ ap (λ list. first_in (filter (is_formattable f host) list)) (none_found (is_effectively_contained f q q) (preorder f) (λ l found e. true≢false (sym (and_parts (is_before f q q) (all_effective f q q (tree_of f l)) e).0 ∙ not_itself f q)))))

  pub restores : (list : List Override) (u s : State) → Emptied u s → Ends (restore_states list) s (λ t _. Emptied u t)
  unfolding restore_states
  restores list u s k =
      ends_look (λ s. if is_none (first_formattable s s.host) then for_each list set_override else for_each list restore_entry) s (λ t _. Emptied u t)
      (subst (λ o. Ends (if is_none o then for_each list set_override else for_each list restore_entry) s (λ t _. Emptied u t)) (sym (none_formattable s k.place k.caret s.host)) later)
    where
      later : Ends (for_each list set_override) s (λ t _. Emptied u t)
      later =
          let t = final (for_each list set_override) s in
          let r = restored_all list s k.valid in
          record {
            valid = r.valid;
            room = λ l chars e. k.room l chars (subst (λ f. content_of f l ≡ Some (Words chars)) r.trees e);
            order = ap (λ f. solid_leaves (tree_of f 0)) r.trees ∙ k.order;
            place = k.place;
            caret = r.selection ∙ k.caret;
            known = k.known;
          }

  -- ---- deleting

  selects_here : (s : State) (k : Selects s) (t : State) → IsValid t → t.trees ≡ s.trees → (x y : Point) → t.points.selection ≡ Some (record { anchor = x; focus = y }) → Lane P v s.trees x y → Selects t
  selects_here s k t is trees x y selection lane = record {
    valid = is;
    room = λ l chars e. k.room l chars (subst (λ f. content_of f l ≡ Some (Words chars)) trees e);
    anchor = x;
    focus = y;
    selection = selection;
    lane = subst (λ f. Lane P v f x y) (sym trees) lane;
  }

  -- blanks come and go
  pub record Later (s t : State) (k : Selects s) : Type 0 where
    pub later : Selects t
    pub at_anchor : later.anchor.label ≡ k.anchor.label
    pub at_focus : later.focus.label ≡ k.focus.label

  pub selects_then : (s t : State) (k : Selects s) → Settled s t → Later s t k
  selects_then s t k w =
      let m = w.blanked.moved k.anchor k.focus k.selection in
      record {
        later = record {
          valid = w.blanked.valid;
          room = w.room;
          anchor = m.anchor;
          focus = m.focus;
          selection = m.selects;
          lane = lane_then P s t k.valid w.blanked k.anchor k.focus m v k.lane;
        };
        at_anchor = m.at_anchor;
        at_focus = m.at_focus;
      }

  module _ (m : Manner) (unmerged : m.block_merging ≡ false) where
    collapsed_here : (s : State) → Selects s → Ends (collapse_selection m.backward) s (λ t _. Emptied s t)
    collapsed_here s k = collapsed m.backward s k.valid k.room k.anchor k.focus k.selection (lane_begins P v s.trees k.anchor k.focus k.lane) (lane_ends P v s.trees k.anchor k.focus k.lane)

    not_merged : (b c : Option ℕ) (s : State) → Selects s → Ends (merge_if m.block_merging m.backward b c) s (λ t _. Emptied s t)
    unfolding merge_if
    not_merged b c s k = subst (λ w. Ends (if w then (given b (collapse_selection m.backward) λ x. given c (collapse_selection m.backward) (merge_both m.backward x)) else collapse_selection m.backward) s (λ t _. Emptied s t)) (sym unmerged) (collapsed_here s k)

    across : (a b : Point) (p q : Option ℕ) (s : State) → Selects s → Gap P v s.trees a b → Ends (erase_across m a b p q) s (λ t _. Emptied s t)
    unfolding erase_across
    across a b p q s k gap =
        let one = after_cut a s gap.after in
        let two = nothing_removed m.strip_wrappers a.label s k in
        let three = before_cut b s gap.before in
        let t1 = final (canonicalize_start false) s in
        let first : Settled s t1 = settled_start false s k.valid k.room in
        let t2 = final (canonicalize_end false) t1 in
        let second : Settled t1 t2 = settled_end false t1 first.blanked.valid first.room in
        let both = settled_trans s t1 t2 first second in
        let done_all : Ends (merge_if m.block_merging m.backward p q) t2 (λ t _. Emptied s t) =
        emptied_later s t2 (final (merge_if m.block_merging m.backward p q) t2) both.blanked.order (not_merged p q t2 (selects_then s t2 k both).later) in
        let merging : Run (Unit {0}) = merge_if m.block_merging m.backward p q in
        ends_bind (cut_after a) (λ _. remove_nodes m.strip_wrappers a.label >> (cut_before b >> (canonicalize_start false >> (canonicalize_end false >> merging)))) s (λ t _. Emptied s t)
        (subst (λ w. Ends (remove_nodes m.strip_wrappers a.label >> (cut_before b >> (canonicalize_start false >> (canonicalize_end false >> merging)))) w (λ t _. Emptied s t)) (sym one)
        (ends_bind (remove_nodes m.strip_wrappers a.label) (λ _. cut_before b >> (canonicalize_start false >> (canonicalize_end false >> merging))) s (λ t _. Emptied s t)
        (subst (λ w. Ends (cut_before b >> (canonicalize_start false >> (canonicalize_end false >> merging))) w (λ t _. Emptied s t)) (sym two)
        (ends_bind (cut_before b) (λ _. canonicalize_start false >> (canonicalize_end false >> merging)) s (λ t _. Emptied s t)
        (subst (λ w. Ends (canonicalize_start false >> (canonicalize_end false >> merging)) w (λ t _. Emptied s t)) (sym three)
        (ends_bind (canonicalize_start false) (λ _. canonicalize_end false >> merging) s (λ t _. Emptied s t)
        (ends_bind (canonicalize_end false) (λ _. merging) t1 (λ t _. Emptied s t) done_all)))))))

    erased_gap : (a b : Point) (p q : Option ℕ) (s : State) → Selects s → Gap P v s.trees a b → Ends (erase_between m a b p q) s (λ t _. Emptied s t)
    unfolding erase_between is_own_text
    erased_gap a b p q s k gap =
        ends_look (λ s. if (eqb a.label b.label) && is_own_text s a.label then erase_within m.backward a b else erase_across m a b p q) s (λ t _. Emptied s t)
        (subst (λ w. Ends (if w then erase_within m.backward a b else erase_across m a b p q) s (λ t _. Emptied s t)) (sym off) (across a b p q s k gap))
      where
        no_own : is_words s.trees a.label ≡ false → is_own_text s a.label ≡ false
        no_own e = and_right (is_editable_for s a.label) (is_words s.trees a.label) e

        off : ((eqb a.label b.label) && is_own_text s a.label) ≡ false
        off = elim (eqb_tells a.label b.label) [
          | inl (_, same) ↦ and_right (eqb a.label b.label) (is_own_text s a.label) (no_own (gap.apart same))
          | inr (e, _) ↦ and_left (eqb a.label b.label) (is_own_text s a.label) e
        ]

    recorded : (a b : Point) (s : State) → Selects s → Gap P v s.trees a b → Ends (delete_recorded m a b) s (λ t _. Emptied s t)
    unfolding delete_recorded
    recorded a b s k gap =
        let erasing = erase_between m a b (block_of_end s a.label) (block_of_end s b.label) in
        let t = final erasing s in
        ends_look (λ s. erase_between m a b (block_of_end s a.label) (block_of_end s b.label) >> answer (states_of s)) s (λ t _. Emptied s t)
        (ends_bind erasing (λ _. answer (states_of s)) s (λ t _. Emptied s t)
        (ends_answer (states_of s) t (λ t _. Emptied s t) (erased_gap a b (block_of_end s a.label) (block_of_end s b.label) s k gap)))

    -- the range of the equivalent points is selected, or that of before stays
    reselected : (a b : Point) (s : State) → Selects s → Lane P v s.trees a b → Selects (selected a b s)
    unfolding selected changed acted
    reselected a b s k lane = by (may_select s a && may_select s b) refl
      where
        is : IsValid (selected a b s)
        is = valid_acted (action.Select a b) s k.valid

        by : (w : Bool) → (may_select s a && may_select s b) ≡ w → Selects (selected a b s)
        by true e = selects_here s k (selected a b s) is (trees-selected a b s) a b (rw e refl) lane
        by false e = selects_here s k (selected a b s) is (trees-selected a b s) k.anchor k.focus (rw e k.selection) k.lane

    selected_gap : (a b : Point) (s : State) → Selects s → Gap P v s.trees a b → Ends (delete_selected m a b) s (λ t _. Emptied s t)
    unfolding delete_selected acted
    selected_gap a b s k gap =
        let t = selected a b s in
        let trees : t.trees ≡ s.trees = trees-selected a b s in
        let gap_t : Gap P v t.trees a b = subst (λ f. Gap P v f a b) (sym trees) gap in
        let rest = recorded a b t (reselected a b s k gap.lane) gap_t in
        ends_bind (select a b) (λ _. delete_recorded m a b) s (λ t _. Emptied s t)
        (ends_perform (action.Select a b) s (λ t _. Ends (delete_recorded m a b) t (λ w _. Emptied s w))
        (emptied_later s t (final (delete_recorded m a b) t) (ap (λ f. solid_leaves (tree_of f 0)) trees) rest))

    pub comes_is : (f : Forest Content) (a b : Point) → comes_before f a b ≡ true → is_before f a b ≡ true
    unfolding comes_before
    comes_is f a b e = (and_parts (is_there f b.label) (is_before f a b) (and_parts (is_there f a.label) (is_there f b.label && is_before f a b) e).1).1

    ranged : (s : State) (k : Selects s) → length_of s.trees (corner v k.anchor k.focus).label ≢ 0 → Ends (delete_range m (last_equivalent s.trees k.anchor) (first_equivalent s.trees k.focus)) s (λ t _. Emptied s t)
    unfolding delete_range
    ranged s k full =
        ends_look (λ s. if comes_before s.trees a b then delete_selected m (out_of_start s.trees a) (out_of_end s.trees b) else (collapse_selection m.backward >> answer [])) s (λ t _. Emptied s t)
        (by (comes_before s.trees a b) refl)
      where
        a : Point
        a = last_equivalent s.trees k.anchor

        b : Point
        b = first_equivalent s.trees k.focus

        by : (w : Bool) → comes_before s.trees a b ≡ w → Ends (if w then delete_selected m (out_of_start s.trees a) (out_of_end s.trees b) else (collapse_selection m.backward >> answer [])) s (λ t _. Emptied s t)
        by false e =
            ends_bind (collapse_selection m.backward) (λ _. answer []) s (λ t _. Emptied s t)
            (ends_answer [] (final (collapse_selection m.backward) s) (λ t _. Emptied s t) (collapsed_here s k))
        by true e =
            let gap = gap_between P s.trees s.next k.valid.forest k.anchor k.focus (anchor_inside s k) v full k.lane (focus_inside s k) (comes_is s.trees a b e) in
            subst (λ w. Ends (delete_selected m w (out_of_end s.trees b)) s (λ t _. Emptied s t)) (sym gap.start)
            (subst (λ w. Ends (delete_selected m a w) s (λ t _. Emptied s t)) (sym gap.end) (selected_gap a b s k gap))

    pub between : (s : State) (k : Selects s) → length_of s.trees (corner v k.anchor k.focus).label ≢ 0 → Ends (delete_between m) s (λ t _. Emptied s t)
    unfolding delete_between
    between s k full =
        let f = s.trees in
        let pair : Pair = record { anchor = k.anchor; focus = k.focus } in
        let here = anchor_inside s k in
        ends_look (λ s. given s.points.selection (answer []) λ pair. delete_range m (last_equivalent s.trees (start_of s.trees pair)) (first_equivalent s.trees (end_of s.trees pair))) s (λ t _. Emptied s t)
        (subst (λ o. Ends (given o (answer []) λ pair. delete_range m (last_equivalent f (start_of f pair)) (first_equivalent f (end_of f pair))) s (λ t _. Emptied s t)) (sym k.selection)
        (subst (λ w. Ends (delete_range m (last_equivalent f w) (first_equivalent f (end_of f pair))) s (λ t _. Emptied s t)) (sym (start_is P v f s.next k.valid.forest k.anchor k.focus k.lane here))
        (subst (λ w. Ends (delete_range m (last_equivalent f k.anchor) (first_equivalent f w)) s (λ t _. Emptied s t)) (sym (end_is P v f s.next k.valid.forest k.anchor k.focus k.lane here)) (ranged s k full))))

    corner_then : (s t : State) (k : Selects s) (w : Settled s t) (l : Later s t k) → IsFilled s (corner v k.anchor k.focus).label → length_of t.trees (corner v l.later.anchor l.later.focus).label ≢ 0
    corner_then s t k w l filled =
        filled_long t (corner v l.later.anchor l.later.focus).label w.blanked.valid
        (subst (IsFilled t) (sym (same v)) (filled_then s t (corner v k.anchor k.focus).label w.blanked filled))
      where
        same : (v : Bool) → (corner v l.later.anchor l.later.focus).label ≡ (corner v k.anchor k.focus).label
        same true = l.at_anchor
        same false = l.at_focus

    deleted : (s : State) (k : Selects s) → IsFilled s (corner v k.anchor k.focus).label → Ends (delete_selection m) s (λ t _. Emptied s t)
    unfolding delete_selection
    deleted s k filled =
        let t1 = final (canonicalize_start true) s in
        let one : Settled s t1 = settled_start true s k.valid k.room in
        let t2 = final (canonicalize_end true) t1 in
        let two : Settled t1 t2 = settled_end true t1 one.blanked.valid one.room in
        let both = settled_trans s t1 t2 one two in
        let l = selects_then s t2 k both in
        let rest = between t2 l.later (corner_then s t2 k both l filled) in
        ends_bind (canonicalize_start true) (λ _. canonicalize_end true >> delete_between m) s (λ t _. Emptied s t)
        (ends_bind (canonicalize_end true) (λ _. delete_between m) t1 (λ t _. Emptied s t)
        (emptied_later s t2 (final (delete_between m) t2) both.blanked.order rest))

    pub emptied : (s : State) (x y : Point) → IsValid s → HasRoom s → s.points.selection ≡ Some (record { anchor = x; focus = y }) → Lane P v s.trees x y → IsFilled s (corner v x y).label → Emptied s (final (erase m) s)
    unfolding erase
    emptied s x y is room selection lane filled =
        let k : Selects s = record { valid = is; room = room; anchor = x; focus = y; selection = selection; lane = lane } in
        let t = final (delete_selection m) s in
        let list = value (delete_selection m) s in
        ends_bind (delete_selection m) restore_states s (λ t _. Emptied s t) (restores list s t (deleted s k filled))
