-- A character is put at a caret: into the text in which the caret stands, or into a new one.
use Rattle.std.proofs.Common.{◌≡◌, ◌≢◌, ◌⊎◌, ℕ, suc, ◌+◌, ◌<◌, ◌≤◌, ◌^◌, Bool, true, false, ◌||◌, ◌&&◌, if◌then◌else◌, cond, eqb, List, [], ◌∷◌, ◌++◌, take, drop, length, Option, Some, None, is_none, IfSome, refl, sym, ap, subst, ◌∙◌, inl, inr, arith, add-one, append_assoc, true≢false}
use Rattle.std.specs.List.{filter}
use Rattle.std.specs.Option.{option_map, option_map_or}
use Rattle.std.proofs.lemmas.Bool.{and_parts, cases_Bool, or_cases, eq-eqb, le-ltb, le-leb}
use Rattle.std.proofs.lemmas.Bool.Decides.{eqb_tells}
use Rattle.std.proofs.lemmas.List.Elements.{filter-append}
use Rattle.edit_model.specs.DomModel.declared.Content.{Content}
use Rattle.edit_model.specs.DomModel.declared.Content.TheVariants.{Words}
use Rattle.edit_model.specs.DomModel.Contents.{is_element, may_have_children, has_chars, has_chars_at, is_break, length_of}
use Rattle.edit_model.specs.DomModel.Editing.{is_true_state, is_false_state, editing_host, is_host, is_editable}
use Rattle.edit_model.specs.DomModel.Forest.{Forest, Seen, is_label, count_of, tree_of, parent_of, first_of, next_of, content_of, unlink, preorder, IsWithin}
use Rattle.edit_model.specs.DomModel.Forest.Forest.{Nil, Tree}
use Rattle.edit_model.specs.DomModel.Places.{index_of}
use Rattle.edit_model.specs.DomModel.Revised.{revised}
use Rattle.edit_model.proofs.DomModel.Hosts.{editing_host-child}
use Rattle.edit_model.proofs.DomModel.Kept.{content_of-unlink, content_of-with_leaf_other}
use Rattle.edit_model.proofs.DomModel.Links.{parent_count}
use Rattle.edit_model.proofs.DomModel.Move.{parent_apart}
use Rattle.edit_model.proofs.DomModel.Neighbours.{parent_of-first}
use Rattle.edit_model.proofs.DomModel.Totals.{total-without}
use Rattle.edit_model.specs.LiveRange.ActiveRange.{range_changed}
use Rattle.edit_model.specs.LiveRange.declared.places.Point.{Point}
use Rattle.edit_model.specs.LiveRange.PointsEdit as range
use Rattle.edit_model.specs.LiveRange.PointsEdit.{adjusted, adjusted_pair, with_offset, after_removal, has_label}
use Rattle.edit_model.specs.PointOrder.PointOrder.{is_before, is_placed}
use Rattle.inline_value.specs.NodeTests.CollapsedWhitespace.{is_words_content, is_words}
use Rattle.inline_value.specs.NodeTests.SolidNeighbours.{is_collapsed_break}
use Rattle.edit_model.specs.State.{State}
use Rattle.edit_model.specs.Confined.{spliced, is_editable_for, is_inside, is_made, is_own, may_select}
use Rattle.edit_model.specs.Edit.{Edit, Remove, Replace, is_made_edit, trees_after, points_after, with_replaced, parent_or_0, overrides_after, changed, change_of, with_change, edited}
use Rattle.edit_model.specs.History.{begun}
use Rattle.edit_model.specs.Overrides.{no_overrides}
use Rattle.edit_model.specs.Kept.{Leaf, Letter, borne_by, leaves, has_no_kept_leaves}
use Rattle.edit_model.specs.Action as action
use Rattle.edit_model.specs.Action.{made, words_content, with_selection, selected, acted}
use Rattle.edit_model.specs.Run.{Run, ◌>>=◌, ◌>>◌, final, done, look, given, remove, replace, make_words, select}
use Rattle.edit_model.specs.Valid.{IsValid, IsPlacedPair}
use Rattle.edit_model.proofs.Documents.{document-revised, document-with_leaf, within-unlink, within-with_leaf}
use Rattle.edit_model.proofs.Forests.{fresh}
use Rattle.edit_model.proofs.IslandRuns.{Offers, host_offers, editable_offers, trees_made}
use Rattle.edit_model.proofs.OutsideRuns.{trees-selected}
use Rattle.edit_model.proofs.Points.{placed_is, placed_from, has_label-preorder}
use Rattle.edit_model.proofs.Resting.{seek_document, forest-document}
use Rattle.edit_model.proofs.Steps.{next_along, final-bind, final-answer, final-look, final-edit, final-make_words, value-make_words, final-perform}
use Rattle.edit_model.proofs.Tests.{label_is}
use Rattle.edit_model.proofs.Trees.{none_or_some}
use Rattle.edit_laws.specs.Steady.{Steady}
use Rattle.edit_laws.proofs.SteadyRuns.{steady_parts, steady_perform, steady_make_words}
use Rattle.command_laws.proofs.TypingRuns.{steady_insert_at_start}
use Rattle.delete_core.specs.Places.{at, start_in, end_in}
use Rattle.text_insertion.specs.Start.{insert_at_start}
use Rattle.text_insertion.specs.Typing.{drop_sole_break, put_at, put_char}
use Rattle.caret_laws.specs.SolidOrder.{is_solid, solid_leaves, KeepsOrderUpToBlanks, StandsAt, HasRoomFor, BreaksAreEmpty}
use Rattle.caret_laws.proofs.Blanks.{Rewritten, length_words, own_made, trees_t, rewritten, words_same, points_made, edit_left, settings_both}
use Rattle.caret_laws.proofs.CaretErasing.{settings_selected, front_trees}
use Rattle.caret_laws.proofs.Fronts.{TextAt, text_count, text_there, text_own, Front, front_whole, Newly, next_front, next_back}
use Rattle.caret_laws.proofs.PutImages.{bare_remove, break_bare}
use Rattle.caret_laws.proofs.InsideRuns.{Began, Underway, Near, open_near, near_inside, valid_way, host_way, hosted_way, start_way, hosted_by}
use Rattle.caret_laws.proofs.PutElements.{made_tree, start_caret}
use Rattle.caret_laws.proofs.PutThings.{Landed, Nearby, nearby_caret, here_landed, then_state, newly_there, stands, contents, insert_is, loose_made}
use Rattle.caret_laws.proofs.Solid.{put, put_is, length_any, solid_chars, solid_order}
use Rattle.caret_laws.proofs.TextRoom.{words_there}
use Rattle.caret_laws.proofs.Trees.{made_open, inside_open}
use Rattle.caret_laws.proofs.Underways.{way_steady}

-- ---- settings

pub settings_edited : (e : Edit) (u : State) → ((edited e u).overrides ≡ u.overrides) ⊎ ((edited e u).overrides ≡ no_overrides)
unfolding edited changed with_change overrides_after
settings_edited e u = by (is_made_edit e u)
  where
    either : (v : Bool) → ((if v then no_overrides else u.overrides) ≡ u.overrides) ⊎ ((if v then no_overrides else u.overrides) ≡ no_overrides)
    either true = inr refl
    either false = inl refl

    by : (v : Bool) → ((if v then with_change (change_of e u.trees) (changed u (trees_after e u.trees) (points_after e u.trees u.points)) else u).overrides ≡ u.overrides) ⊎ ((if v then with_change (change_of e u.trees) (changed u (trees_after e u.trees) (points_after e u.trees u.points)) else u).overrides ≡ no_overrides)
    by true = either (range_changed (is_before u.trees) (is_before (trees_after e u.trees)) u.points.selection (points_after e u.trees u.points).selection)
    by false = inl refl

solid_same : (f : Forest Content) → solid_leaves f ≡ filter is_solid (leaves f)
unfolding solid_leaves
solid_same f = refl

-- ---- what is selected when a character is put

pair_selected : (a b : Point) (u : State) → is_placed u.trees a ≡ true → is_placed u.trees b ≡ true → selected a b u ≡ with_selection (Some (record { anchor = a; focus = b })) u
unfolding selected may_select
pair_selected a b u pa pb = rw (pa, pb) refl

no_words : (o : Option Content) → (option_map_or has_chars o false ≡ true → option_map_or is_words_content o false ≡ true) → option_map_or is_words_content o false ≡ false → option_map_or has_chars o false ≡ false
no_words o comment none = elim (cases_Bool (option_map_or has_chars o false)) [
  | inl e ↦ absurd (true≢false (sym (comment e) ∙ none))
  | inr e ↦ e
]

-- a collapsed line break is a br
collapsed_is : (f : Forest Content) (k : ℕ) → is_collapsed_break f k ≡ true → is_break f k ≡ true
unfolding is_collapsed_break
collapsed_is f k e = left_true (is_break f k) _ _ e
  where
    left_true : (a b c : Bool) → ((a && b) && c) ≡ true → a ≡ true
    left_true true b c e = refl
    left_true false b c e = absurd (true≢false (sym e))

-- a sole child that is a collapsed line break bears nothing that is kept, where it's removed
abbrev pub SoleIsBare : State → ℕ → Type 0
SoleIsBare t n =
    (k : ℕ) → first_of t.trees n ≡ Some k → (is_none (next_of t.trees k) && is_collapsed_break t.trees k) ≡ true → is_made_edit (Remove k) t ≡ true
    → has_no_kept_leaves (tree_of t.trees k) ≡ true

-- so it is where no br has children
pub empty_sole : (t : State) (n : ℕ) → IsValid t → BreaksAreEmpty t → SoleIsBare t n
unfolding is_collapsed_break
empty_sole t n is empty k first e may =
    let br = collapsed_is t.trees k (and_parts (is_none (next_of t.trees k)) (is_collapsed_break t.trees k) e).1 in
    let there = (parent_count t.trees k n is.forest.distinct (parent_of-first t.trees is.forest.distinct n k first)).0 in
    break_bare t k is there br (empty k br)

module _ (s : State) (h : ℕ) (b : Began s h) where
  -- The character is in a text at the end of what is selected, behind what the document bore before it. Each text has room for r
  -- characters.
  pub record Put (c r : ℕ) (t u : State) : Type 0 where
    pub way : Underway s h false u
    pub room : HasRoomFor r u
    pub settings : (u.overrides ≡ t.overrides) ⊎ (u.overrides ≡ no_overrides)
    pub anchor : Point
    pub focus : Point
    pub selects : u.points.selection ≡ Some (record { anchor = anchor; focus = focus })
    pub same : anchor.label ≡ focus.label
    pub low : anchor.offset ≤ focus.offset
    pub held : is_inside u focus.label ≡ true
    pub before : List Leaf
    pub behind : List Leaf
    pub was : solid_leaves (tree_of t.trees 0) ≡ before ++ behind
    pub now : Front u focus (before ++ solid_chars (c ∷ [])) behind

  -- a pair of points of one text that is inside is selected
  module _ (c r : ℕ) (t u : State) (way : Underway s h false u) (a z : Point) (same : a.label ≡ z.label) (low : a.offset ≤ z.offset) (F B : List Leaf) (front : Front u z (F ++ solid_chars (c ∷ [])) B)
      (room : HasRoomFor r u) (settings : (u.overrides ≡ t.overrides) ⊎ (u.overrides ≡ no_overrides)) (was : solid_leaves (tree_of t.trees 0) ≡ F ++ B) (near : Near s h false b z.label) where
    is_u : IsValid u
    is_u = valid_way s h false b u way

    there : IsWithin u.trees 0 z.label
    there = text_count (tree_of u.trees 0) z.label front.pre front.chars front.post front.stands

    long : length_of u.trees z.label ≡ length front.chars
    long = length_words u.trees z.label front.chars front.content

    placed_z : is_placed u.trees z ≡ true
    placed_z = placed_from u.trees z (record { inside = there; fits = (let l = front.low in omega (arith, l, long)) })

    placed_a : is_placed u.trees a ≡ true
    placed_a = placed_from u.trees a (record { inside = subst (λ l. IsWithin u.trees 0 l) (sym same) there; fits = subst (λ l. a.offset ≤ length_of u.trees l) (sym same) (let l = front.low in omega (arith, l, long, low)) })

    put_selected : Put c r t (selected a z u)
    unfolding acted changed
    put_selected =
        let w = selected a z u in
        let trees = trees-selected a z u in
        let way_w : Underway s h false w = subst (λ v. Underway s h false v) (final-perform (action.Select a z) u) (way_steady s h b (select a z) u (steady_perform (action.Select a z) tt) way) in
        record {
          way = way_w;
          room = λ l xs e. room l xs (subst (λ f. content_of f l ≡ Some (Words xs)) trees e);
          settings = settings_both t u w settings (settings_selected a z u);
          anchor = a;
          focus = z;
          selects = ap (λ (v : State). v.points.selection) (pair_selected a z u placed_a placed_z);
          same = same;
          low = low;
          held = near_inside s h false b w way_w z.label near (subst (λ f. IsWithin f 0 z.label) (sym trees) there);
          before = F;
          behind = B;
          was = was;
          now = front_trees u w z (F ++ solid_chars (c ∷ [])) B trees front;
        }

  module _ (t : State) (way : Underway s h false t) where
    is : IsValid t
    is = valid_way s h false b t way

    -- a text that is inside is editable
    text_editable : (l : ℕ) (chars : List ℕ) → content_of t.trees l ≡ Some (Words chars) → is_inside t l ≡ true → is_editable_for t l ≡ true
    unfolding is_inside
    text_editable l chars text held = elim (or_cases (is_label t.host l) (is_editable_for t l) held) [
      | inr editable ↦ editable
      | inl same ↦ absurd (
          let host : h ≡ l = (let e : Some h ≡ Some l = sym (host_way s h false b t way) ∙ label_is t.host l same in cc) in
          let hosted : is_host t.trees l ≡ true = subst (λ k. is_host t.trees k ≡ true) host (hosted_way s h false b t way) in
          true≢false (sym hosted ∙ ap (λ (o : Option Content). option_map_or is_true_state o false) text))
    ]

    text_own_here : (l : ℕ) (chars : List ℕ) → content_of t.trees l ≡ Some (Words chars) → is_inside t l ≡ true → is_own t l ≡ true
    unfolding is_own
    text_own_here l chars text held = rw (text_editable l chars text held) refl

    -- and so is a text below what is inside
    pub text_below : (p k : ℕ) (chars : List ℕ) → parent_of t.trees k ≡ Some p → content_of t.trees k ≡ Some (Words chars) → is_inside t p ≡ true → is_inside t k ≡ true
    unfolding is_inside is_editable_for
    text_below p k chars child text held =
        let f = t.trees in
        let once = is.forest.distinct in
        let host = host_way s h false b t way in
        let known : 0 < count_of f p = (parent_count f k p once child).1 in
        let offers : Offers f h p = elim (or_cases (is_label t.host p) (option_map_or (λ o. is_editable f o p) t.host false) held) [
          | inl same ↦ (
              let here : h ≡ p = (let e : Some h ≡ Some p = sym host ∙ label_is t.host p same in cc) in
              subst (λ l. Offers f h l) here (host_offers f h once (subst (λ l. 0 < count_of f l) (sym here) known) (hosted_way s h false b t way)))
          | inr editable ↦ editable_offers f t.next h p k is.forest child (label_is (editing_host f p) h (sym (ap (λ (o : Option ℕ). option_map_or (λ q. is_editable f q p) o false) host) ∙ editable))
        ] in
        let hosted : editing_host f k ≡ Some h =
        editing_host-child f once k p (Words chars) offers.content child text offers.content_is
        ∙ hosted_by (is_true_state (Words chars) || is_false_state (Words chars)) (is_element (Words chars)) (cond (is_true_state offers.content) (Some p) (editing_host f p)) h (is_element offers.content) refl offers.element offers.offer in
        let own : option_map_or (λ q. is_editable f q k) t.host false ≡ true = ap (λ (o : Option ℕ). option_map_or (λ q. is_editable f q k) o false) host ∙ (ap (λ o. is_label o h) hosted ∙ eq-eqb h h refl) in
        rw own (either_true (is_label t.host k))
      where
        either_true : (v : Bool) → (v || true) ≡ true
        either_true true = refl
        either_true false = refl

    -- ---- into a text

    module _ (c r : ℕ) (y : Point) (F B : List Leaf) (front : Front t y F B) (held : is_inside t y.label ≡ true) (room : HasRoomFor (suc r) t) (some : 0 < r) where
      abbrev chars : List ℕ
      chars = front.chars

      abbrev longer : List ℕ
      longer = spliced chars y.offset 0 (c ∷ [])

      long_is : length longer ≡ length chars + 1
      long_is = ap length (put_is c y.offset chars) ∙ length_any c y.offset chars

      may : is_made_edit (Replace y.label y.offset 0 (c ∷ [])) t ≡ true
      may = own_made t y.label y.offset 0 (c ∷ []) chars (text_own_here y.label chars front.content held) front.content (let l = front.low in omega (arith, l)) (omega (arith, long_is, some, room y.label chars front.content)) (λ e. omega (arith, long_is, e))

      abbrev u : State
      u = edited (Replace y.label y.offset 0 (c ∷ [])) t

      now : u.trees ≡ revised t.trees y.label (with_replaced y.offset 0 (c ∷ []))
      now = trees_t t is y.label y.offset 0 (c ∷ []) chars front.content may

      r_u : Rewritten t.trees u.trees y.label chars longer
      r_u = rewritten t is y.label y.offset 0 (c ∷ []) chars front.content may

      document_u : tree_of u.trees 0 ≡ revised (tree_of t.trees 0) y.label (with_replaced y.offset 0 (c ∷ []))
      document_u = ap (λ f. tree_of f 0) now ∙ document-revised t.trees t.next is.forest y.label (with_replaced y.offset 0 (c ∷ []))

      room_u : HasRoomFor r u
      room_u l xs e = elim (eqb_tells y.label l) [
        | inr (_, off) ↦ (let k = room l xs (sym (r_u.others l off) ∙ e) in omega (arith, k))
        | inl (_, same) ↦ (
            let there : Some (Words longer) ≡ Some (Words xs) = sym r_u.own ∙ subst (λ k. content_of u.trees k ≡ Some (Words xs)) (sym same) e in
            let size : length longer ≡ length xs = ap length (words_same longer xs there) in
            let k = room y.label chars front.content in
            omega (arith, size, long_is, k))
      ]

      abbrev z : Point
      z = at y.label (y.offset + 1)

      front_u : Front u z (F ++ solid_chars (c ∷ [])) B
      front_u = record {
        chars = longer;
        content = r_u.own;
        pre = front.pre;
        post = front.post;
        stands = subst (λ f. TextAt f y.label front.pre longer front.post) (sym document_u) (text_own (tree_of t.trees 0) y.label (with_replaced y.offset 0 (c ∷ [])) front.pre chars longer front.post (forest-document t.trees t.next is.forest).distinct refl front.stands);
        low = (let l = front.low in omega (arith, l, long_is));
        before =
            ap (λ l. l ++ solid_chars (c ∷ [])) front.before
            ∙ (append_assoc (filter is_solid front.pre) (solid_chars (take y.offset chars)) (solid_chars (c ∷ []))
            ∙ ap (λ l. filter is_solid front.pre ++ l) (sym (next_front c y.offset chars front.low) ∙ sym taken));
        after = front.after ∙ ap (λ l. solid_chars l ++ filter is_solid front.post) (sym dropped);
      }
        where
          taken : solid_chars (take (y.offset + 1) longer) ≡ solid_chars (take (suc y.offset) (put c y.offset chars))
          taken = rw (put_is c y.offset chars, add-one) refl

          dropped : drop (y.offset + 1) longer ≡ drop y.offset chars
          dropped = rw (put_is c y.offset chars, add-one) (next_back c y.offset chars front.low)

      way_u : Underway s h false u
      way_u = subst (λ v. Underway s h false v) (final-edit (Replace y.label y.offset 0 (c ∷ [])) t) (way_steady s h b (replace y.label y.offset 0 (c ∷ [])) t steady_put way)
        where
          steady_put : Steady (replace y.label y.offset 0 (c ∷ []))
          steady_put = search steady_parts

      put_words : Put c r t (selected y z u)
      put_words = put_selected c r t u way_u y z refl (omega arith) F B front_u room_u (settings_edited (Replace y.label y.offset 0 (c ∷ [])) t) (front_whole t y F B front) (open_near s h false b t way y.label (inside_open t y.label held))

  -- ---- into a new text

  is_made_next : (q : State) → Underway s h false q → is_made q q.next ≡ true
  unfolding is_made begun
  is_made_next q way =
      let start = start_way s h false b q way in
      let low : s.next ≤ q.next = next_along way.way in
      le-leb q.start q.next (omega (arith, start, low))

  -- the first child of the caret's node may go where it bears nothing
  pub record Dropped (t u : State) (p : Point) : Type 0 where
    pub way : Underway s h false u
    pub order : KeepsOrderUpToBlanks t u
    pub place : Point
    pub caret : StandsAt u place
    pub label : place.label ≡ p.label
    pub inside : IsWithin u.trees 0 p.label
    pub contents : (l : ℕ) → content_of u.trees l ≡ content_of t.trees l
    pub settings : (u.overrides ≡ t.overrides) ⊎ (u.overrides ≡ no_overrides)

  module _ (t : State) (way : Underway s h false t) (p : Point) (caret : StandsAt t p) (inside : IsWithin t.trees 0 p.label) where
    is_t : IsValid t
    is_t = valid_way s h false b t way

    dropped_none : Dropped t t p
    dropped_none = record { way = way; order = refl; place = p; caret = caret; label = refl; inside = inside; contents = λ l. refl; settings = inl refl }

    steady_removal : (k : ℕ) → Steady (remove k)
    steady_removal k = search steady_parts

    module _ (k : ℕ) (first : first_of t.trees p.label ≡ Some k) (none : is_made_edit (Remove k) t ≡ true → has_no_kept_leaves (tree_of t.trees k) ≡ true) where
      child : parent_of t.trees k ≡ Some p.label
      child = parent_of-first t.trees is_t.forest.distinct p.label k first

      apart : count_of (tree_of t.trees k) p.label ≡ 0
      apart = elim (none_or_some (count_of (tree_of t.trees k) p.label)) [
        | inl e ↦ e
        | inr e ↦ absurd (parent_apart t.trees k p.label is_t.forest.distinct child e)
      ]

      abbrev event : range.PointsEdit
      event = range.Remove (preorder (tree_of t.trees k)) (parent_or_0 t.trees k) (index_of t.trees k)

      stays : (adjusted event p).label ≡ p.label
      stays =
          let listed : has_label (preorder (tree_of t.trees k)) p.label ≡ false = has_label-preorder (tree_of t.trees k) p.label ∙ le-ltb 0 (count_of (tree_of t.trees k) p.label) (omega (arith, apart)) in
          rw listed (by (eqb p.label (parent_or_0 t.trees k)))
        where
          by : (v : Bool) → (if v then with_offset p (after_removal (index_of t.trees k) p.offset) else p).label ≡ p.label
          by true = refl
          by false = refl

      dropped_first : Dropped t (edited (Remove k) t) p
      unfolding trees_after points_after
      dropped_first = elim (cases_Bool (is_made_edit (Remove k) t)) [
        | inr off ↦ subst (λ u. Dropped t u p) (sym (edit_left (Remove k) t off)) dropped_none
        | inl may ↦ (
            let u = edited (Remove k) t in
            let trees : u.trees ≡ unlink t.trees k = trees_made (Remove k) t may in
            record {
              way = subst (λ v. Underway s h false v) (final-edit (Remove k) t) (way_steady s h b (remove k) t (steady_removal k) way);
              order = solid_order t u (bare_remove k t (none may) is_t);
              place = adjusted event p;
              caret = ap (λ q. q.selection) (points_made (Remove k) t may) ∙ ap (option_map (adjusted_pair event)) caret;
              label = stays;
              inside = subst (λ f. IsWithin f 0 p.label) (sym trees) (within-unlink t.trees t.next is_t.forest p.label k p.label child apart inside);
              contents = λ l. ap (λ f. content_of f l) trees ∙ content_of-unlink t.trees p.label k l is_t.forest.distinct child;
              settings = settings_edited (Remove k) t;
            })
      ]

    dropped_sole : SoleIsBare t p.label → Dropped t (final (drop_sole_break p.label) t) p
    unfolding drop_sole_break
    dropped_sole bare = subst (λ u. Dropped t u p) (sym (final-look _ t)) (by (first_of t.trees p.label) refl)
      where
        chosen : (k : ℕ) → first_of t.trees p.label ≡ Some k → (v : Bool) → (is_none (next_of t.trees k) && is_collapsed_break t.trees k) ≡ v → Dropped t (final (if v then remove k >> done else done) t) p
        chosen k first false e = subst (λ u. Dropped t u p) (sym (final-answer tt t)) dropped_none
        chosen k first true e =
            let run : final (remove k >> done) t ≡ edited (Remove k) t = rw (final-bind, final-edit, final-answer) refl in
            subst (λ u. Dropped t u p) (sym run) (dropped_first k first (bare k first e))

        by : (o : Option ℕ) → first_of t.trees p.label ≡ o → Dropped t (final (given o done λ k. if (is_none (next_of t.trees k) && is_collapsed_break t.trees k) then remove k >> done else done) t) p
        by None e = subst (λ u. Dropped t u p) (sym (final-answer tt t)) dropped_none
        by (Some k) e = chosen k e (is_none (next_of t.trees k) && is_collapsed_break t.trees k) refl

  -- a new text comes at a caret of an element
  module _ (c r : ℕ) (t : State) (k : Landed s h b t) (room : HasRoomFor (suc r) t) (small : 1 + r < 2 ^ 32) where
    is_l : IsValid t
    is_l = valid_way s h false b t k.way

    abbrev text : Content
    text = words_content (c ∷ [])

    abbrev v : State
    v = made text t

    landed_made : Landed s h b v
    unfolding made
    landed_made =
        let way : Underway s h false v = subst (λ r. Underway s h false r) (final-make_words (c ∷ []) t) (way_steady s h b (make_words (c ∷ [])) t (steady_make_words (c ∷ [])) k.way) in
        let good = k.good in
        let off : t.next ≢ k.place.label = λ e. (let low = is_l.forest.below k.place.label (let i = k.inside in omega (arith, i, total-without (λ m _. cond (eqb m k.place.label) 1 0) t.trees 0)) in omega (arith, low, e)) in
        record {
          way = way;
          place = k.place;
          caret = k.caret;
          good = record {
            near = good.near;
            parent = ap (λ (o : Option Content). option_map_or may_have_children o false) (content_of-with_leaf_other t.trees t.next text k.place.label (fresh t.trees t.next is_l.forest) off) ∙ good.parent;
          };
          inside = within-with_leaf t.trees t.next is_l.forest t.next k.place.label text k.inside;
        }

    positive : 0 < t.next
    positive = is_l.forest.below 0 is_l.forest.document

    bears : borne_by t.next text ≡ Letter c ∷ []
    unfolding borne_by
    bears = refl

    tree : tree_of v.trees t.next ≡ Tree t.next text Nil Nil
    tree = made_tree text t is_l

    there_new : 0 < count_of v.trees t.next
    there_new =
        let own : eqb t.next t.next ≡ true = eq-eqb t.next t.next refl in
        let one : 0 < count_of (Tree t.next text Nil Nil) t.next = rw own (omega arith) in
        omega (arith, one, ap (λ g. count_of g t.next) tree, total-without (λ m _. cond (eqb m t.next) 1 0) v.trees t.next)

    abbrev w : State
    w = then_state s h b t.next text (Letter c) bears positive v landed_made tree there_new (loose_made text t is_l)

    same_document_made : tree_of v.trees 0 ≡ tree_of t.trees 0
    unfolding made
    same_document_made = document-with_leaf t.trees t.next is_l.forest t.next text

    put_new : Put c r t (selected (start_in t.next) (end_in w.trees t.next) w)
    unfolding made
    put_new = put_selected c r t w way_w (start_in t.next) (end_in w.trees t.next) refl (omega arith) (filter is_solid newly.front) (filter is_solid newly.back) front_w room_w settings_w was near_n
      where
        others : (l : ℕ) → t.next ≢ l → content_of w.trees l ≡ content_of t.trees l
        others l off = contents s h b t.next text (Letter c) bears positive v landed_made tree there_new (loose_made text t is_l) l ∙ content_of-with_leaf_other t.trees t.next text l (fresh t.trees t.next is_l.forest) off

        own : content_of w.trees t.next ≡ Some (Words (c ∷ []))
        own = stands s h b t.next text (Letter c) bears positive v landed_made tree there_new (loose_made text t is_l)

        room_w : HasRoomFor r w
        room_w l xs e = elim (eqb_tells t.next l) [
          | inr (_, off) ↦ (let m = room l xs (sym (others l off) ∙ e) in omega (arith, m))
          | inl (_, same) ↦ (
              let here : Some (Words (c ∷ [])) ≡ Some (Words xs) = sym own ∙ subst (λ m. content_of w.trees m ≡ Some (Words xs)) (sym same) e in
              let size : 1 ≡ length xs = ap length (words_same (c ∷ []) xs here) in
              omega (arith, size, small))
        ]

        way_w : Underway s h false w
        way_w = subst (λ q. Underway s h false q) (insert_is s h b t.next text (Letter c) bears positive v landed_made tree there_new (loose_made text t is_l)) (way_steady s h b (insert_at_start t.next) v (steady_insert_at_start t.next) landed_made.way)

        newly : Newly (tree_of t.trees 0) (tree_of w.trees 0) t.next (c ∷ [])
        newly = subst (λ g. Newly g (tree_of w.trees 0) t.next (c ∷ [])) same_document_made (newly_there s h b t.next text (Letter c) bears positive v landed_made tree there_new (loose_made text t is_l) (c ∷ []) refl)

        end_is : end_in w.trees t.next ≡ at t.next 1
        end_is = ap (at t.next) (length_words w.trees t.next (c ∷ []) own)

        front_one : Front w (at t.next 1) (filter is_solid newly.front ++ solid_chars (c ∷ [])) (filter is_solid newly.back)
        front_one = record { chars = c ∷ []; content = own; pre = newly.front; post = newly.back; stands = newly.stands; low = omega arith; before = refl; after = refl }

        front_w : Front w (end_in w.trees t.next) (filter is_solid newly.front ++ solid_chars (c ∷ [])) (filter is_solid newly.back)
        front_w = subst (λ q. Front w q (filter is_solid newly.front ++ solid_chars (c ∷ [])) (filter is_solid newly.back)) (sym end_is) front_one

        was : solid_leaves (tree_of t.trees 0) ≡ filter is_solid newly.front ++ filter is_solid newly.back
        was = solid_same (tree_of t.trees 0) ∙ (ap (filter is_solid) newly.was ∙ filter-append is_solid newly.front newly.back)

        settings_w : (w.overrides ≡ t.overrides) ⊎ (w.overrides ≡ no_overrides)
        settings_w = settings_edited _ v

        near_n : Near s h false b t.next
        near_n = open_near s h false b t k.way t.next (made_open t t.next (is_made_next t k.way))

  -- ---- the run

  put_is_words : (c : ℕ) (t : State) (y : Point) → StandsAt t y → is_words t.trees y.label ≡ true → final (put_char c) t ≡ selected y (at y.label (y.offset + 1)) (edited (Replace y.label y.offset 0 (c ∷ [])) t)
  unfolding put_char put_at acted
  put_is_words c t y caret words =
      final-look _ t ∙ (ap (λ o. final (given o done (put_at c)) t) (start_caret t y caret)
      ∙ (final-look _ t ∙ (ap (λ v. final (if v then (replace y.label y.offset 0 (c ∷ []) >> select y (at y.label (y.offset + 1))) else (drop_sole_break y.label >>= (λ _. make_words (c ∷ []) >>= (λ x. insert_at_start x >>= (λ _. look λ r. select (start_in x) (end_in r.trees x)))))) t) words
      ∙ rw (final-bind, final-edit, final-perform) refl)))

  -- in a text
  pub char_in_text : (c r : ℕ) (t : State) → Underway s h false t → (y : Point) → StandsAt t y → is_inside t y.label ≡ true → HasRoomFor (suc r) t → 0 < r → (F B : List Leaf) (k : Front t y F B) → (m : Put c r t (final (put_char c) t)) × (m.before ≡ F) × (m.behind ≡ B)
  unfolding is_words put_words put_selected
  char_in_text c r t way y caret held room some F B k =
      let words : is_words t.trees y.label ≡ true = ap (λ (o : Option Content). option_map_or is_words_content o false) k.content in
      let run = put_is_words c t y caret words in
      let m = put_words t way c r y F B k held room some in
      subst (λ u. (m : Put c r t u) × (m.before ≡ F) × (m.behind ≡ B)) (sym run) (m, refl, refl)

  module _ (c r : ℕ) (t : State) (way : Underway s h false t) (y : Point) (caret : StandsAt t y) (held : is_inside t y.label ≡ true) (comment : has_chars_at t.trees y.label ≡ true → is_words t.trees y.label ≡ true) (room : HasRoomFor (suc r) t) (some : 0 < r) (small : 1 + r < 2 ^ 32) (bare : is_words t.trees y.label ≡ false → SoleIsBare t y.label) where
    is_p : IsValid t
    is_p = valid_way s h false b t way

    near_y : Nearby s h b t y
    near_y = nearby_caret s h b t y way caret held

    -- a caret in a text has a front there
    front_y : (chars : List ℕ) → content_of t.trees y.label ≡ Some (Words chars) → (F : List Leaf) × (B : List Leaf) × Front t y F B
    front_y chars text =
        let placed : IfSome (Some (record { anchor = y; focus = y })) (IsPlacedPair t.trees) = subst (λ o. IfSome o (IsPlacedPair t.trees)) caret is_p.placed.selection in
        let fits = (placed_is t.trees y placed.anchor).fits in
        let k = text_there None (tree_of t.trees 0) y.label chars (forest-document t.trees t.next is_p.forest).distinct near_y.inside (λ q e. (
        let same : Some q.content ≡ Some (Words chars) = sym (ap (option_map (λ (x : Seen Content). x.content)) (seek_document t.trees t.next y.label q is_p.forest e)) ∙ text in
        cc)) in (
          filter is_solid k.0 ++ solid_chars (take y.offset chars),
          solid_chars (drop y.offset chars) ++ filter is_solid k.1,
          record {
            chars = chars;
            content = text;
            pre = k.0;
            post = k.1;
            stands = k.2;
            low = omega (arith, fits, length_words t.trees y.label chars text);
            before = refl;
            after = refl;
          },
        )

    abbrev NewText : Run (Unit {0})
    NewText = drop_sole_break y.label >>= (λ _. make_words (c ∷ []) >>= (λ x. insert_at_start x >>= (λ _. look λ q. select (start_in x) (end_in q.trees x))))

    in_element : is_words t.trees y.label ≡ false → Put c r t (final NewText t)
    unfolding is_words acted
    in_element none =
        let d = dropped_sole t way y caret near_y.inside (bare none) in
        let u = final (drop_sole_break y.label) t in
        let chars_u : has_chars_at u.trees y.label ≡ false = ap (λ (o : Option Content). option_map_or has_chars o false) (d.contents y.label) ∙ no_words (content_of t.trees y.label) comment none in
        let chars_d : has_chars_at u.trees d.place.label ≡ false = subst (λ l. has_chars_at u.trees l ≡ false) (sym d.label) chars_u in
        let there : IsWithin u.trees 0 d.place.label = subst (λ l. IsWithin u.trees 0 l) (sym d.label) d.inside in
        let near_d : Near s h false b d.place.label = subst (λ l. Near s h false b l) (sym d.label) near_y.near in
        let nearby = nearby_caret s h b u d.place d.way d.caret (near_inside s h false b u d.way d.place.label near_d there) in
        let landed = here_landed s h b u d.place nearby d.caret chars_d in
        let room_u : HasRoomFor (suc r) u = λ l xs e. room l xs (sym (d.contents l) ∙ e) in
        let k = put_new c r u landed room_u small in
        let n = u.next in
        let v = made (words_content (c ∷ [])) u in
        let q = w c r u landed room_u small in
        let put_in : final (insert_at_start n) v ≡ q = insert_is s h b n (words_content (c ∷ [])) (Letter c) (bears c r u landed room_u small) (positive c r u landed room_u small) v (landed_made c r u landed room_u small) (tree c r u landed room_u small) (there_new c r u landed room_u small) (loose_made (words_content (c ∷ [])) u (valid_way s h false b u d.way)) in
        let last = selected (start_in n) (end_in q.trees n) q in
        let run : final NewText t ≡ last = rw (final-bind, final-bind, final-make_words, value-make_words, final-bind, put_in, final-look, final-perform) refl in
        subst (λ p. Put c r t p) (sym run) (record {
          way = k.way;
          room = k.room;
          settings = settings_both t u last d.settings k.settings;
          anchor = k.anchor;
          focus = k.focus;
          selects = k.selects;
          same = k.same;
          low = k.low;
          held = k.held;
          before = k.before;
          behind = k.behind;
          was = sym d.order ∙ k.was;
          now = k.now;
        })

    pub char_put : Put c r t (final (put_char c) t)
    unfolding put_char put_at is_words
    char_put = by (option_map_or is_words_content (content_of t.trees y.label) false) refl
      where
        element : option_map_or is_words_content (content_of t.trees y.label) false ≡ false → final (put_char c) t ≡ final NewText t
        element e =
            final-look _ t ∙ (ap (λ o. final (given o done (put_at c)) t) (start_caret t y caret)
            ∙ (final-look _ t ∙ ap (λ v. final (if v then (replace y.label y.offset 0 (c ∷ []) >> select y (at y.label (y.offset + 1))) else NewText) t) e))

        by : (v : Bool) → option_map_or is_words_content (content_of t.trees y.label) false ≡ v → Put c r t (final (put_char c) t)
        by true e =
            let x = words_there (content_of t.trees y.label) e in
            let k = front_y x.0 x.1 in
            (char_in_text c r t way y caret held room some k.0 k.1 k.2).0
        by false e = subst (λ u. Put c r t u) (sym (element e)) (in_element e)
