-- Inserting a text at a caret, as a whole: each character comes behind the one before it.
use Rattle.std.proofs.Common.{◌≡◌, ◌≢◌, ◌⊎◌, ℕ, zero, suc, ◌+◌, ◌<◌, ◌≤◌, ◌^◌, true, false, if◌then◌else◌, cond, eqb, List, [], ◌∷◌, ◌++◌, map, length, Option, Some, None, is_none, IfSome, append_assoc, refl, sym, ap, subst, ◌∙◌, inl, inr, arith, true≢false}
use Rattle.std.specs.Prelude.{codes, unwrap_or, bytes_eq, slice_get}
use Rattle.std.proofs.lemmas.List.{append-nil}
use Rattle.std.proofs.lemmas.List.Elements.{filter-append}
use Rattle.std.specs.Option.{option_map, option_map_or}
use Rattle.std.proofs.lemmas.Bool.{ne_eqb}
use Rattle.edit_model.specs.DomModel.declared.Content.{Content}
use Rattle.edit_model.specs.DomModel.declared.Content.TheVariants.{Document, Element, Words, Remark}
use Rattle.edit_model.specs.DomModel.Contents.{has_chars, has_chars_at, is_break, length_of}
use Rattle.edit_model.specs.DomModel.Forest.{either, count_of, tree_of, children_of, content_of, IsWithin}
use Rattle.edit_model.proofs.DomModel.Totals.{total-without}
use Rattle.edit_model.specs.HtmlNames.declared.commands.Command.{Command}
use Rattle.edit_model.specs.LiveRange.declared.places.Point.{Point}
use Rattle.edit_model.specs.PointOrder.PointOrder.{is_before, is_placed}
use Rattle.inline_value.specs.NodeTests.BlockPoints.{child_before, child_at}
use Rattle.inline_value.specs.NodeTests.CollapsedWhitespace.{is_words_content, is_words}
use Rattle.edit_model.specs.declared.settings.Setting.{Setting}
use Rattle.edit_model.specs.State.{State}
use Rattle.edit_model.specs.Confined.{is_inside, may_select}
use Rattle.edit_model.specs.Edit.{changed}
use Rattle.edit_model.specs.History.{begun}
use Rattle.edit_model.specs.Action as action
use Rattle.edit_model.specs.Action.{with_selection, selected, acted}
use Rattle.edit_model.specs.Kept.{Leaf, Letter}
use Rattle.edit_model.specs.Overrides.{no_overrides, place_of, setting_of}
use Rattle.edit_model.specs.Run.{here, Run, ◌>>◌, final, done, given, for_each, collapse}
use Rattle.edit_model.specs.Valid.{IsValid, IsPlacedPair}
use Rattle.edit_model.proofs.Documents.{within_below}
use Rattle.edit_model.proofs.Points.{placed_is, placed_from}
use Rattle.edit_model.proofs.Steps.{final-bind, final-answer, final-look, final-perform}
use Rattle.edit_laws.specs.Kinds as kind
use Rattle.edit_laws.specs.Kinds.{kind_in}
use Rattle.edit_laws.proofs.StayingKinds.{kind_along}
use Rattle.edit_laws.proofs.SteadyRuns.{steady_perform}
use Rattle.command_laws.proofs.DeleteRuns.{steady_erase}
use Rattle.command_laws.proofs.ErasingRuns.{steady_canonicalize, steady_canonicalize_start, steady_canonicalize_end}
use Rattle.inline_value.specs.EditActions.ActiveRange.{end_of}
use Rattle.inline_value.specs.declared.overrides.Override.{Override}
use Rattle.inline_value.specs.Overrides.{override, is_set, overriding_commands, overrides_among, overrides_of}
use Rattle.inline_commands.specs.RestoringStates.{restore_states}
use Rattle.delete_core.specs.declared.deletion.TheConstants.Manner.{KEEP_WRAPPERS}
use Rattle.delete_core.specs.Ends.{end_for, collapse_selection, canonicalize_start, canonicalize_end}
use Rattle.delete_core.specs.Places.{start_in, end_in}
use Rattle.delete_core.specs.Whitespace.{canonicalize}
use Rattle.text_insertion.specs.Paragraph.{insert_paragraph}
use Rattle.text_insertion.specs.Start.{if_point_inside, start_inside, erase}
use Rattle.text_insertion.specs.Typing.{if_words, end_before, start_after, into_text, put_char, close_text, type_char, insert_char_at, insert_char_inside, insert_char, insert_several, insert_chars, insert_text}
use Rattle.caret_laws.specs.SolidOrder.{is_solid, solid_leaves, KeepsOrderUpToBlanks, StandsAt, HasRoomFor, BreaksAreEmpty}
use Rattle.caret_laws.specs.TypingLaws.{IsNoComment, HasNoBreaks}
use Rattle.caret_laws.proofs.Blanks.{Blanked, Moved, Caret, caret_then, room_kept, settings_both}
use Rattle.caret_laws.proofs.Canonical.{Ends, ends_look, ends_bind, mapped_is, either_is, chosen_is, child_apart, no_children, Settled, canonical}
use Rattle.caret_laws.proofs.CaretErasing.{settled_start, settled_end, settled_trans, settings_selected, front_trees, nothing_restored, erased}
use Rattle.caret_laws.proofs.Fronts.{Front, front_whole, text_count}
use Rattle.caret_laws.proofs.PutImages.{caret_begun, empty_begun}
use Rattle.caret_laws.proofs.InsideRuns.{Began, Underway, Near, open_near, near_inside, valid_way}
use Rattle.caret_laws.proofs.PutElements.{start_caret}
use Rattle.caret_laws.proofs.PutThings.{nearby_caret}
use Rattle.caret_laws.proofs.Trails.{index_is, same_high}
use Rattle.caret_laws.proofs.Trees.{inside_open}
use Rattle.caret_laws.proofs.TextRoom.{words_there}
use Rattle.caret_laws.proofs.Typed.{Put, text_below, empty_sole, char_put, char_in_text}
use Rattle.caret_laws.proofs.Solid.{solid_chars}
use Rattle.caret_laws.proofs.Underways.{way_steady}

-- ---- overrides

among : List Setting → List Command → List Override
among list [] = []
among list (c ∷ commands) =
    if is_set (setting_of list c) then override c (setting_of list c) ∷ among list commands
    else among list commands

among_is : (s : State) (commands : List Command) → overrides_among s commands ≡ among s.overrides commands
unfolding among
among_is s [] = refl
among_is s (c ∷ commands) = ap (λ l. if is_set (setting_of s.overrides c) then override c (setting_of s.overrides c) ∷ l else l) (among_is s commands)

none_among : among no_overrides overriding_commands ≡ []
unfolding among overriding_commands setting_of place_of no_overrides
none_among = refl

-- a state with the overrides of one that has none, or without any, has none
plain_then : (s t : State) → (t.overrides ≡ s.overrides) ⊎ (t.overrides ≡ no_overrides) → overrides_of s ≡ [] → overrides_of t ≡ []
unfolding overrides_of
plain_then s t settings none = among_is t overriding_commands ∙ elim settings [
  | inl same ↦ ap (λ l. among l overriding_commands) same ∙ (sym (among_is s overriding_commands) ∙ none)
  | inr plain ↦ ap (λ l. among l overriding_commands) plain ∙ none_among
]

-- ---- comments

comment_kind : (o p : Option Content) → option_map kind_in p ≡ option_map kind_in o → (option_map_or has_chars o false ≡ true → option_map_or is_words_content o false ≡ true) → option_map_or has_chars p false ≡ true → option_map_or is_words_content p false ≡ true
comment_kind o None same f e = absurd (true≢false (sym e))
comment_kind o (Some Document) same f e = absurd (true≢false (sym e))
comment_kind o (Some (Element name list)) same f e = absurd (true≢false (sym e))
comment_kind o (Some (Words chars)) same f e = refl
comment_kind None (Some (Remark chars)) same f e = absurd (let k : Some kind.Comment ≡ None = same in cc)
comment_kind (Some Document) (Some (Remark chars)) same f e = absurd (let k : Some kind.Comment ≡ Some kind.Document = same in cc)
comment_kind (Some (Element name list)) (Some (Remark chars)) same f e = absurd (let k : Some kind.Comment ≡ Some (kind.Element name) = same in cc)
comment_kind (Some (Words xs)) (Some (Remark chars)) same f e = absurd (let k : Some kind.Comment ≡ Some kind.Text = same in cc)
comment_kind (Some (Remark xs)) (Some (Remark chars)) same f e = absurd (true≢false (sym (f refl)))

-- the caret of a state that a run ends in stands in no comment where it stood in none
comment_then : {T : Type 0} (m : Run T) (t : State) (p q : Point) → IsValid t → 0 < count_of t.trees p.label → q.label ≡ p.label → IsNoComment t p → IsNoComment (final m t) q
unfolding final is_words
comment_then m t p q is there same none =
    subst (λ l. has_chars_at (final m t).trees l ≡ true → is_words (final m t).trees l ≡ true) (sym same)
    (comment_kind (content_of t.trees p.label) (content_of (final m t).trees p.label) (kind_along p.label (m.by_actions t) is (is.forest.below p.label there)) none)

empty_then : (s t : State) → Blanked s t → BreaksAreEmpty s → BreaksAreEmpty t
empty_then s t k empty l br = k.children l ∙ empty l (ap (λ o. option_map_or (λ own. bytes_eq own (codes "br")) o false) (sym (k.names l)) ∙ br)

caret_fits : (t : State) (p : Point) → IsValid t → StandsAt t p → p.offset ≤ length_of t.trees p.label
caret_fits t p is caret =
    let placed : IfSome (Some (record { anchor = p; focus = p })) (IsPlacedPair t.trees) = subst (λ o. IfSome o (IsPlacedPair t.trees)) caret is.placed.selection in
    (placed_is t.trees p placed.anchor).fits

-- no child stands in a text
into_text_here : (t : State) (p : Point) (chars : List ℕ) → IsValid t → content_of t.trees p.label ≡ Some (Words chars) → into_text t.trees p ≡ p
unfolding into_text end_before start_after
into_text_here t p chars is text =
    let none = no_children t.trees t.next is.forest p.label chars text in
    rw (before_none p.offset (children_of t.trees p.label) none, ap (λ ks. slice_get ks p.offset) none) refl
  where
    before_none : (o : ℕ) (ks : List ℕ) → children_of t.trees p.label ≡ [] → child_before t.trees p.label o ≡ None
    before_none zero ks e = refl
    before_none (suc o) ks e = ap (λ l. slice_get l o) e

module _ (s : State) (h : ℕ) (b : Began s h) where
  -- a caret at which a character may be put, with room for so many in each text
  pub record Ready (r : ℕ) (t : State) (p : Point) : Type 0 where
    pub way : Underway s h false t
    pub caret : StandsAt t p
    pub held : is_inside t p.label ≡ true
    pub comment : IsNoComment t p
    pub room : HasRoomFor r t

  -- a caret in a text, with F before it and B behind it
  pub record InText (r : ℕ) (t : State) (p : Point) (F B : List Leaf) : Type 0 where
    pub way : Underway s h false t
    pub caret : StandsAt t p
    pub held : is_inside t p.label ≡ true
    pub front : Front t p F B
    pub room : HasRoomFor r t
    pub plain : overrides_of t ≡ []

  -- where the caret goes into a text
  pub record Reach (t : State) (x : Point) : Type 0 where
    pub inside : IsWithin t.trees 0 x.label
    pub held : is_inside t x.label ≡ true
    pub comment : IsNoComment t x
    pub placed : is_placed t.trees x ≡ true

  module _ (r : ℕ) (t : State) (p : Point) (k : Ready r t p) where
    is : IsValid t
    is = valid_way s h false b t k.way

    inside_p : IsWithin t.trees 0 p.label
    inside_p = (nearby_caret s h b t p k.way k.caret k.held).inside

    words_if : (o : Option ℕ) (l : ℕ) → if_words t.trees o ≡ Some l → (o ≡ Some l) × (is_words t.trees l ≡ true)
    words_if None l e = absurd (let q : None ≡ Some l = e in cc)
    words_if (Some m) l e =
        let c = chosen_is (is_words t.trees m) (Some m) l e in
        let same : m ≡ l = (let q = c.1 in cc) in
        (c.1, subst (λ n. is_words t.trees n ≡ true) same c.0)

    into_child : (l i : ℕ) (x : Point) → child_at t.trees p.label i ≡ Some l → is_words t.trees l ≡ true → x.label ≡ l → x.offset ≤ length_of t.trees l → Reach t x
    unfolding is_words
    into_child l i x found words at_l low =
        let f = t.trees in
        let child = (index_is f is.forest.distinct p.label l i found).0 in
        let text = words_there (content_of f l) words in
        let there = within_below f t.next is.forest p.label l child inside_p in
        let held = text_below s h b t k.way p.label l text.0 child text.1 k.held in
        record {
          inside = subst (λ m. IsWithin f 0 m) (sym at_l) there;
          held = subst (λ m. is_inside t m ≡ true) (sym at_l) held;
          comment = λ _. subst (λ m. is_words f m ≡ true) (sym at_l) words;
          placed = placed_from f x (record { inside = subst (λ m. IsWithin f 0 m) (sym at_l) there; fits = subst (λ m. x.offset ≤ length_of f m) (sym at_l) low });
        }

    pub reaches : Reach t (into_text t.trees p)
    unfolding into_text end_before start_after
    reaches = by (either (option_map (end_in t.trees) (if_words t.trees (child_before t.trees p.label p.offset))) (option_map start_in (if_words t.trees (child_at t.trees p.label p.offset)))) refl
      where
        by : (o : Option Point) → either (option_map (end_in t.trees) (if_words t.trees (child_before t.trees p.label p.offset))) (option_map start_in (if_words t.trees (child_at t.trees p.label p.offset))) ≡ o → Reach t (unwrap_or o p)
        by None e = record { inside = inside_p; held = k.held; comment = k.comment; placed = placed_from t.trees p (record { inside = inside_p; fits = caret_fits t p is k.caret }) }
        by (Some x) e = elim (either_is (option_map (end_in t.trees) (if_words t.trees (child_before t.trees p.label p.offset))) (option_map start_in (if_words t.trees (child_at t.trees p.label p.offset))) x e) [
          | inl d ↦ (
              let m = mapped_is (end_in t.trees) (if_words t.trees (child_before t.trees p.label p.offset)) x d in
              let w = words_if (child_before t.trees p.label p.offset) m.0 m.1 in
              let c = child_apart t.trees t.next is.forest p.label p.offset m.0 w.0 in
              into_child m.0 c.0 x c.2 w.1 (ap (λ q. q.label) m.2) (let o = ap (λ q. q.offset) m.2 in omega (arith, o)))
          | inr d ↦ (
              let m = mapped_is start_in (if_words t.trees (child_at t.trees p.label p.offset)) x d in
              let w = words_if (child_at t.trees p.label p.offset) m.0 m.1 in
              into_child m.0 p.offset x w.0 w.1 (ap (λ q. q.label) m.2) (let o = ap (λ q. q.offset) m.2 in omega (arith, o)))
        ]

  -- ---- the whitespace round the caret

  module _ (r : ℕ) (t : State) (way : Underway s h false t) (x : Point) (reach : Reach t x) (room : HasRoomFor r t) (some : 0 < r) where
    unfoldable pub t1 : State
    t1 = final (collapse x) t

    select : t1 ≡ with_selection (Some (record { anchor = x; focus = x })) t
    unfolding t1 acted selected may_select
    select = final-perform (action.Select x x) t ∙ rw reach.placed refl

    trees1 : t1.trees ≡ t.trees
    unfolding changed
    trees1 = ap (λ (u : State). u.trees) select

    caret1 : StandsAt t1 x
    unfolding changed
    caret1 = ap (λ (u : State). u.points.selection) select

    settings1 : (t1.overrides ≡ t.overrides) ⊎ (t1.overrides ≡ no_overrides)
    unfolding t1 acted
    settings1 = subst (λ u. (u.overrides ≡ t.overrides) ⊎ (u.overrides ≡ no_overrides)) (sym (final-perform (action.Select x x) t)) (settings_selected x x t)

    way1 : Underway s h false t1
    unfolding t1
    way1 = way_steady s h b (collapse x) t (steady_perform (action.Select x x) tt) way

    is1 : IsValid t1
    is1 = valid_way s h false b t1 way1

    room1 : HasRoomFor r t1
    room1 l xs e = room l xs (subst (λ f. content_of f l ≡ Some (Words xs)) trees1 e)

    inside1 : IsWithin t1.trees 0 x.label
    inside1 = subst (λ f. IsWithin f 0 x.label) (sym trees1) reach.inside

    unfoldable pub t2 : State
    t2 = final (canonicalize true x) t1

    pub settled : Settled t1 t2
    unfolding t2
    settled = canonical true x t1 is1 (λ l xs e. (let m = room1 l xs e in omega (arith, m, some))) inside1

    pub way2 : Underway s h false t2
    unfolding t2
    way2 = way_steady s h b (canonicalize true x) t1 (steady_canonicalize true x) way1

    pub y : Caret t1 t2 x
    y = caret_then t1 t2 x settled.blanked caret1

    pub held2 : is_inside t2 y.place.label ≡ true
    held2 =
        let there : IsWithin t2.trees 0 y.place.label = subst (λ l. IsWithin t2.trees 0 l) (sym y.label) (settled.blanked.inside x.label inside1) in
        near_inside s h false b t2 way2 y.place.label (subst (λ l. Near s h false b l) (sym y.label) (open_near s h false b t way x.label (inside_open t x.label reach.held))) there

    pub comment2 : IsNoComment t2 y.place
    unfolding t2
    comment2 =
        let known1 : 0 < count_of t1.trees x.label = (let i = inside1 in omega (arith, i, total-without (λ m _. cond (eqb m x.label) 1 0) t1.trees 0)) in
        let comment1 : IsNoComment t1 x = subst (λ f. has_chars_at f x.label ≡ true → is_words f x.label ≡ true) (sym trees1) reach.comment in
        comment_then (canonicalize true x) t1 x y.place is1 known1 y.label comment1

    pub room2 : HasRoomFor r t2
    room2 = room_kept r t1 t2 settled.blanked room1

    pub order2 : KeepsOrderUpToBlanks t t2
    order2 = settled.blanked.order ∙ ap (λ f. solid_leaves (tree_of f 0)) trees1

    settings2 : (t2.overrides ≡ t.overrides) ⊎ (t2.overrides ≡ no_overrides)
    settings2 = settings_both t t1 t2 settings1 settled.blanked.settings

    front2 : (F B : List Leaf) → Front t x F B → Front t2 y.place F B
    front2 F B f = y.front F B (front_trees t t1 x F B trees1 f)

    pub empty2 : BreaksAreEmpty t → BreaksAreEmpty t2
    empty2 empty = empty_then t1 t2 settled.blanked (subst (λ f. (l : ℕ) → is_break f l ≡ true → children_of f l ≡ []) (sym trees1) empty)

  -- ---- what is put is closed

  module _ (c r : ℕ) (t u : State) (m : Put s h b c r t u) (some : 0 < r) (plain : overrides_of t ≡ []) where
    is_u : IsValid u
    is_u = valid_way s h false b u m.way

    u1 : State
    u1 = final (canonicalize_start false) u

    u2 : State
    unfolding u1
    u2 = final (canonicalize_end false) u1

    both : Settled u u2
    unfolding u1 u2
    both =
        let one = settled_start false u is_u (λ l xs e. (let q = m.room l xs e in omega (arith, q, some))) in
        settled_trans u u1 u2 one (settled_end false u1 one.blanked.valid one.room)

    mv : Moved u u2 m.anchor m.focus
    mv = both.blanked.moved m.anchor m.focus m.selects

    way_u2 : Underway s h false u2
    unfolding u1 u2
    way_u2 = way_steady s h b (canonicalize_end false) u1 (steady_canonicalize_end false) (way_steady s h b (canonicalize_start false) u (steady_canonicalize_start false) m.way)

    end_is : end_of u2.trees (record { anchor = mv.anchor; focus = mv.focus }) ≡ mv.focus
    end_is =
        let off : is_before u2.trees mv.focus mv.anchor ≡ false = same_high u2.trees mv.focus mv.anchor (mv.at_focus ∙ (sym m.same ∙ sym mv.at_anchor)) (mv.ordered m.same m.low) in
        rw off refl

    u3 : State
    u3 = final (collapse mv.focus) u2

    last : final (collapse_selection true) u2 ≡ u3
    unfolding collapse_selection u3
    last =
        final-look _ u2
        ∙ (ap (λ o. final (given o done λ pair. collapse (end_for true u2.trees pair)) u2) mv.selects
        ∙ ap (λ q. final (collapse q) u2) end_is)

    placed3 : is_placed u2.trees mv.focus ≡ true
    placed3 =
        let placed : IfSome (Some (record { anchor = mv.anchor; focus = mv.focus })) (IsPlacedPair u2.trees) = subst (λ o. IfSome o (IsPlacedPair u2.trees)) mv.selects both.blanked.valid.placed.selection in
        placed.focus

    select3 : u3 ≡ with_selection (Some (record { anchor = mv.focus; focus = mv.focus })) u2
    unfolding u3 acted selected may_select
    select3 = final-perform (action.Select mv.focus mv.focus) u2 ∙ rw placed3 refl

    trees3 : u3.trees ≡ u2.trees
    unfolding changed
    trees3 = ap (λ (v : State). v.trees) select3

    caret3 : StandsAt u3 mv.focus
    unfolding changed
    caret3 = ap (λ (v : State). v.points.selection) select3

    way3 : Underway s h false u3
    unfolding u3
    way3 = way_steady s h b (collapse mv.focus) u2 (steady_perform (action.Select mv.focus mv.focus) tt) way_u2

    settings3 : (u3.overrides ≡ u2.overrides) ⊎ (u3.overrides ≡ no_overrides)
    unfolding u3 acted
    settings3 = subst (λ v. (v.overrides ≡ u2.overrides) ⊎ (v.overrides ≡ no_overrides)) (sym (final-perform (action.Select mv.focus mv.focus) u2)) (settings_selected mv.focus mv.focus u2)

    in_text : InText r u3 mv.focus (m.before ++ solid_chars (c ∷ [])) m.behind
    in_text =
        let front : Front u2 mv.focus (m.before ++ solid_chars (c ∷ [])) m.behind = mv.focus_front (m.before ++ solid_chars (c ∷ [])) m.behind m.now in
        let front3 = front_trees u2 u3 mv.focus (m.before ++ solid_chars (c ∷ [])) m.behind trees3 front in
        let there : IsWithin u3.trees 0 mv.focus.label = text_count (tree_of u3.trees 0) mv.focus.label front3.pre front3.chars front3.post front3.stands in
        record {
          way = way3;
          caret = caret3;
          held = near_inside s h false b u3 way3 mv.focus.label (subst (λ l. Near s h false b l) (sym mv.at_focus) (open_near s h false b u m.way m.focus.label (inside_open u m.focus.label m.held))) there;
          front = front3;
          room = λ l xs e. room_kept r u u2 both.blanked m.room l xs (subst (λ f. content_of f l ≡ Some (Words xs)) trees3 e);
          plain = plain_then t u3 (settings_both t u2 u3 (settings_both t u u2 m.settings both.blanked.settings) settings3) plain;
        }

    closed : (P : State → Unit {0} → Type 0) → P u3 tt → Ends close_text u P
    unfolding close_text u1 u2
    closed P k =
        ends_bind (canonicalize_start false) _ u P
        (ends_bind (canonicalize_end false) _ u1 P
        (subst (λ v. P v tt) (sym last) k))

  -- ---- a character

  -- it comes behind what the document bore before it
  record Comes (c r : ℕ) (t v : State) : Type 0 where
    before : List Leaf
    behind : List Leaf
    was : solid_leaves (tree_of t.trees 0) ≡ before ++ behind
    place : Point
    text : InText r v place (before ++ solid_chars (c ∷ [])) behind

  -- the run, where it puts the character so
  run_typed : (c r : ℕ) (t : State) (p : Point) (way : Underway s h false t) (reach : Reach t (into_text t.trees p)) (room : HasRoomFor (suc r) t) (some : 0 < r) → overrides_of t ≡ []
      → (m : Put s h b c r (t2 (suc r) t way (into_text t.trees p) reach room (omega arith)) (final (put_char c) (t2 (suc r) t way (into_text t.trees p) reach room (omega arith))))
      → (P : State → Unit {0} → Type 0) → ((v : State) (place : Point) → InText r v place (m.before ++ solid_chars (c ∷ [])) m.behind → P v tt) → Ends (type_char c p) t P
  unfolding type_char t1 t2
  run_typed c r t p way reach room some plain m P done_so =
      let x = into_text t.trees p in
      let v1 = t1 (suc r) t way x reach room (omega arith) in
      let v2 = t2 (suc r) t way x reach room (omega arith) in
      let v3 = final (put_char c) v2 in
      let plain2 = plain_then t v2 (settings2 (suc r) t way x reach room (omega arith)) plain in
      ends_look _ t P
      (ends_bind (collapse x) _ t P
      (ends_bind (canonicalize true x) _ v1 P
      (ends_bind (put_char c) _ v2 P
      (ends_bind (restore_states (overrides_of t)) _ v3 P
      (subst (λ list. Ends (restore_states list) v3 (λ u _. Ends close_text u P)) (sym plain)
      (nothing_restored v3 (λ u _. Ends close_text u P)
      (closed c r v2 v3 m some plain2 P (done_so (u3 c r v2 v3 m some plain2) (mv c r v2 v3 m some plain2).focus (in_text c r v2 v3 m some plain2)))))))))

  pub start_is : (t : State) (p : Point) → StandsAt t p → is_inside t p.label ≡ true → start_inside t ≡ Some p
  unfolding start_inside
  start_is t p caret held = ap (if_point_inside t) (start_caret t p caret) ∙ ap (λ v. if v then Some p else None) held

  pub inside_run : (c : ℕ) (t : State) (p : Point) → StandsAt t p → is_inside t p.label ≡ true → c ≢ 10 → final (insert_char_inside c) t ≡ final (type_char c p) t
  unfolding insert_char_inside insert_char_at
  inside_run c t p caret held off =
      final-look _ t ∙ (ap (λ o. final (given o done (insert_char_at c)) t) (start_is t p caret held)
      ∙ ap (λ v. final (if v then (insert_paragraph >> done) else type_char c p) t) (ne_eqb c 10 off))

  -- the first one
  first_comes : (c r : ℕ) (t : State) (p : Point) → Ready (suc r) t p → BreaksAreEmpty t → 0 < r → 1 + r < 2 ^ 32 → overrides_of t ≡ [] → c ≢ 10 → Comes c r t (final (insert_char_inside c) t)
  first_comes c r t p k empty some small plain off =
      let x = into_text t.trees p in
      let reach = reaches (suc r) t p k in
      let v2 = t2 (suc r) t k.way x reach k.room (omega arith) in
      let q = y (suc r) t k.way x reach k.room (omega arith) in
      let m = char_put s h b c r v2 (way2 (suc r) t k.way x reach k.room (omega arith)) q.place q.caret (held2 (suc r) t k.way x reach k.room (omega arith)) (comment2 (suc r) t k.way x reach k.room (omega arith)) (room2 (suc r) t k.way x reach k.room (omega arith)) some small (λ _. empty_sole v2 q.place.label (valid_way s h false b v2 (way2 (suc r) t k.way x reach k.room (omega arith))) (empty2 (suc r) t k.way x reach k.room (omega arith) empty)) in
      subst (λ v. Comes c r t v) (sym (inside_run c t p k.caret k.held off))
      (run_typed c r t p k.way reach k.room some plain m (λ v _. Comes c r t v) (λ v place text. record {
        before = m.before;
        behind = m.behind;
        was = sym (order2 (suc r) t k.way x reach k.room (omega arith)) ∙ m.was;
        place = place;
        text = text;
      }))

  -- and the next one
  record Goes (c r : ℕ) (F B : List Leaf) (v : State) : Type 0 where
    place : Point
    text : InText r v place (F ++ solid_chars (c ∷ [])) B

  next_comes : (c r : ℕ) (t : State) (p : Point) (F B : List Leaf) → InText (suc r) t p F B → 0 < r → c ≢ 10 → Goes c r F B (final (insert_char_inside c) t)
  unfolding is_words
  next_comes c r t p F B k some off =
      let is_t = valid_way s h false b t k.way in
      let x = into_text t.trees p in
      let same : into_text t.trees p ≡ p = into_text_here t p k.front.chars is_t k.front.content in
      let words : is_words t.trees p.label ≡ true = ap (λ (o : Option Content). option_map_or is_words_content o false) k.front.content in
      let here : Reach t p = record {
        inside = (nearby_caret s h b t p k.way k.caret k.held).inside;
        held = k.held;
        comment = λ _. words;
        placed = placed_from t.trees p (record { inside = (nearby_caret s h b t p k.way k.caret k.held).inside; fits = caret_fits t p is_t k.caret });
      } in
      let reach : Reach t (into_text t.trees p) = subst (λ q. Reach t q) (sym same) here in
      let v2 = t2 (suc r) t k.way x reach k.room (omega arith) in
      let q = y (suc r) t k.way x reach k.room (omega arith) in
      let front = front2 (suc r) t k.way x reach k.room (omega arith) F B (subst (λ z. Front t z F B) (sym same) k.front) in
      let m = char_in_text s h b c r v2 (way2 (suc r) t k.way x reach k.room (omega arith)) q.place q.caret (held2 (suc r) t k.way x reach k.room (omega arith)) (room2 (suc r) t k.way x reach k.room (omega arith)) some F B front in
      subst (λ v. Goes c r F B v) (sym (inside_run c t p k.caret k.held off))
      (run_typed c r t p k.way reach k.room some k.plain m.0 (λ v _. Goes c r F B v) (λ v place text. record {
        place = place;
        text = subst (λ f. InText r v place (f ++ solid_chars (c ∷ [])) B) m.1 (subst (λ l. InText r v place (m.0.before ++ solid_chars (c ∷ [])) l) m.2 text);
      }))

  -- ---- erasing between them

  erased_text : (r : ℕ) (t : State) (p : Point) (F B : List Leaf) → InText r t p F B → 0 < r → (q : Point) × InText r (final (erase KEEP_WRAPPERS) t) q F B
  erased_text r t p F B k some =
      let is_t = valid_way s h false b t k.way in
      let u = final (erase KEEP_WRAPPERS) t in
      let d = erased KEEP_WRAPPERS p t is_t (λ l xs e. (let m = k.room l xs e in omega (arith, m, some))) k.caret in
      let q = caret_then t u p d.blanked k.caret in
      let way = way_steady s h b (erase KEEP_WRAPPERS) t (steady_erase KEEP_WRAPPERS) k.way in
      let near = nearby_caret s h b t p k.way k.caret k.held in
      let there : IsWithin u.trees 0 q.place.label = subst (λ l. IsWithin u.trees 0 l) (sym q.label) (d.blanked.inside p.label near.inside) in (
        q.place,
        record {
          way = way;
          caret = q.caret;
          held = near_inside s h false b u way q.place.label (subst (λ l. Near s h false b l) (sym q.label) near.near) there;
          front = q.front F B k.front;
          room = room_kept r t u d.blanked k.room;
          plain = plain_then t u d.blanked.settings k.plain;
        },
      )

  -- each of several
  each_comes : (cs : List ℕ) (r : ℕ) (t : State) (p : Point) (F B : List Leaf) → HasNoBreaks cs → InText (length cs + r) t p F B → 0 < r → (q : Point) × InText r (final (for_each cs insert_char) t) q (F ++ solid_chars cs) B
  unfolding for_each insert_char
  each_comes [] r t p F B fine k some = (p, subst (λ u. InText r u p (F ++ []) B) (sym (final-answer tt t)) (subst (λ f. InText r t p f B) (sym (append-nil F)) (subst (λ n. InText n t p F B) (omega arith) k)))
  each_comes (c ∷ cs) r t p F B fine k some =
      let count : length (c ∷ cs) + r ≡ suc (length cs + r) = omega arith in
      let k' : InText (suc (length cs + r)) t p F B = subst (λ n. InText n t p F B) count k in
      let e = erased_text (suc (length cs + r)) t p F B k' (omega arith) in
      let u = final (erase KEEP_WRAPPERS) t in
      let g = next_comes c (length cs + r) u e.0 F B e.1 (omega (arith, some)) fine.0 in
      let v = final (insert_char_inside c) u in
      let more = each_comes cs r v g.place (F ++ solid_chars (c ∷ [])) B fine.1 g.text some in
      let run : final (for_each (c ∷ cs) insert_char) t ≡ final (for_each cs insert_char) v = rw (final-bind, final-bind) refl in
      let joined : (F ++ solid_chars (c ∷ [])) ++ solid_chars cs ≡ F ++ solid_chars (c ∷ cs) =
      append_assoc F (solid_chars (c ∷ [])) (solid_chars cs) ∙ ap (λ l. F ++ l) (sym (filter-append is_solid (Letter c ∷ []) (map Letter cs))) in
      (more.0, subst (λ w. InText r w more.0 (F ++ solid_chars (c ∷ cs)) B) (sym run) (subst (λ f. InText r (final (for_each cs insert_char) v) more.0 f B) joined more.1))

  -- ---- the whole

  -- the caret that is left
  pub record Erased (r : ℕ) (t : State) : Type 0 where
    pub place : Point
    pub ready : Ready r (final (erase KEEP_WRAPPERS) t) place
    pub order : KeepsOrderUpToBlanks t (final (erase KEEP_WRAPPERS) t)
    pub settings : ((final (erase KEEP_WRAPPERS) t).overrides ≡ t.overrides) ⊎ ((final (erase KEEP_WRAPPERS) t).overrides ≡ no_overrides)
    pub empty : BreaksAreEmpty t → BreaksAreEmpty (final (erase KEEP_WRAPPERS) t)

  pub erased_ready : (r : ℕ) (t : State) (p : Point) → Ready r t p → 0 < r → Erased r t
  erased_ready r t p k some =
      let is_t = valid_way s h false b t k.way in
      let u = final (erase KEEP_WRAPPERS) t in
      let d = erased KEEP_WRAPPERS p t is_t (λ l xs e. (let m = k.room l xs e in omega (arith, m, some))) k.caret in
      let q = caret_then t u p d.blanked k.caret in
      let way = way_steady s h b (erase KEEP_WRAPPERS) t (steady_erase KEEP_WRAPPERS) k.way in
      let near = nearby_caret s h b t p k.way k.caret k.held in
      let there : IsWithin u.trees 0 q.place.label = subst (λ l. IsWithin u.trees 0 l) (sym q.label) (d.blanked.inside p.label near.inside) in
      let known : 0 < count_of t.trees p.label = (let i = near.inside in omega (arith, i, total-without (λ m _. cond (eqb m p.label) 1 0) t.trees 0)) in
      record {
        place = q.place;
        ready = record {
          way = way;
          caret = q.caret;
          held = near_inside s h false b u way q.place.label (subst (λ l. Near s h false b l) (sym q.label) near.near) there;
          comment = comment_then (erase KEEP_WRAPPERS) t p q.place is_t known q.label k.comment;
          room = room_kept r t u d.blanked k.room;
        };
        order = d.blanked.order;
        settings = d.blanked.settings;
        empty = empty_then t u d.blanked;
      }

  -- what the document has with some characters more, at one place
  abbrev pub Gains : List ℕ → State → State → Type 0
  Gains cs t v =
      (F : List Leaf) × (B : List Leaf) × (solid_leaves (tree_of t.trees 0) ≡ F ++ B)
      × (solid_leaves (tree_of v.trees 0) ≡ F ++ (solid_chars cs ++ B))

  pub gains_after : (cs : List ℕ) (t u v : State) → KeepsOrderUpToBlanks t u → Gains cs u v → Gains cs t v
  gains_after cs t u v k g = (g.0, g.1, sym k ∙ g.2, g.3)

  one_gained : (c r : ℕ) (t v : State) → Comes c r t v → Gains (c ∷ []) t v
  one_gained c r t v k =
      (k.before, k.behind, k.was, front_whole v k.place (k.before ++ solid_chars (c ∷ [])) k.behind k.text.front ∙ append_assoc k.before (solid_chars (c ∷ [])) k.behind)

  several_gained : (c : ℕ) (cs : List ℕ) (t : State) (p : Point) → Ready (suc (length cs + 1)) t p → BreaksAreEmpty t → length cs + 2 < 2 ^ 32 → overrides_of t ≡ [] → c ≢ 10 → HasNoBreaks cs → Gains (c ∷ cs) t (final (for_each (c ∷ cs) insert_char) t)
  unfolding for_each insert_char
  several_gained c cs t p k empty small plain off fine =
      let e = erased_ready (suc (length cs + 1)) t p k (omega arith) in
      let u = final (erase KEEP_WRAPPERS) t in
      let f = first_comes c (length cs + 1) u e.place e.ready (e.empty empty) (omega arith) (omega (arith, small)) (plain_then t u e.settings plain) off in
      let v = final (insert_char_inside c) u in
      let F = f.before in
      let B = f.behind in
      let w = final (for_each cs insert_char) v in
      let more = each_comes cs 1 v f.place (F ++ solid_chars (c ∷ [])) B fine f.text (omega arith) in
      let run : final (for_each (c ∷ cs) insert_char) t ≡ w = rw (final-bind, final-bind) refl in
      let whole : solid_leaves (tree_of w.trees 0) ≡ F ++ (solid_chars (c ∷ cs) ++ B) =
      front_whole w more.0 ((F ++ solid_chars (c ∷ [])) ++ solid_chars cs) B more.1.front
      ∙ (ap (λ l. l ++ B) (append_assoc F (solid_chars (c ∷ [])) (solid_chars cs) ∙ ap (λ l. F ++ l) (sym (filter-append is_solid (Letter c ∷ []) (map Letter cs))))
      ∙ append_assoc F (solid_chars (c ∷ cs)) B) in
      subst (λ x. Gains (c ∷ cs) t x) (sym run) (F, B, sym e.order ∙ f.was, whole)

  chars_gained : (cs : List ℕ) (t : State) (p : Point) → Ready (suc (length cs)) t p → BreaksAreEmpty t → length cs + 2 < 2 ^ 32 → overrides_of t ≡ [] → HasNoBreaks cs → Gains cs t (final (insert_chars cs) t)
  unfolding insert_chars insert_several
  chars_gained [] t p k empty small plain fine =
      let f = solid_leaves (tree_of t.trees 0) in
      subst (λ v. Gains [] t v) (sym (final-answer tt t)) (f, [], sym (append-nil f), sym (append-nil f))
  chars_gained (c ∷ []) t p k empty small plain fine = one_gained c 1 t (final (insert_char_inside c) t) (first_comes c 1 t p k empty (omega arith) (omega arith) plain fine.0)
  chars_gained (c ∷ d ∷ cs) t p k empty small plain fine =
      let there = start_is t p k.caret k.held in
      let run : final (insert_several (c ∷ d ∷ cs)) t ≡ final (for_each (c ∷ d ∷ cs) insert_char) t =
      final-look _ t ∙ ap (λ o. final (if is_none o then done else for_each (c ∷ d ∷ cs) insert_char) t) there in
      let ready : Ready (suc (length (d ∷ cs) + 1)) t p = subst (λ n. Ready (suc n) t p) (omega arith) k in
      subst (λ v. Gains (c ∷ d ∷ cs) t v) (sym run) (several_gained c (d ∷ cs) t p ready empty (omega (arith, small)) plain fine.0 fine.1)

  -- the beginning of a command
  room_u : (n : ℕ) → HasRoomFor n s → HasRoomFor n (begun (Some h) false s)
  unfolding begun
  room_u n room = room

  comment_u : (p : Point) → IsNoComment s p → IsNoComment (begun (Some h) false s) p
  unfolding begun
  comment_u p comment = comment

  plain_u : overrides_of s ≡ [] → overrides_of (begun (Some h) false s) ≡ []
  unfolding begun overrides_of
  plain_u plain = among_is (begun (Some h) false s) overriding_commands ∙ (sym (among_is s overriding_commands) ∙ plain)

  pub gains_u : (cs : List ℕ) (t : State) → Gains cs (begun (Some h) false s) t → Gains cs s t
  unfolding begun
  gains_u cs t k = k

  pub begun_ready : (r : ℕ) (p : Point) → HasRoomFor r s → StandsAt s p → is_inside (begun (Some h) false s) p.label ≡ true → IsNoComment s p → Ready r (begun (Some h) false s) p
  begun_ready r p room caret held comment = record {
    way = record { way = here; leaves = tt };
    caret = caret_begun s h b p caret;
    held = held;
    comment = comment_u p comment;
    room = room_u r room;
  }

  pub text_inserted : (p : Point) (cs : List ℕ) → HasRoomFor (suc (length cs)) s → length cs + 2 < 2 ^ 32 → BreaksAreEmpty s → StandsAt s p → is_inside (begun (Some h) false s) p.label ≡ true → IsNoComment s p → overrides_of s ≡ [] → HasNoBreaks cs → Gains cs s (final (insert_text cs) (begun (Some h) false s))
  unfolding insert_text
  text_inserted p cs room small empty caret held comment plain fine =
      let u = begun (Some h) false s in
      let ready = begun_ready (suc (length cs)) p room caret held comment in
      let e = erased_ready (suc (length cs)) u p ready (omega arith) in
      let t = final (erase KEEP_WRAPPERS) u in
      let v = final (insert_chars cs) t in
      let run : final (insert_text cs) u ≡ v = rw (final-bind, final-bind, final-answer) refl in
      gains_u cs (final (insert_text cs) u) (subst (λ w. Gains cs u w) (sym run) (gains_after cs u t v e.order (chars_gained cs t e.place e.ready (e.empty (empty_begun s h b empty)) small (plain_then u t e.settings (plain_u plain)) fine)))
