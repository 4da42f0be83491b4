-- Inserting a text at a caret, with any overrides: each character comes at one place or not at all, and all else stays.
use Rattle.std.proofs.Common.{◌≡◌, ◌≢◌, ◌⊎◌, ℕ, suc, ◌+◌, ◌<◌, ◌^◌, Bool, true, false, ◌&&◌, if◌then◌else◌, List, [], ◌∷◌, length, Option, Some, None, is_none, IfSome, refl, sym, ap, subst, ◌∙◌, inl, inr, arith}
use Rattle.std.specs.Prelude.{unwrap_or}
use Rattle.std.specs.Option.{option_map}
use Rattle.std.proofs.lemmas.Bool.{ne_eqb}
use Rattle.edit_model.specs.DomModel.Forest.{either, tree_of, content_of, IsWithin}
use Rattle.edit_model.specs.DomModel.declared.Content.TheVariants.{Words}
use Rattle.edit_model.specs.LiveRange.declared.places.Pair.{Pair}
use Rattle.edit_model.specs.LiveRange.declared.places.Point.{Point}
use Rattle.edit_model.specs.PointOrder.PointOrder.{is_before, is_placed}
use Rattle.inline_value.specs.NodeTests.BlockPoints.{child_before, child_at}
use Rattle.edit_model.specs.State.{State}
use Rattle.edit_model.specs.Action as action
use Rattle.edit_model.specs.Action.{with_selection, selected, acted}
use Rattle.edit_model.specs.Confined.{is_inside, may_select}
use Rattle.edit_model.specs.Edit.{changed}
use Rattle.edit_model.specs.History.{begun}
use Rattle.edit_model.specs.Kept.{Leaf}
use Rattle.edit_model.specs.Run.{◌>>=◌, ◌>>◌, final, value, answer, done, given, for_each, collapse}
use Rattle.edit_model.specs.Valid.{IsValid, IsPlacedPair}
use Rattle.edit_model.proofs.Commands.{valid_begun}
use Rattle.edit_model.proofs.Documents.{within_below}
use Rattle.edit_model.proofs.OutsideRuns.{trees-selected}
use Rattle.edit_model.proofs.Steps.{final-bind, value-bind, final-answer, value-answer, final-look, value-look, final-perform}
use Rattle.edit_model.proofs.ValidRuns.{final_valid}
use Rattle.edit_laws.specs.Order.{KeepsOrder}
use Rattle.command_laws.proofs.RestoringRuns.{order_preserving_restore_states}
use Rattle.inline_value.specs.EditActions.ActiveRange.{start_of, end_of}
use Rattle.inline_value.specs.declared.overrides.Override.{Override}
use Rattle.inline_value.specs.Overrides.{overrides_of}
use Rattle.inline_commands.specs.RestoringStates.{restore_states}
use Rattle.delete_core.specs.declared.deletion.TheConstants.Manner.{KEEP_WRAPPERS}
use Rattle.delete_core.specs.Deletion.{delete_range, delete_between, delete_selection}
use Rattle.delete_core.specs.Ends.{end_for, collapse_selection, canonicalize_start, canonicalize_end}
use Rattle.delete_core.specs.Equivalent.{last_equivalent, first_equivalent}
use Rattle.delete_core.specs.Places.{start_in, end_in}
use Rattle.delete_core.specs.Whitespace.{canonicalize}
use Rattle.text_insertion.specs.Paragraph.{insert_paragraph}
use Rattle.text_insertion.specs.Start.{active_start, if_point_inside, start_inside, erase}
use Rattle.text_insertion.specs.Typing.{if_words, end_before, start_after, into_text, put_char, close_text, type_char, insert_char_at, insert_char_inside, insert_char, insert_several, insert_chars, insert_text}
use Rattle.caret_laws.specs.SolidOrder.{solid_leaves, KeepsOrderUpToBlanks, StandsAt, HasRoomFor, HasRoom}
use Rattle.caret_laws.specs.TypingLaws.{HasNoBreaks, MayGainEach}
use Rattle.caret_laws.proofs.AlikeStates.{alike_restore_states}
use Rattle.caret_laws.proofs.Blanks.{caret_then, room_kept}
use Rattle.caret_laws.proofs.Canonical.{ends_look, ends_bind, mapped_is, either_is, chosen_is, child_apart, canonical}
use Rattle.caret_laws.proofs.CaretErasing.{caret_inside, settled_start, settled_end, settled_trans, collapse_trees, nothing_restored, erased}
use Rattle.caret_laws.proofs.GainedChars.{Gained, gained_amid, less_room, char_kept}
use Rattle.caret_laws.proofs.PutElements.{start_caret}
use Rattle.caret_laws.proofs.SparingRuns.{Spared, spared_look, spared_front, spared_back, sparing_ordered}
use Rattle.caret_laws.proofs.Solid.{solid_order}
use Rattle.caret_laws.proofs.Trails.{index_is}

-- A caret is selected, or nothing, and each text has room for r characters.
pub record Calm (r : ℕ) (u : State) : Type 0 where
  pub valid : IsValid u
  pub room : HasRoomFor r u
  pub caret : (u.points.selection ≡ None) ⊎ ((q : Point) × StandsAt u q)

one_room : (r : ℕ) (u : State) → 0 < r → HasRoomFor r u → HasRoom u
one_room r u some room l xs e = (let k = room l xs e in omega (arith, k, some))

-- ---- selecting a point

caret_selected : (x p : Point) (u : State) → StandsAt u p → (q : Point) × StandsAt (selected x x u) q
unfolding selected changed
caret_selected x p u caret = by (may_select u x && may_select u x)
  where
    by : (v : Bool) → (q : Point) × StandsAt (if v then with_selection (Some (record { anchor = x; focus = x })) u else u) q
    by true = (x, refl)
    by false = (p, caret)

-- one of the ends of what is selected
collapsed_caret : (backward : Bool) (u : State) → IsValid u → ((final (collapse_selection backward) u).points.selection ≡ None) ⊎ ((q : Point) × StandsAt (final (collapse_selection backward) u) q)
unfolding collapse_selection acted selected may_select changed
collapsed_caret backward u is = subst P (sym (final-look _ u)) (by u.points.selection refl)
  where
    P : State → Type 0
    P t = (t.points.selection ≡ None) ⊎ ((q : Point) × StandsAt t q)

    ends_placed : (pair : Pair) → IsPlacedPair u.trees pair → is_placed u.trees (end_for backward u.trees pair) ≡ true
    ends_placed pair placed = chosen backward (is_before u.trees pair.focus pair.anchor)
      where
        chosen : (v w : Bool) → is_placed u.trees (if v then (if w then pair.anchor else pair.focus) else (if w then pair.focus else pair.anchor)) ≡ true
        chosen true true = placed.anchor
        chosen true false = placed.focus
        chosen false true = placed.focus
        chosen false false = placed.anchor

    by : (o : Option Pair) → u.points.selection ≡ o → P (final (given o done λ pair. collapse (end_for backward u.trees pair)) u)
    by None e = subst P (sym (final-answer tt u)) (inl e)
    by (Some pair) e =
        let q = end_for backward u.trees pair in
        let placed : IfSome (Some pair) (IsPlacedPair u.trees) = subst (λ o. IfSome o (IsPlacedPair u.trees)) e is.placed.selection in
        let run : final (collapse q) u ≡ with_selection (Some (record { anchor = q; focus = q })) u = final-perform (action.Select q q) u ∙ rw (ends_placed pair placed) refl in
        subst P (sym run) (inr (q, refl))

-- ---- into a text

into_inside : (u : State) (p : Point) → IsValid u → IsWithin u.trees 0 p.label → IsWithin u.trees 0 (into_text u.trees p).label
unfolding into_text end_before start_after
into_inside u p is here = by (either (option_map (end_in u.trees) (if_words u.trees (child_before u.trees p.label p.offset))) (option_map start_in (if_words u.trees (child_at u.trees p.label p.offset)))) refl
  where
    words_if : (o : Option ℕ) (l : ℕ) → if_words u.trees o ≡ Some l → o ≡ Some l
    words_if None l e = e
    words_if (Some m) l e = (chosen_is _ (Some m) l e).1

    child_inside : (l i : ℕ) → child_at u.trees p.label i ≡ Some l → IsWithin u.trees 0 l
    child_inside l i found = within_below u.trees u.next is.forest p.label l (index_is u.trees is.forest.distinct p.label l i found).0 here

    by : (o : Option Point) → either (option_map (end_in u.trees) (if_words u.trees (child_before u.trees p.label p.offset))) (option_map start_in (if_words u.trees (child_at u.trees p.label p.offset))) ≡ o → IsWithin u.trees 0 (unwrap_or o p).label
    by None e = here
    by (Some x) e = elim (either_is (option_map (end_in u.trees) (if_words u.trees (child_before u.trees p.label p.offset))) (option_map start_in (if_words u.trees (child_at u.trees p.label p.offset))) x e) [
      | inl d ↦ (
          let m = mapped_is (end_in u.trees) (if_words u.trees (child_before u.trees p.label p.offset)) x d in
          let c = child_apart u.trees u.next is.forest p.label p.offset m.0 (words_if (child_before u.trees p.label p.offset) m.0 m.1) in
          subst (λ l. IsWithin u.trees 0 l) (sym (ap (λ q. q.label) m.2)) (child_inside m.0 c.0 c.2))
      | inr d ↦ (
          let m = mapped_is start_in (if_words u.trees (child_at u.trees p.label p.offset)) x d in
          subst (λ l. IsWithin u.trees 0 l) (sym (ap (λ q. q.label) m.2)) (child_inside m.0 p.offset (words_if (child_at u.trees p.label p.offset) m.0 m.1)))
    ]

-- ---- restoring

pub restored : (list : List Override) (u : State) → IsValid u → Spared (restore_states list) u → KeepsOrder u (final (restore_states list) u)
restored list u is spares = sparing_ordered (restore_states list) u (alike_restore_states list) (order_preserving_restore_states list) is spares

pub restored_room : (list : List Override) (r : ℕ) (u : State) → IsValid u → HasRoomFor r u → HasRoomFor r (final (restore_states list) u)
restored_room list r u is room = (alike_restore_states list).room r u is room

-- ---- the whitespace round what was put

pub closed_calm : (r : ℕ) (u : State) → IsValid u → HasRoomFor r u → 0 < r → KeepsOrderUpToBlanks u (final close_text u) × Calm r (final close_text u)
unfolding close_text
closed_calm r u is room some =
    let v = final (canonicalize_start false) u in
    let one = settled_start false u is (one_room r u some room) in
    let w = final (canonicalize_end false) v in
    let two = settled_end false v one.blanked.valid one.room in
    let both = settled_trans u v w one two in
    let P : State → Unit {0} → Type 0 = λ t _. KeepsOrderUpToBlanks u t × Calm r t in
    let same = collapse_trees true w in
    ends_bind (canonicalize_start false) _ u P
    (ends_bind (canonicalize_end false) _ v P (
      ap (λ f. solid_leaves (tree_of f 0)) same ∙ both.blanked.order,
      record {
        valid = final_valid (collapse_selection true) w both.blanked.valid;
        room = λ l xs e. room_kept r u w both.blanked room l xs (subst (λ f. content_of f l ≡ Some (Words xs)) same e);
        caret = collapsed_caret true w both.blanked.valid;
      },
    ))

-- ---- a character

typed_calm : (c r : ℕ) (u : State) (p : Point) → IsValid u → HasRoomFor (suc r) u → 0 < r → 1 + r < 2 ^ 32 → StandsAt u p → Spared (type_char c p) u → Gained c u (final (type_char c p) u) × Calm r (final (type_char c p) u)
unfolding type_char acted
typed_calm c r u p is room some small caret spares =
    let x = into_text u.trees p in
    let v1 = final (collapse x) u in
    let run1 = final-perform (action.Select x x) u in
    let trees1 : v1.trees ≡ u.trees = ap (λ (w : State). w.trees) run1 ∙ trees-selected x x u in
    let is1 = final_valid (collapse x) u is in
    let caret1 : (q : Point) × StandsAt v1 q = subst (λ w. (q : Point) × StandsAt w q) (sym run1) (caret_selected x p u caret) in
    let room1 : HasRoomFor (suc r) v1 = λ l xs e. room l xs (subst (λ f. content_of f l ≡ Some (Words xs)) trees1 e) in
    let inside1 : IsWithin v1.trees 0 x.label = subst (λ f. IsWithin f 0 x.label) (sym trees1) (into_inside u p is (caret_inside u p is caret)) in
    let v2 = final (canonicalize true x) v1 in
    let settled = canonical true x v1 is1 (one_room (suc r) v1 (omega arith) room1) inside1 in
    let y = caret_then v1 v2 caret1.0 settled.blanked caret1.1 in
    let is2 = settled.blanked.valid in
    let room2 = room_kept (suc r) v1 v2 settled.blanked room1 in
    let order2 : KeepsOrderUpToBlanks u v2 = settled.blanked.order ∙ ap (λ f. solid_leaves (tree_of f 0)) trees1 in
    let list = overrides_of u in
    let from_collapse = spared_back (collapse x) _ u (spared_look _ u spares) in
    let from_blanks = spared_back (canonicalize true x) _ v1 from_collapse in
    let from_put = spared_back (put_char c) _ v2 from_blanks in
    let v3 = final (put_char c) v2 in
    let put = char_kept c r v2 is2 room2 some small y.place y.caret (spared_front (put_char c) _ v2 from_blanks) in
    let is3 = final_valid (put_char c) v2 is2 in
    let v4 = final (restore_states list) v3 in
    let order4 = solid_order v3 v4 (restored list v3 is3 (spared_front (restore_states list) _ v3 from_put)) in
    let is4 = final_valid (restore_states list) v3 is3 in
    let last = closed_calm r v4 is4 (restored_room list r v3 is3 put.1) some in
    let v5 = final close_text v4 in
    let P : State → Unit {0} → Type 0 = λ t _. Gained c u t × Calm r t in
    ends_look _ u P
    (ends_bind (collapse x) _ u P
    (ends_bind (canonicalize true x) _ v1 P
    (ends_bind (put_char c) _ v2 P
    (ends_bind (restore_states list) _ v3 P
    (gained_amid c u v2 v3 v5 order2 put.0 (last.0 ∙ order4), last.1)))))

inside_calm : (c r : ℕ) (u : State) → Calm (suc r) u → 0 < r → 1 + r < 2 ^ 32 → c ≢ 10 → Spared (insert_char_inside c) u → Gained c u (final (insert_char_inside c) u) × Calm r (final (insert_char_inside c) u)
unfolding insert_char_inside insert_char_at start_inside active_start
inside_calm c r u k some small off spares = by_caret k.caret
  where
    P : State → Type 0
    P t = Gained c u t × Calm r t

    looked : Spared (given (if_point_inside u (active_start u)) done (insert_char_at c)) u
    looked = spared_look _ u spares

    stays : P u
    stays = (inl refl, record { valid = k.valid; room = less_room r u k.room; caret = k.caret })

    nothing : if_point_inside u (active_start u) ≡ None → P (final (insert_char_inside c) u)
    nothing e = subst P (sym (final-look _ u ∙ (ap (λ o. final (given o done (insert_char_at c)) u) e ∙ final-answer tt u))) stays

    typed : (q : Point) → StandsAt u q → if_point_inside u (active_start u) ≡ Some q → P (final (insert_char_inside c) u)
    typed q caret e =
        let at_q : Spared (insert_char_at c q) u = subst (λ o. Spared (given o done (insert_char_at c)) u) e looked in
        let type : Spared (type_char c q) u = subst (λ v. Spared (if v then (insert_paragraph >> done) else type_char c q) u) (ne_eqb c 10 off) at_q in
        let run : final (insert_char_inside c) u ≡ final (type_char c q) u =
        final-look _ u ∙ (ap (λ o. final (given o done (insert_char_at c)) u) e ∙ ap (λ v. final (if v then (insert_paragraph >> done) else type_char c q) u) (ne_eqb c 10 off)) in
        subst P (sym run) (typed_calm c r u q k.valid k.room some small caret type)

    at_caret : (q : Point) → StandsAt u q → (v : Bool) → is_inside u q.label ≡ v → P (final (insert_char_inside c) u)
    at_caret q caret false e = nothing (ap (if_point_inside u) (start_caret u q caret) ∙ ap (λ v. if v then Some q else None) e)
    at_caret q caret true e = typed q caret (ap (if_point_inside u) (start_caret u q caret) ∙ ap (λ v. if v then Some q else None) e)

    by_caret : (u.points.selection ≡ None) ⊎ ((q : Point) × StandsAt u q) → P (final (insert_char_inside c) u)
    by_caret (inl none) = nothing (ap (λ o. if_point_inside u (option_map (start_of u.trees) o)) none)
    by_caret (inr (q, caret)) = at_caret q caret (is_inside u q.label) refl

-- ---- erasing

module _ (u : State) (none : u.points.selection ≡ None) where
  no_start : final (canonicalize_start true) u ≡ u
  unfolding canonicalize_start
  no_start = final-look _ u ∙ (ap (λ o. final (given o done λ pair. canonicalize true (start_of u.trees pair)) u) none ∙ final-answer tt u)

  no_end : final (canonicalize_end true) u ≡ u
  unfolding canonicalize_end
  no_end = final-look _ u ∙ (ap (λ o. final (given o done λ pair. canonicalize true (end_of u.trees pair)) u) none ∙ final-answer tt u)

  no_range : final (delete_between KEEP_WRAPPERS) u ≡ u
  unfolding delete_between
  no_range = final-look _ u ∙ (ap (λ o. final (given o (answer []) λ pair. delete_range KEEP_WRAPPERS (last_equivalent u.trees (start_of u.trees pair)) (first_equivalent u.trees (end_of u.trees pair))) u) none ∙ final-answer [] u)

  no_record : value (delete_between KEEP_WRAPPERS) u ≡ []
  unfolding delete_between
  no_record = value-look _ u ∙ (ap (λ o. value (given o (answer []) λ pair. delete_range KEEP_WRAPPERS (last_equivalent u.trees (start_of u.trees pair)) (first_equivalent u.trees (end_of u.trees pair))) u) none ∙ value-answer [] u)

  deleted_state : final (delete_selection KEEP_WRAPPERS) u ≡ u
  unfolding delete_selection
  deleted_state =
      final-bind (canonicalize_start true) (λ _. canonicalize_end true >>= (λ _. delete_between KEEP_WRAPPERS)) u
      ∙ (ap (λ t. final (canonicalize_end true >>= (λ _. delete_between KEEP_WRAPPERS)) t) no_start
      ∙ (final-bind (canonicalize_end true) (λ _. delete_between KEEP_WRAPPERS) u ∙ (ap (final (delete_between KEEP_WRAPPERS)) no_end ∙ no_range)))

  deleted_value : value (delete_selection KEEP_WRAPPERS) u ≡ []
  unfolding delete_selection
  deleted_value =
      value-bind (canonicalize_start true) (λ _. canonicalize_end true >>= (λ _. delete_between KEEP_WRAPPERS)) u
      ∙ (ap (λ t. value (canonicalize_end true >>= (λ _. delete_between KEEP_WRAPPERS)) t) no_start
      ∙ (value-bind (canonicalize_end true) (λ _. delete_between KEEP_WRAPPERS) u ∙ (ap (value (delete_between KEEP_WRAPPERS)) no_end ∙ no_record)))

  -- where nothing is selected, nothing is erased
  nothing_erased : final (erase KEEP_WRAPPERS) u ≡ u
  unfolding erase
  nothing_erased =
      final-bind (delete_selection KEEP_WRAPPERS) restore_states u
      ∙ (ap (λ list. final (restore_states list) (final (delete_selection KEEP_WRAPPERS) u)) deleted_value
      ∙ (ap (final (restore_states [])) deleted_state ∙ nothing_restored u (λ t _. t ≡ u) refl))

erased_calm : (r : ℕ) (u : State) → Calm r u → 0 < r → KeepsOrderUpToBlanks u (final (erase KEEP_WRAPPERS) u) × Calm r (final (erase KEEP_WRAPPERS) u)
erased_calm r u k some = by k.caret
  where
    by : (u.points.selection ≡ None) ⊎ ((q : Point) × StandsAt u q) → KeepsOrderUpToBlanks u (final (erase KEEP_WRAPPERS) u) × Calm r (final (erase KEEP_WRAPPERS) u)
    by (inl none) = subst (λ t. KeepsOrderUpToBlanks u t × Calm r t) (sym (nothing_erased u none)) (refl, k)
    by (inr (q, caret)) =
        let d = erased KEEP_WRAPPERS q u k.valid (one_room r u some k.room) caret in
        let t = final (erase KEEP_WRAPPERS) u in
        let left = caret_then u t q d.blanked caret in
        (d.blanked.order, record { valid = d.blanked.valid; room = room_kept r u t d.blanked k.room; caret = inr (left.place, left.caret) })

-- ---- several characters

nothing_gained : (cs : List ℕ) (list : List Leaf) → MayGainEach cs list list
nothing_gained [] list = refl
nothing_gained (c ∷ cs) list = (list, inl refl, nothing_gained cs list)

each_gained : (cs : List ℕ) (r : ℕ) (u : State) → Calm (length cs + r) u → 0 < r → length cs + r < 2 ^ 32 → HasNoBreaks cs → Spared (for_each cs insert_char) u
    → MayGainEach cs (solid_leaves (tree_of u.trees 0)) (solid_leaves (tree_of (final (for_each cs insert_char) u).trees 0))
unfolding for_each insert_char
each_gained [] r u k some small fine spares = ap (λ (t : State). solid_leaves (tree_of t.trees 0)) (final-answer tt u)
each_gained (c ∷ cs) r u k some small fine spares =
    let k' : Calm (suc (length cs + r)) u = subst (λ n. Calm n u) (omega arith) k in
    let e = erased_calm (suc (length cs + r)) u k' (omega arith) in
    let t = final (erase KEEP_WRAPPERS) u in
    let one = spared_front (erase KEEP_WRAPPERS >>= (λ _. insert_char_inside c)) (λ _. for_each cs insert_char) u spares in
    let g = inside_calm c (length cs + r) t e.1 (omega (arith, some)) (omega (arith, small)) fine.0 (spared_back (erase KEEP_WRAPPERS) (λ _. insert_char_inside c) u one) in
    let v = final (insert_char_inside c) t in
    let run1 : final (erase KEEP_WRAPPERS >>= (λ _. insert_char_inside c)) u ≡ v = final-bind (erase KEEP_WRAPPERS) (λ _. insert_char_inside c) u in
    let rest : Spared (for_each cs insert_char) v = subst (λ w. Spared (for_each cs insert_char) w) run1 (spared_back (erase KEEP_WRAPPERS >>= (λ _. insert_char_inside c)) (λ _. for_each cs insert_char) u spares) in
    let more = each_gained cs r v g.1 some (omega (arith, small)) fine.1 rest in
    let run : final (for_each (c ∷ cs) insert_char) u ≡ final (for_each cs insert_char) v = final-bind (erase KEEP_WRAPPERS >>= (λ _. insert_char_inside c)) (λ _. for_each cs insert_char) u ∙ ap (final (for_each cs insert_char)) run1 in (
      solid_leaves (tree_of v.trees 0),
      gained_amid c u t v v e.0 g.0 refl,
      subst (λ (w : State). MayGainEach cs (solid_leaves (tree_of v.trees 0)) (solid_leaves (tree_of w.trees 0))) (sym run) more,
    )

chars_gained : (cs : List ℕ) (u : State) → Calm (suc (length cs)) u → length cs + 2 < 2 ^ 32 → HasNoBreaks cs → Spared (insert_chars cs) u
    → MayGainEach cs (solid_leaves (tree_of u.trees 0)) (solid_leaves (tree_of (final (insert_chars cs) u).trees 0))
unfolding insert_chars insert_several
chars_gained [] u k small fine spares = ap (λ (t : State). solid_leaves (tree_of t.trees 0)) (final-answer tt u)
chars_gained (c ∷ []) u k small fine spares =
    let g = inside_calm c 1 u k (omega arith) (omega arith) fine.0 spares in
    (solid_leaves (tree_of (final (insert_char_inside c) u).trees 0), g.0, refl)
chars_gained (c ∷ d ∷ cs) u k small fine spares =
    subst (λ (t : State). MayGainEach (c ∷ d ∷ cs) (solid_leaves (tree_of u.trees 0)) (solid_leaves (tree_of t.trees 0))) (sym (final-look _ u)) (by (is_none (start_inside u)) (spared_look _ u spares))
  where
    by : (v : Bool) → Spared (if v then done else for_each (c ∷ d ∷ cs) insert_char) u
        → MayGainEach (c ∷ d ∷ cs) (solid_leaves (tree_of u.trees 0)) (solid_leaves (tree_of (final (if v then done else for_each (c ∷ d ∷ cs) insert_char) u).trees 0))
    by true h = subst (λ (t : State). MayGainEach (c ∷ d ∷ cs) (solid_leaves (tree_of u.trees 0)) (solid_leaves (tree_of t.trees 0))) (sym (final-answer tt u)) (nothing_gained (c ∷ d ∷ cs) (solid_leaves (tree_of u.trees 0)))
    by false h = each_gained (c ∷ d ∷ cs) 1 u (subst (λ n. Calm n u) (omega arith) k) (omega arith) (omega (arith, small)) fine h

-- ---- the whole

module _ (s : State) (h : ℕ) where
  begun_calm : (r : ℕ) (p : Point) → IsValid s → HasRoomFor r s → StandsAt s p → Calm r (begun (Some h) false s)
  unfolding begun
  begun_calm r p is room caret = record { valid = valid_begun (Some h) false s is; room = room; caret = inr (p, caret) }

  begun_gained : (cs : List ℕ) (t : State) → MayGainEach cs (solid_leaves (tree_of (begun (Some h) false s).trees 0)) (solid_leaves (tree_of t.trees 0)) → MayGainEach cs (solid_leaves (tree_of s.trees 0)) (solid_leaves (tree_of t.trees 0))
  unfolding begun
  begun_gained cs t gained = gained

  pub text_gained : (p : Point) (cs : List ℕ) → IsValid s → HasRoomFor (suc (length cs)) s → length cs + 2 < 2 ^ 32 → StandsAt s p → HasNoBreaks cs
      → Spared (insert_chars cs) (final (erase KEEP_WRAPPERS) (begun (Some h) false s))
      → MayGainEach cs (solid_leaves (tree_of s.trees 0)) (solid_leaves (tree_of (final (insert_text cs) (begun (Some h) false s)).trees 0))
  unfolding insert_text
  text_gained p cs is room small caret fine spares =
      let a = begun (Some h) false s in
      let e = erased_calm (suc (length cs)) a (begun_calm (suc (length cs)) p is room caret) (omega arith) in
      let t = final (erase KEEP_WRAPPERS) a in
      let run : final (insert_text cs) a ≡ final (insert_chars cs) t = rw (final-bind, final-bind, final-answer) refl in
      let gained = chars_gained cs t e.1 small fine spares in
      begun_gained cs (final (insert_text cs) a)
      (subst (λ (w : State). MayGainEach cs (solid_leaves (tree_of a.trees 0)) (solid_leaves (tree_of w.trees 0))) (sym run)
      (subst (λ before. MayGainEach cs before (solid_leaves (tree_of (final (insert_chars cs) t).trees 0))) e.0 gained))
