-- Inserting a paragraph ends where it would with the tail extracted by single edits.
use Rattle.std.proofs.Common.{◌≡◌, ◌≢◌, ◌⊎◌, ℕ, zero, suc, ◌<◌, ◌≤◌, Bool, true, false, if◌then◌else◌, cond, eqb, List, Option, Some, None, IfSome, refl, sym, ap, subst, ◌∙◌, inl, inr, arith, true≢false}
use Rattle.std.specs.Prelude.{nat_lt, codes}
use Rattle.std.specs.Option.{option_map_or}
use Rattle.std.proofs.lemmas.Bool.{and_parts, cases_Bool, lt-ltb, le-ltb, ltb-true, le-leb}
use Rattle.edit_model.specs.DomModel.AttributeList.{unset_in}
use Rattle.edit_model.specs.DomModel.declared.attributes.Attribute.{Attribute}
use Rattle.edit_model.specs.DomModel.Editing.{editing_host, is_editable}
use Rattle.edit_model.specs.DomModel.Forest.{count_of, tree_of, IsWithin}
use Rattle.edit_model.proofs.DomModel.Totals.{total-without}
use Rattle.edit_model.proofs.DomModel.Within.{within_self}
use Rattle.edit_model.specs.LiveRange.declared.places.Point.{Point}
use Rattle.edit_model.specs.LiveRange.declared.places.Pair.{Pair}
use Rattle.inline_value.specs.NodeStyles.NameClasses.{is_single_line}
use Rattle.edit_model.specs.PointOrder.PointOrder.{is_within}
use Rattle.edit_model.specs.State.{State}
use Rattle.edit_model.specs.Compositions.{attribute_list_of}
use Rattle.edit_model.specs.Confined.{is_editable_for, is_made}
use Rattle.edit_model.specs.Action as action
use Rattle.edit_model.specs.Action.{made, element_content, acted, extracted}
use Rattle.edit_model.specs.History.{begun}
use Rattle.edit_model.specs.Laws.{LeavesStates}
use Rattle.edit_model.specs.Moves.{insert_after}
use Rattle.edit_model.specs.Run.{◌>>=◌, ◌>>◌, final, value, answer, done, given}
use Rattle.edit_model.specs.Valid.{IsValid}
use Rattle.edit_model.proofs.Hollow.{editable_below}
use Rattle.edit_model.proofs.OwnRoots.{holder_inside}
use Rattle.edit_model.proofs.Points.{Placed}
use Rattle.edit_model.proofs.Steps.{final-bind, value-bind, final-look, value-look, final-answer, value-answer, final-perform, final-make_element, value-make_element, next_along}
use Rattle.edit_model.proofs.Tests.{label_is, parent_there}
use Rattle.edit_model.proofs.Trees.{within_trans}
use Rattle.edit_model.proofs.ValidRuns.{final_valid}
use Rattle.command_laws.proofs.NewWraps.{new_wrap}
use Rattle.command_laws.proofs.NoStates.{editable_unstated, unstated_without_id}
use Rattle.inline_value.specs.WrapSplit.declared.rule.Criterion.TheVariants.{Never}
use Rattle.inline_value.specs.WrapSplit.declared.rule.Recipe.TheVariants.{Make}
use Rattle.inline_value.specs.WrapSplit.Wrap.{wrap}
use Rattle.text_insertion.specs.Containers.{plain_container, contents_from, insert_container, takes_container, add_container, wrap_line, first_content, make_line, is_own_container, container_of, own_container}
use Rattle.text_insertion.specs.Entries.{is_empty_entry, leave_list}
use Rattle.text_insertion.specs.Halves.{parting_point, second_name, make_second, close_both, part_at, part_container}
use Rattle.text_insertion.specs.Paragraph.{split_text, holds_lines, break_line, part_line, part_line_if, part_paragraph, insert_paragraph_inside}
use Rattle.text_insertion.specs.Start.{active_start, start_inside}
use Rattle.caret_laws.specs.SingleEdits.{extracted_singly}
use Rattle.caret_laws.specs.SingleParagraph.{second_put, parted_at, container_parted, line_parted, line_parted_if, paragraph_parted, inside_parted}
use Rattle.caret_laws.proofs.InsideRuns.{Began, Underway, open_near, near_editable, valid_way, host_way, start_way}
use Rattle.caret_laws.proofs.ParagraphCalls.{Around, parting_around, put_apart, extracts}
use Rattle.caret_laws.proofs.SingleTails.{tails_singly, nothing_singly, nothing_extracted}
use Rattle.caret_laws.proofs.SplitTexts.{split_stays, start_among, start_placed}
use Rattle.caret_laws.proofs.StillRuns.{Good, Stays, still_stays}
use Rattle.caret_laws.proofs.StillWraps.{still_wrap}
use Rattle.caret_laws.proofs.Trees.{within_both, editable_above, made_open}

module _ (s : State) (h : ℕ) (b : Began s h) where
  -- an editable node stands below the host
  below_host : (t : State) → Underway s h false t → (l : ℕ) → is_editable_for t l ≡ true → IsWithin t.trees h l × (l ≢ h)
  unfolding is_editable_for
  below_host t way l editable =
      let hosted : is_editable t.trees h l ≡ true = ap (λ (o : Option ℕ). option_map_or (λ k. is_editable t.trees k l) o false) (sym (host_way s h false b t way)) ∙ editable in
      editable_below t.trees (valid_way s h false b t way).forest.distinct l h (label_is (editing_host t.trees l) h hosted)

  -- ---- where the tail is extracted

  module _ (t : State) (way : Underway s h false t) (p : Point) (placed : Placed t.trees p) (good : Good s h false b t p.label) (c : ℕ) (own : (is_editable_for t c ≡ true) ⊎ (s.next ≤ c)) where
    is_t : IsValid t
    is_t = valid_way s h false b t way

    abbrev Q : Point
    Q = parting_point t p

    abbrev Name : List ℕ
    Name = second_name t (parting_point t p) c

    abbrev Attributes : List Attribute
    Attributes = unset_in (attribute_list_of t.trees c) (codes "id")

    abbrev Put : State
    Put = final (insert_after c t.next) (made (element_content Name Attributes) t)

    around : Around t.trees t.next is_t.forest p.label (parting_point t p).label
    around = parting_around t is_t p.label p (record { inside = placed.inside; holds = within_self t.trees p.label is_t.forest.distinct (parent_there t.trees p.label good.parent); parent = good.parent })

    made_is : final (make_second Q c) t ≡ made (element_content Name Attributes) t
    unfolding make_second
    made_is = final-look _ t ∙ final-make_element Name Attributes t

    label_is_next : value (make_second Q c) t ≡ t.next
    unfolding make_second
    label_is_next = value-look _ t ∙ value-make_element Name Attributes t

    valid_made_second : IsValid (made (element_content Name Attributes) t)
    valid_made_second = subst IsValid made_is (final_valid (make_second Q c) t is_t)

    valid_put : IsValid Put
    valid_put = final_valid (insert_after c t.next) (made (element_content Name Attributes) t) valid_made_second

    q_known : 0 < count_of t.trees Q.label
    q_known = let i = around.inside in omega (arith, i, total-without (λ m _. cond (eqb m Q.label) 1 0) t.trees 0)

    off_next : t.next ≢ Q.label
    off_next e = let low = is_t.forest.below Q.label q_known in omega (arith, low, e)

    outside : is_within t.trees c Q.label ≡ false → extracted Q c t.next Put ≡ extracted_singly Q c t.next Put
    outside out =
        let none : count_of (tree_of t.trees c) Q.label ≡ 0 = none_of (count_of (tree_of t.trees c) Q.label) out in
        let none' = put_apart t is_t (element_content Name Attributes) c Q.label off_next none valid_made_second in
        let out' : is_within Put.trees c Q.label ≡ false = le-ltb 0 (count_of (tree_of Put.trees c) Q.label) (omega (arith, none')) in
        nothing_extracted Put valid_put Q c t.next out' ∙ sym (nothing_singly Put valid_put Q c t.next out')
      where
        none_of : (k : ℕ) → nat_lt 0 k ≡ false → k ≡ 0
        none_of zero e = refl
        none_of (suc k) e = absurd (true≢false (sym (lt-ltb 0 (suc k) (omega arith)) ∙ e))

    module _ (held : IsWithin t.trees c Q.label) where
      c_inside : IsWithin t.trees 0 c
      c_inside = holder_inside t.trees t.next c Q.label is_t.forest held around.inside

      h_low : h < s.next
      h_low = (let i = b.inside in b.valid.forest.below h (omega (arith, i, total-without (λ m _. cond (eqb m h) 1 0) s.trees 0)))

      own_made : s.next ≤ c → is_made t c ≡ true
      unfolding is_made
      own_made high = le-leb t.start c (omega (arith, high, start_way s h false b t way))

      editable_c : is_editable_for t c ≡ true
      editable_c = elim own [
        | inl editable ↦ editable
        | inr high ↦ near_editable s h false b t way c (open_near s h false b t way c (made_open t c (own_made high))) c_inside (λ e. omega (arith, high, e, h_low))
      ]

      c_below : IsWithin t.trees h c × (c ≢ h)
      c_below = below_host t way c editable_c

      -- the host isn't within c
      host_out : IsWithin t.trees c h → ⊥
      host_out held_h = c_below.1 (within_both t.trees c h is_t.forest.distinct held_h c_below.0)

      p_held : IsWithin t.trees c p.label
      p_held = within_trans t.trees c Q.label p.label is_t.forest.distinct held around.holds

      editable_p : is_editable_for t p.label ≡ true
      editable_p = near_editable s h false b t way p.label good.near placed.inside (λ e. host_out (subst (λ k. IsWithin t.trees c k) e p_held))

      editable_q : is_editable_for t Q.label ≡ true
      editable_q =
          editable_above t is_t h (host_way s h false b t way) Q.label
          (within_trans t.trees h c Q.label is_t.forest.distinct c_below.0 held)
          (λ e. host_out (subst (λ k. IsWithin t.trees c k) e held)) p.label around.holds editable_p

      unstated : LeavesStates (action.MakeElement Name Attributes)
      unstated = unstated_without_id Name (attribute_list_of t.trees c) (editable_unstated t c is_t editable_c Name)

      inside : extracted Q c t.next Put ≡ extracted_singly Q c t.next Put
      inside =
          tails_singly Put Q c t.next valid_put
          (extracts s h b t way Name Attributes unstated c editable_c c_inside Q editable_q held around.inside around.parent)

    at_put : extracted Q c t.next Put ≡ extracted_singly Q c t.next Put
    at_put = elim (cases_Bool (is_within t.trees c Q.label)) [
      | inl on ↦ inside (ltb-true 0 (count_of (tree_of t.trees c) Q.label) on)
      | inr off ↦ outside off
    ]

    put_is : second_put Q c t ≡ Put
    unfolding second_put
    put_is = ap (λ d. final (insert_after c d) (final (make_second Q c) t)) label_is_next ∙ ap (λ v. final (insert_after c t.next) v) made_is

    at_second : extracted Q c (value (make_second Q c) t) (second_put Q c t) ≡ extracted_singly Q c (value (make_second Q c) t) (second_put Q c t)
    at_second =
        subst (λ d. extracted Q c d (second_put Q c t) ≡ extracted_singly Q c d (second_put Q c t)) (sym label_is_next)
        (subst (λ u. extracted Q c t.next u ≡ extracted_singly Q c t.next u) (sym put_is) at_put)

    part_is : final (part_at Q c) t ≡ final (close_both c (value (make_second Q c) t)) (extracted Q c (value (make_second Q c) t) (second_put Q c t))
    unfolding part_at second_put acted
    part_is = rw (final-bind, final-bind, final-bind, final-perform) refl

    pub parts_singly : final (part_at Q c) t ≡ parted_at Q c t
    unfolding parted_at
    parts_singly = part_is ∙ ap (λ u. final (close_both c (value (make_second Q c) t)) u) at_second

  -- ---- steps 5 to 9

  module _ (t : State) (k : Stays s h false b t) (c : ℕ) (own : (is_editable_for t c ≡ true) ⊎ (s.next ≤ c)) where
    good_start : (p : Point) → active_start t ≡ Some p → Good s h false b t p.label
    good_start p e =
        start_among t p (λ x. Good s h false b t x.label)
        (λ pair at. subst (λ o. IfSome o (λ (x : Pair). Good s h false b t x.anchor.label × Good s h false b t x.focus.label)) at k.selects.points) e

    container_singly : final (part_container c) t ≡ container_parted c t
    unfolding part_container container_parted
    container_singly = final-look _ t ∙ by (active_start t) refl
      where
        by : (o : Option Point) → active_start t ≡ o → final (given o done λ p. part_at (parting_point t p) c) t ≡ option_map_or (λ p. parted_at (parting_point t p) c t) o t
        by None e = final-answer tt t
        by (Some p) e = parts_singly t k.way p (start_placed t p (valid_way s h false b t k.way) e) (good_start p e) c own

    line_singly : (p : Point) → final (part_line p c) t ≡ line_parted p c t
    unfolding part_line line_parted
    line_singly p = final-look _ t ∙ by (holds_lines t c) (is_empty_entry t c)
      where
        by : (v w : Bool) → final (if v then break_line p c else (if w then leave_list c else part_container c)) t ≡ (if v then final (break_line p c) t else (if w then final (leave_list c) t else container_parted c t))
        by true w = refl
        by false true = refl
        by false false = container_singly

  -- ---- steps 3 and 4

  -- the container of a line is editable or new, and the selection stays at nodes that are inside
  pub record Contains (t : State) (x : ℕ) (u : State) : Type 0 where
    pub stays : Stays s h false b u
    own : (is_editable_for u x ≡ true) ⊎ (s.next ≤ x)

  module _ (t : State) (k : Stays s h false b t) where
    later : (x : ℕ) → t.next ≤ x → s.next ≤ x
    unfolding begun
    later x high = let rise = next_along k.way.way in omega (arith, rise, high)

    wrapped : (n : ℕ) (x : ℕ) → value (wrap_line n) t ≡ Some x → Contains t x (final (wrap_line n) t)
    unfolding wrap_line
    wrapped n x e =
        let m = wrap Never (Make (plain_container t)) (contents_from t n) in
        let new = (new_wrap t (plain_container t) (contents_from t n)).later x (sym (value-look _ t) ∙ e) in
        record {
          stays = subst (λ u. Stays s h false b u) (sym (final-look _ t)) (still_stays s h false b m t (still_wrap Never (plain_container t) refl (contents_from t n)) k);
          own = inr (later x new);
        }

    pub added_none : value add_container t ≡ None
    unfolding add_container
    added_none = value-look _ t ∙ by (takes_container t)
      where
        by : (v : Bool) → value {T = Option ℕ} (if v then (insert_container >> answer None) else answer None) t ≡ None
        by true = value-bind insert_container (λ _. answer None) t ∙ value-answer None (final insert_container t)
        by false = value-answer None t

    line_made : (x : ℕ) → value make_line t ≡ Some x → Contains t x (final make_line t)
    unfolding make_line
    line_made x e = subst (λ u. Contains t x u) (sym (final-look _ t)) (by (first_content t) (sym (value-look _ t) ∙ e))
      where
        by : (o : Option ℕ) → value (given o add_container wrap_line) t ≡ Some x → Contains t x (final (given o add_container wrap_line) t)
        by None e = absurd (let none : None ≡ Some x = sym added_none ∙ e in cc)
        by (Some n) e = wrapped n x e

    own_editable : (c : ℕ) → is_own_container t c ≡ true → is_editable_for t c ≡ true
    unfolding is_own_container
    own_editable c test = (and_parts (is_editable_for t c) (is_single_line t.trees c) test).0

    pub contained : (c x : ℕ) → value (own_container c) t ≡ Some x → Contains t x (final (own_container c) t)
    unfolding own_container
    contained c x e = subst (λ u. Contains t x u) (sym (final-look _ t)) (by (is_own_container t c) refl (sym (value-look _ t) ∙ e))
      where
        by : (v : Bool) → is_own_container t c ≡ v → value (if v then answer (Some c) else make_line) t ≡ Some x → Contains t x (final (if v then answer (Some c) else make_line) t)
        by false test e = line_made x e
        by true test e = subst (λ u. Contains t x u) (sym (final-answer (Some c) t)) (record {
          stays = k;
          own = inl (
              let same : c ≡ x = (let q : Some c ≡ Some x = sym (value-answer (Some c) t) ∙ e in cc) in
              subst (λ l. is_editable_for t l ≡ true) same (own_editable c test));
        })

    paragraph_singly : (p : Point) → final (part_paragraph p) t ≡ paragraph_parted p t
    unfolding part_paragraph paragraph_parted line_parted_if
    paragraph_singly p =
        let m = own_container (container_of t p.label) in
        final-look _ t ∙ (final-bind m (part_line_if p) t ∙ by (value m t) refl)
      where
        by : (o : Option ℕ) → value (own_container (container_of t p.label)) t ≡ o
            → final (part_line_if p o) (final (own_container (container_of t p.label)) t) ≡ option_map_or (λ c. line_parted p c (final (own_container (container_of t p.label)) t)) o (final (own_container (container_of t p.label)) t)
        by None e = final-answer tt (final (own_container (container_of t p.label)) t)
        by (Some x) e =
            let held = contained (container_of t p.label) x e in
            line_singly (final (own_container (container_of t p.label)) t) held.stays x held.own p

  -- ---- steps 2 to 9

  pub inside_singly : (t : State) → Underway s h false t → final insert_paragraph_inside t ≡ inside_parted t
  unfolding insert_paragraph_inside inside_parted
  inside_singly t way = final-look _ t ∙ by (start_inside t) refl
    where
      by : (o : Option Point) → start_inside t ≡ o → final (given o done λ p. split_text p >>= part_paragraph) t ≡ option_map_or (λ p. paragraph_parted (value (split_text p) t) (final (split_text p) t)) o t
      by None e = final-answer tt t
      by (Some p) e =
          final-bind (split_text p) part_paragraph t
          ∙ paragraph_singly (final (split_text p) t) (split_stays s h b t way p e) (value (split_text p) t)
