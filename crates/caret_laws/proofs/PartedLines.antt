-- Inserting a paragraph at a caret keeps the order of what the document bears, where the line has a container of its own.
use Rattle.std.proofs.Common.{◌≡◌, ◌⊎◌, ℕ, ◌+◌, ◌<◌, Bool, true, false, ◌&&◌, ◌||◌, if◌then◌else◌, cond, eqb, bytes_eq, List, Option, Some, None, refl, sym, ap, subst, ◌∙◌, inl, inr, arith, true≢false}
use Rattle.std.specs.Prelude.{codes, unwrap_or}
use Rattle.std.specs.Option.{option_map, option_map_or, option_and_then}
use Rattle.std.proofs.lemmas.Bool.{and_parts, or_cases, cases_Bool}
use Rattle.std.proofs.lemmas.Slice.Eq.{bytes_eq-Decides}
use Rattle.edit_model.specs.DomModel.declared.Content.{Content}
use Rattle.edit_model.specs.DomModel.declared.Content.TheVariants.{Document, Element, Words, Remark}
use Rattle.edit_model.specs.DomModel.Contents.{is_parent_at, has_chars, has_chars_at, length_of, name_in}
use Rattle.edit_model.specs.DomModel.Editing.{is_true_state, is_host}
use Rattle.edit_model.specs.DomModel.Forest.{is_label, tree_of, parent_of, content_of, IsWithin}
use Rattle.edit_model.specs.DomModel.Places.{index_of}
use Rattle.edit_model.proofs.DomModel.Totals.{total-without}
use Rattle.edit_model.proofs.DomModel.Within.{within_child}
use Rattle.edit_model.specs.HtmlNames.ElementNames.{is_non_list_single_line_container, is_single_line_container, non_list_container_names, list_container_names}
use Rattle.edit_model.specs.LiveRange.declared.places.Point.{Point}
use Rattle.inline_value.specs.NodeStyles.NameClasses.{is_single_line}
use Rattle.inline_value.specs.NodeTests.CollapsedWhitespace.{is_words_content, is_words}
use Rattle.edit_model.specs.State.{State}
use Rattle.edit_model.specs.Compositions.{split_words}
use Rattle.edit_model.specs.Confined.{is_editable_for, is_inside, may_select}
use Rattle.edit_model.specs.Edit.{changed}
use Rattle.edit_model.specs.Kept.{is_thing}
use Rattle.edit_model.specs.Action as action
use Rattle.edit_model.specs.Action.{with_selection, selected, acted}
use Rattle.edit_model.specs.History.{begun}
use Rattle.edit_model.specs.Run.{here, ◌>>=◌, ◌>>◌, final, value, answer, done, given, collapse}
use Rattle.edit_model.specs.Valid.{IsValid}
use Rattle.edit_model.proofs.OutsideRuns.{trees-selected}
use Rattle.edit_model.proofs.OwnRoots.{holder_inside}
use Rattle.edit_model.proofs.Steps.{final-bind, value-bind, final-look, value-look, final-answer, value-answer, final-perform}
use Rattle.edit_model.proofs.Tests.{label_is}
use Rattle.edit_model.proofs.ValidRuns.{final_valid}
use Rattle.edit_laws.specs.Order.{KeepsOrder}
use Rattle.edit_laws.proofs.QuietActions.{same_trees}
use Rattle.edit_laws.proofs.Subsequences.{keeps_refl, keeps_trans}
use Rattle.command_laws.proofs.DeleteRuns.{steady_erase}
use Rattle.delete_core.specs.declared.deletion.TheConstants.Manner.{DEFAULT}
use Rattle.delete_core.specs.Places.{at, before_node, after_node}
use Rattle.inline_value.specs.Ancestors.{is_description}
use Rattle.text_insertion.specs.Containers.{container_of, is_own_container, own_container, make_line}
use Rattle.text_insertion.specs.Entries.{is_entry, has_sole_break, is_empty_entry, leave_list}
use Rattle.text_insertion.specs.Halves.{parting_point, part_at, part_container}
use Rattle.text_insertion.specs.Paragraph.{out_of_text, left_text, leave_text, split_text, holds_lines, break_line, part_line, part_line_if, part_paragraph, insert_paragraph_inside, insert_paragraph}
use Rattle.text_insertion.specs.Start.{active_start, if_point_inside, start_inside, erase, cuts_text}
use Rattle.caret_laws.specs.ParagraphOrder.{StandsInNoThing, HasOwnLine, StandsInNoEmptyEntry}
use Rattle.caret_laws.specs.SolidOrder.{KeepsOrderUpToBlanks, StandsAt, HasRoom}
use Rattle.caret_laws.specs.TailLaws.{is_thing_at, AmidNoThing}
use Rattle.caret_laws.proofs.Blanks.{Caret, caret_then}
use Rattle.caret_laws.proofs.BlindRuns.{split_ordered}
use Rattle.caret_laws.proofs.Canonical.{Ends, ends_answer, ends_look, ends_bind, Settled}
use Rattle.caret_laws.proofs.CaretErasing.{caret_inside, erased}
use Rattle.caret_laws.proofs.InsideRuns.{Began, Underway, top_known, valid_way, host_way, hosted_way}
use Rattle.caret_laws.proofs.OwnLines.{parents_stay, parents_cut, editable_same, names_run}
use Rattle.caret_laws.proofs.Partings.{break_keeps, part_keeps}
use Rattle.caret_laws.proofs.PutElements.{start_caret, text_words}
use Rattle.caret_laws.proofs.PutImages.{caret_begun, room_begun}
use Rattle.caret_laws.proofs.PutThings.{Nearby, nearby_caret, split_nearby, cut_words}
use Rattle.caret_laws.proofs.SameLines.{Alongside, empty_before, line_later, held_before, holder_named, line_above}
use Rattle.caret_laws.proofs.Solid.{solid_order}
use Rattle.caret_laws.proofs.SplitTexts.{Lands, lands, words_chars, start_placed, remains_along, cut, each_cut, split_is, split_stays}
use Rattle.caret_laws.proofs.StillRuns.{Stays}
use Rattle.caret_laws.proofs.Underways.{way_steady}

-- ---- a container

-- the name of a single-line container is neither img nor hr
single_plain : (name : List ℕ) → is_single_line_container name ≡ true → is_thing name ≡ false
unfolding is_single_line_container is_non_list_single_line_container non_list_container_names list_container_names
single_plain name single = elim (cases_Bool (is_thing name)) [
  | inr off ↦ off
  | inl on ↦ absurd (elim (or_cases (bytes_eq name (codes "img")) (bytes_eq name (codes "hr")) on) [
    | inl e ↦ neither (codes "img") ((bytes_eq-Decides name (codes "img")).0 e) refl
    | inr e ↦ neither (codes "hr") ((bytes_eq-Decides name (codes "hr")).0 e) refl
  ])
]
  where
    neither : (other : List ℕ) → name ≡ other → is_single_line_container other ≡ false → ⊥
    neither other e off = true≢false (sym (subst (λ n. is_single_line_container n ≡ true) e single) ∙ off)

pub own_plain : (u : State) (c : ℕ) → is_own_container u c ≡ true → is_thing_at u.trees c ≡ false
unfolding is_own_container is_single_line
own_plain u c own = by (content_of u.trees c) (and_parts (is_editable_for u c) (is_single_line u.trees c) own).1
  where
    by : (o : Option Content) → option_map_or (λ w. option_map_or is_single_line_container (name_in w) false) o false ≡ true → option_map_or is_thing (option_and_then name_in o) false ≡ false
    by None e = refl
    by (Some Document) e = refl
    by (Some (Element name attributes)) e = single_plain name e
    by (Some (Words chars)) e = refl
    by (Some (Remark chars)) e = refl

-- parting it keeps the order, where no image and no rule stands between it and the start of the active range
pub container_keeps : (t : State) (c : ℕ) → IsValid t → is_thing_at t.trees c ≡ false → ((p : Point) → active_start t ≡ Some p → is_parent_at t.trees p.label ≡ true × AmidNoThing t c p.label)
    → KeepsOrder t (final (part_container c) t)
unfolding part_container
container_keeps t c is plain at_start = ends_look (λ s. given (active_start s) done λ p. part_at (parting_point s p) c) t (λ s _. KeepsOrder t s) (by (active_start t) refl)
  where
    by : (o : Option Point) → active_start t ≡ o → Ends (given o done λ p. part_at (parting_point t p) c) t (λ s _. KeepsOrder t s)
    by None e = ends_answer tt t (λ s _. KeepsOrder t s) (keeps_refl (tree_of t.trees 0))
    by (Some p) e = let k = at_start p e in part_keeps t is c plain p (start_placed t p is e) k.0 k.1

-- a line with a container of its own is parted, or gets a br

pub line_keeps : (t : State) (x : Point) (c : ℕ) → IsValid t → StandsAt t x → is_parent_at t.trees x.label ≡ true → is_thing_at t.trees c ≡ false → is_empty_entry t c ≡ false → AmidNoThing t c x.label → KeepsOrder t (final (part_line x c) t)
unfolding part_line
line_keeps t x c is caret parent plain filled amid =
    ends_look (λ s. if holds_lines s c then break_line x c else (if is_empty_entry s c then leave_list c else part_container c)) t (λ s _. KeepsOrder t s) (by (holds_lines t c))
  where
    at_start : (p : Point) → active_start t ≡ Some p → is_parent_at t.trees p.label ≡ true × AmidNoThing t c p.label
    at_start p e =
        let same : x ≡ p = (let k : Some x ≡ Some p = sym (start_caret t x caret) ∙ e in cc) in
        subst (λ (y : Point). is_parent_at t.trees y.label ≡ true × AmidNoThing t c y.label) same (parent, amid)

    by : (v : Bool) → Ends (if v then break_line x c else (if is_empty_entry t c then leave_list c else part_container c)) t (λ s _. KeepsOrder t s)
    by true = break_keeps x c t is
    by false = subst (λ (w : Bool). KeepsOrder t (final (if w then leave_list c else part_container c) t)) (sym filled) (container_keeps t c is plain at_start)

own_final : (t : State) (c : ℕ) → is_own_container t c ≡ true → final (own_container c) t ≡ t
unfolding own_container
own_final t c own = final-look _ t ∙ (ap (λ (v : Bool). final (if v then answer (Some c) else make_line) t) own ∙ final-answer (Some c) t)

own_value : (t : State) (c : ℕ) → is_own_container t c ≡ true → value (own_container c) t ≡ Some c
unfolding own_container
own_value t c own = value-look _ t ∙ (ap (λ (v : Bool). value (if v then answer (Some c) else make_line) t) own ∙ value-answer (Some c) t)

pub own_line_keeps : (t : State) (x : Point) → IsValid t → StandsAt t x → is_parent_at t.trees x.label ≡ true → HasOwnLine t x.label → AmidNoThing t (container_of t x.label) x.label → KeepsOrder t (final (part_paragraph x) t)
unfolding part_paragraph
own_line_keeps t x is caret parent line amid =
    let c = container_of t x.label in
    let run : final (part_paragraph x) t ≡ final (part_line x c) t =
    final-look _ t
    ∙ (final-bind (own_container c) (part_line_if x) t
    ∙ (ap (λ o. final (part_line_if x o) (final (own_container c) t)) (own_value t c line.own) ∙ ap (λ u. final (part_line x c) u) (own_final t c line.own))) in
    subst (λ u. KeepsOrder t u) (sym run) (line_keeps t x c is caret parent (own_plain t c line.own) line.filled amid)

-- ---- the text at the caret is split and left

pub leave_trees : (p : Point) (v : State) → final (leave_text p) v ≡ final (collapse (left_text v.trees p)) v
unfolding leave_text
leave_trees p v = rw (final-look, final-bind, final-answer) refl

collapse_trees : (x : Point) (v : State) → (final (collapse x) v).trees ≡ v.trees
unfolding acted
collapse_trees x v = ap (λ (w : State). w.trees) (final-perform (action.Select x x) v) ∙ trees-selected x x v

pub split_value : (p : Point) (t : State) → value (split_text p) t ≡ left_text (final (cut p) t).trees p
unfolding split_text leave_text cut
split_value p t = rw (value-bind, value-look, value-bind, value-answer) refl

no_host : (c : Content) → is_true_state c ≡ true → has_chars c ≡ false
no_host Document h = refl
no_host (Element name attributes) h = refl
no_host (Words chars) h = absurd (true≢false (sym h))
no_host (Remark chars) h = absurd (true≢false (sym h))

-- a node of the document has a label that was drawn
pub known_low : (u : State) → IsValid u → (l : ℕ) → IsWithin u.trees 0 l → l < u.next
known_low u is l inside = is.forest.below l (omega (arith, inside, total-without (λ m _. cond (eqb m l) 1 0) u.trees 0))

module _ (s : State) (h : ℕ) (b : Began s h) where
  -- ---- a caret that is inside

  module _ (t : State) (way : Underway s h false t) (q : Point) (caret : StandsAt t q) (held : is_inside t q.label ≡ true) where
    is_t : IsValid t
    is_t = valid_way s h false b t way

    near : Nearby s h b t q
    near = nearby_caret s h b t q way caret held

    -- the state in which the text is split
    abbrev pub V : State
    V = final (cut q) t

    -- and where it has been left
    abbrev pub Left : State
    Left = final (split_text q) t

    abbrev pub X : Point
    X = left_text (final (cut q) t).trees q

    pub start_t : start_inside t ≡ Some q
    unfolding start_inside
    start_t = ap (if_point_inside t) (start_caret t q caret) ∙ ap (λ (v : Bool). if v then Some q else None) held

    inside_parts : (is_label t.host q.label || is_editable_for t q.label) ≡ true
    unfolding is_inside
    inside_parts = held

    text_editable : (chars : List ℕ) → content_of t.trees q.label ≡ Some (Words chars) → is_editable_for t q.label ≡ true
    text_editable chars text = elim (or_cases (is_label t.host q.label) (is_editable_for t q.label) inside_parts) [
      | inr editable ↦ editable
      | inl at ↦ absurd (
          let same : h ≡ q.label = (let e : Some h ≡ Some q.label = sym (host_way s h false b t way) ∙ label_is t.host q.label at in cc) in
          let host : is_host t.trees q.label ≡ true = subst (λ l. is_host t.trees l ≡ true) same (hosted_way s h false b t way) in
          let none : is_host t.trees q.label ≡ false = ap (λ (o : Option Content). option_map_or is_true_state o false) text in
          true≢false (sym host ∙ none))
    ]

    is_v : IsValid V
    is_v = final_valid (cut q) t is_t

    -- what splitting the text makes
    record Cut (v : State) : Type 0 where
      order : KeepsOrder t v
      nearby : Nearby s h b v q

    words_there : cuts_text t.trees q ≡ true → (chars : List ℕ) × (content_of t.trees q.label ≡ Some (Words chars))
    unfolding cuts_text is_words
    words_there e = text_words (content_of t.trees q.label) (and_parts (option_map_or is_words_content (content_of t.trees q.label) false) _ e).0

    cut_made : Cut V
    unfolding cut
    cut_made = ends_look (λ u. if cuts_text u.trees q then split_words q.label q.offset >> done else done) t (λ u _. Cut u) (by (cuts_text t.trees q) refl)
      where
        by : (v : Bool) → cuts_text t.trees q ≡ v → Ends (if v then split_words q.label q.offset >> done else done) t (λ u _. Cut u)
        by false e = ends_answer tt t (λ u _. Cut u) (record { order = keeps_refl (tree_of t.trees 0); nearby = near })
        by true e =
            let w = words_there e in
            let u = final (split_words q.label q.offset) t in
            ends_bind (split_words q.label q.offset) (λ _. done) t (λ u _. Cut u)
            (ends_answer tt u (λ u _. Cut u) (record {
              order = split_ordered q.label q.offset w.0 t is_t w.1 (λ _. text_editable w.0 w.1);
              nearby = (split_nearby s h b t q near (cut_words s h b t q near e)).0;
            }))

    lands_x : Lands s h b V cut_made.nearby.way q cut_made.nearby.inside cut_made.nearby.near cut_made.nearby.fits X
    lands_x = lands s h b V cut_made.nearby.way q cut_made.nearby.inside cut_made.nearby.near cut_made.nearby.fits

    left_is : Left ≡ final (collapse X) V
    left_is = split_is q t ∙ leave_trees q V

    pub trees_left : Left.trees ≡ V.trees
    trees_left = ap (λ (w : State). w.trees) left_is ∙ collapse_trees X V

    pub left_stays : Stays s h false b Left
    left_stays = split_stays s h b t way q start_t

    pub left_way : Underway s h false Left
    left_way = left_stays.way

    pub left_order : KeepsOrder t Left
    left_order = keeps_trans cut_made.order (same_trees V Left trees_left)

    pub left_caret : StandsAt Left X
    unfolding acted selected may_select changed
    left_caret =
        let select : final (collapse X) V ≡ with_selection (Some (record { anchor = X; focus = X })) V = final-perform (action.Select X X) V ∙ rw lands_x.placed refl in
        ap (λ (u : State). u.points.selection) (left_is ∙ select)

    pub left_parent : is_parent_at Left.trees X.label ≡ true
    left_parent = subst (λ f. is_parent_at f X.label ≡ true) (sym trees_left) lands_x.good.parent

    -- the caret stands at its node still, or at the parent of it, which is a text or comment
    abbrev pub Leads : Point → Type 0
    Leads x = (x.label ≡ q.label) ⊎ ((has_chars_at Left.trees q.label ≡ true) × (parent_of Left.trees q.label ≡ Some x.label))

    leads_up : (to : ℕ → Point) → ((p : ℕ) → (to p).label ≡ p) → has_chars_at V.trees q.label ≡ true → (o : Option ℕ) → parent_of V.trees q.label ≡ o → Leads (unwrap_or (option_map to o) q)
    leads_up to at_p chars None up = inl refl
    leads_up to at_p chars (Some p) up = inr (
      subst (λ f. has_chars_at f q.label ≡ true) (sym trees_left) chars,
      ap (λ f. parent_of f q.label) trees_left ∙ (up ∙ ap Some (sym (at_p p))),
    )

    leads_at : (w c : Bool) → (w ≡ true → has_chars_at V.trees q.label ≡ true) → has_chars_at V.trees q.label ≡ c
        → Leads (unwrap_or (if w then option_map (λ p. at p (index_of V.trees q.label + 1)) (parent_of V.trees q.label)
        else (if c then option_map (λ p. at p (index_of V.trees q.label)) (parent_of V.trees q.label) else None)) q)
    leads_at true c text is = leads_up (λ p. at p (index_of V.trees q.label + 1)) (λ p. refl) (text refl) (parent_of V.trees q.label) refl
    leads_at false true text is = leads_up (λ p. at p (index_of V.trees q.label)) (λ p. refl) is (parent_of V.trees q.label) refl
    leads_at false false text is = inl refl

    pub left_leads : Leads X
    unfolding left_text out_of_text is_words before_node after_node
    left_leads =
        let words = option_map_or is_words_content (content_of V.trees q.label) false in
        leads_at (words && eqb q.offset (length_of V.trees q.label)) (has_chars_at V.trees q.label)
        (λ e. words_chars (content_of V.trees q.label) (and_parts words (eqb q.offset (length_of V.trees q.label)) e).0) refl

    -- a node of the document stays in it, and keeps its parent
    pub left_inside : (l : ℕ) → IsWithin t.trees 0 l → IsWithin Left.trees 0 l
    unfolding final
    left_inside l inside = subst (λ f. IsWithin f 0 l) (sym trees_left) (remains_along ((cut q).by_actions t) l is_t ((each_cut q).on t is_t) inside)

    pub left_parents : (l : ℕ) → IsWithin t.trees 0 l → parent_of Left.trees l ≡ parent_of t.trees l
    left_parents l inside = ap (λ f. parent_of f l) trees_left ∙ parents_cut q t is_t is_v l inside

    -- ---- from there on

    pub paragraph_is : final insert_paragraph_inside t ≡ final (part_paragraph X) Left
    unfolding insert_paragraph_inside
    paragraph_is =
        final-look _ t
        ∙ (ap (λ o. final (given o done λ p. split_text p >>= part_paragraph) t) start_t
        ∙ (final-bind (split_text q) part_paragraph t ∙ ap (λ x. final (part_paragraph x) Left) (split_value q t)))

  -- ---- as a whole

  module _ (a : State) (way_start : Underway s h false a) (p : Point) (room : HasRoom a) (caret : StandsAt a p) where
    abbrev pub Erased : State
    Erased = final (erase DEFAULT) a

    is_start : IsValid a
    is_start = valid_way s h false b a way_start

    pub settled : Settled a Erased
    settled = erased DEFAULT p a is_start room caret

    pub way_erased : Underway s h false Erased
    way_erased = way_steady s h b (erase DEFAULT) a (steady_erase DEFAULT) way_start

    pub place : Caret a Erased p
    place = caret_then a Erased p settled.blanked caret

    p_inside : IsWithin a.trees 0 p.label
    p_inside = caret_inside a p is_start caret

    whole_is : final insert_paragraph a ≡ final insert_paragraph_inside Erased
    unfolding insert_paragraph
    whole_is =
        final-bind (erase DEFAULT) (λ _. insert_paragraph_inside >>= (λ _. answer true)) a
        ∙ (final-bind insert_paragraph_inside (λ _. answer true) Erased ∙ final-answer true (final insert_paragraph_inside Erased))

    outside_is : is_inside Erased place.place.label ≡ false → final insert_paragraph_inside Erased ≡ Erased
    unfolding insert_paragraph_inside start_inside
    outside_is out =
        final-look _ Erased
        ∙ (ap (λ o. final (given (if_point_inside Erased o) done λ x. split_text x >>= part_paragraph) Erased) (start_caret Erased place.place place.caret)
        ∙ (ap (λ (v : Bool). final (given (if v then Some place.place else None) done λ x. split_text x >>= part_paragraph) Erased) out ∙ final-answer tt Erased))

    -- what keeps the order from the erasing on does so as a whole
    pub whole_order : (is_inside Erased place.place.label ≡ true → KeepsOrder Erased (final insert_paragraph_inside Erased)) → KeepsOrderUpToBlanks a (final insert_paragraph a)
    whole_order keeps =
        subst (λ u. KeepsOrderUpToBlanks a u) (sym whole_is) (solid_order Erased (final insert_paragraph_inside Erased) from_erased ∙ settled.blanked.order)
      where
        from_erased : KeepsOrder Erased (final insert_paragraph_inside Erased)
        from_erased = elim (cases_Bool (is_inside Erased place.place.label)) [
          | inl held ↦ keeps held
          | inr out ↦ subst (λ u. KeepsOrder Erased u) (sym (outside_is out)) (keeps_refl (tree_of Erased.trees 0))
        ]

    module _ (held : is_inside (final (erase DEFAULT) a) place.place.label ≡ true) where
      abbrev pub Q : Point
      Q = place.place

      abbrev pub Parted : State
      Parted = Left Erased way_erased Q place.caret held

      abbrev pub At : Point
      At = X Erased way_erased Q place.caret held

      way_parted : Underway s h false Parted
      way_parted = left_way Erased way_erased Q place.caret held

      pub is_parted : IsValid Parted
      is_parted = valid_way s h false b Parted way_parted

      inside_erased : (l : ℕ) → IsWithin a.trees 0 l → IsWithin Erased.trees 0 l
      inside_erased l d = settled.blanked.inside l d

      pub alongside : Alongside a Parted
      alongside = record {
        inside = λ l d. left_inside Erased way_erased Q place.caret held l (inside_erased l d);
        parents = λ l d. (
            left_parents Erased way_erased Q place.caret held l (inside_erased l d)
            ∙ parents_stay a Erased is_start (valid_way s h false b Erased way_erased) settled.blanked.children l);
        names = λ l d. (
            names_run (split_text Q) Erased (valid_way s h false b Erased way_erased) l (known_low Erased (valid_way s h false b Erased way_erased) l (inside_erased l d))
            ∙ names_run (erase DEFAULT) a is_start l (known_low a is_start l d));
        editable = λ l d. editable_same s h b a Parted way_start way_parted l d (left_inside Erased way_erased Q place.caret held l (inside_erased l d));
      }

      q_inside : IsWithin Parted.trees 0 Q.label
      q_inside = subst (λ l. IsWithin Parted.trees 0 l) (sym place.label) (alongside.inside p.label p_inside)

      at_p : (l : ℕ) → IsWithin Parted.trees l At.label → IsWithin Parted.trees l p.label
      at_p l holds = subst (λ k. IsWithin Parted.trees l k) place.label (holds_q (left_leads Erased way_erased Q place.caret held))
        where
          holds_q : Leads Erased way_erased Q place.caret held At → IsWithin Parted.trees l Q.label
          holds_q (inl same) = subst (λ k. IsWithin Parted.trees l k) same holds
          holds_q (inr (chars, up)) = within_child Parted.trees l is_parted.forest.distinct (top_known Parted.trees l At.label holds) Q.label At.label up holds

      -- what holds the caret held it before, and none of it is an empty entry of a list
      pub still_filled : StandsInNoEmptyEntry a p.label → StandsInNoEmptyEntry Parted At.label
      still_filled none l holds =
          let holds_p = at_p l holds in
          let before = held_before a Parted is_start is_parted alongside l p.label p_inside holds_p in
          let inside = holder_inside a.trees a.next l p.label is_start.forest before p_inside in
          elim (cases_Bool (is_empty_entry Parted l)) [
            | inr off ↦ off
            | inl on ↦ absurd (true≢false (sym (empty_before a Parted is_start is_parted alongside l inside on) ∙ none l before))
          ]

      -- what holds the caret held it before, and none of it is an image or a rule
      pub still_nothing : StandsInNoThing a p.label → StandsInNoThing Parted At.label
      still_nothing none l holds =
          let holds_p = at_p l holds in
          ap (λ (o : Option (List ℕ)). option_map_or is_thing o false) (holder_named a Parted is_start is_parted alongside l p.label p_inside holds_p)
          ∙ none l (held_before a Parted is_start is_parted alongside l p.label p_inside holds_p)

      line_parted : HasOwnLine a p.label → HasOwnLine Parted At.label
      line_parted line = by (left_leads Erased way_erased Q place.caret held)
        where
          at_q : HasOwnLine Parted Q.label
          at_q = subst (λ l. HasOwnLine Parted l) (sym place.label) (line_later a Parted is_start is_parted alongside p.label p_inside line)

          by : Leads Erased way_erased Q place.caret held At → HasOwnLine Parted At.label
          by (inl same) = subst (λ l. HasOwnLine Parted l) (sym same) at_q
          by (inr (chars, up)) = line_above Parted is_parted Q.label At.label q_inside chars up at_q

      pub own_inside : StandsInNoThing a p.label → HasOwnLine a p.label → KeepsOrder Erased (final insert_paragraph_inside Erased)
      own_inside none line =
          subst (λ u. KeepsOrder Erased u) (sym (paragraph_is Erased way_erased Q place.caret held))
          (keeps_trans (left_order Erased way_erased Q place.caret held)
          (own_line_keeps Parted At is_parted (left_caret Erased way_erased Q place.caret held) (left_parent Erased way_erased Q place.caret held) (line_parted line)
          (λ l _ _ holds. still_nothing none l holds)))

    pub line_order : StandsInNoThing a p.label → HasOwnLine a p.label → KeepsOrderUpToBlanks a (final insert_paragraph a)
    line_order none line = whole_order (λ held. own_inside held none line)

  -- ---- from the beginning of a command

  pub begun_way : Underway s h false (begun (Some h) false s)
  begun_way = record { way = here; leaves = tt }

  -- the order up to blanks, of the state before it began
  pub order_begun : (t : State) → KeepsOrderUpToBlanks (begun (Some h) false s) t → KeepsOrderUpToBlanks s t
  unfolding begun
  order_begun t order = order

  pub thing_begun : (x : ℕ) → StandsInNoThing s x → StandsInNoThing (begun (Some h) false s) x
  unfolding begun
  thing_begun x none = none

  pub entry_begun : (x : ℕ) → StandsInNoEmptyEntry s x → StandsInNoEmptyEntry (begun (Some h) false s) x
  unfolding begun is_empty_entry is_entry has_sole_break is_description
  entry_begun x none = none

  pub own_keeps : (p : Point) → HasRoom s → StandsAt s p → StandsInNoThing s p.label → HasOwnLine (begun (Some h) false s) p.label → KeepsOrderUpToBlanks s (final insert_paragraph (begun (Some h) false s))
  own_keeps p room caret none line =
      let a = begun (Some h) false s in
      order_begun (final insert_paragraph a) (line_order a begun_way p (room_begun s h b room) (caret_begun s h b p caret) (thing_begun p.label none) line)
