-- Inserting a paragraph at a caret keeps the order of what the document bears, where the host hides nothing.
use Rattle.std.proofs.Common.{◌≡◌, ℕ, ◌+◌, ◌-◌, ◌<◌, Bool, true, false, ◌||◌, if◌then◌else◌, cond, eqb, [], length, drop, Option, Some, None, refl, sym, subst, ◌∙◌, arith}
use Rattle.edit_model.specs.DomModel.Contents.{is_parent_at, is_break}
use Rattle.edit_model.specs.DomModel.Forest.{times, tree_of, parent_of, children_of, next_of, content_of}
use Rattle.edit_model.specs.DomModel.Places.{index_of}
use Rattle.edit_model.proofs.DomModel.Links.{parent_count}
use Rattle.edit_model.proofs.DomModel.Totals.{total-without}
use Rattle.edit_model.specs.LiveRange.declared.places.Point.{Point}
use Rattle.inline_value.specs.NodeStyles.Blocks.{is_block, is_hidden}
use Rattle.inline_value.specs.NodeStyles.Resolved.{display}
use Rattle.inline_value.specs.NodeTests.Visible.{is_boxless}
use Rattle.edit_model.specs.State.{State}
use Rattle.edit_model.specs.Action as action
use Rattle.edit_model.specs.Compositions.{characters_of, points_sent, split_under, split_words}
use Rattle.edit_model.specs.Confined.{is_inside}
use Rattle.edit_model.specs.Edit.{Insert, Replace}
use Rattle.edit_model.specs.History.{begun}
use Rattle.edit_model.specs.Run.{Run, ◌>>=◌, ◌>>◌, final, value, answer, done, given, send, grow}
use Rattle.edit_model.specs.Valid.{IsValid}
use Rattle.edit_model.proofs.Steps.{final-bind, final-look, final-answer}
use Rattle.edit_laws.specs.Order.{KeepsOrder}
use Rattle.edit_laws.proofs.Nearness.{holds_near}
use Rattle.edit_laws.proofs.Subsequences.{keeps_refl, keeps_trans}
use Rattle.text_insertion.specs.Containers.{container_of, own_container, wrap_line, contents_from}
use Rattle.text_insertion.specs.Entries.{is_empty_entry, leave_list}
use Rattle.text_insertion.specs.Halves.{part_container}
use Rattle.text_insertion.specs.Paragraph.{holds_lines, break_line, part_line, part_line_if, part_paragraph, insert_paragraph_inside, insert_paragraph}
use Rattle.text_insertion.specs.Start.{active_start, cuts_text}
use Rattle.caret_laws.specs.ParagraphOrder.{StandsInNoThing, StandsIn, StandsInNoEmptyEntry, HidesNothing}
use Rattle.caret_laws.specs.SolidOrder.{KeepsOrderUpToBlanks, StandsAt, HasRoom}
use Rattle.caret_laws.specs.Sparing.{SparesOn}
use Rattle.caret_laws.specs.TailLaws.{is_thing_at, AmidNoThing}
use Rattle.caret_laws.proofs.Blanks.{Blanked}
use Rattle.caret_laws.proofs.CaretErasing.{caret_inside}
use Rattle.caret_laws.proofs.Canonical.{Ends, ends_answer, ends_look, ends_bind}
use Rattle.caret_laws.proofs.InsideRuns.{Began, Underway, valid_way}
use Rattle.caret_laws.proofs.KeptParagraphs.{lined_by, unlisted, clear_caret, is_t, parent_start}
use Rattle.caret_laws.proofs.NearTrees.{Inner, Onway}
use Rattle.caret_laws.proofs.ParagraphRuns.{contained}
use Rattle.caret_laws.proofs.PartedLines.{container_keeps, V, Left, X, trees_left, left_stays, left_order, left_caret, paragraph_is, order_begun, thing_begun, entry_begun, begun_way, Erased, way_erased, settled, place, still_filled, still_nothing, whole_order}
use Rattle.caret_laws.proofs.Partings.{break_keeps}
use Rattle.caret_laws.proofs.PutImages.{caret_begun, room_begun}
use Rattle.caret_laws.proofs.SameLines.{child_listed, container_holds}
use Rattle.caret_laws.proofs.SparedWraps.{spared_look, spared_wrap}
use Rattle.caret_laws.proofs.SplitTexts.{cut}
use Rattle.caret_laws.proofs.StillRuns.{Stays}
use Rattle.caret_laws.proofs.TidyRuns.{hold_named, same_bodies, Tidy, tidy_same, Packs, packed_final, packs_answer, packs_bind, packs_if, packs_edit, packs_words, packs_perform}

-- ---- nothing is hidden

tidy_start : (s : State) (h : ℕ) (b : Began s h) → HidesNothing s h → Tidy (Inner s h b) s.trees
unfolding is_boxless display is_block
tidy_start s h b k = record {
  appear = λ l near. record { box = k.boxes l (inside l near); rule = λ e. k.rules l (inside l near) e };
  holders = λ j l child near. neither (is_thing_at s.trees l) (is_break s.trees l) (λ t. listed j l child (k.things l (inside l near) t)) (λ t. listed j l child (k.breaks l (inside l near) t));
}
  where
    inside : (l : ℕ) → Inner s h b l → StandsIn s h l
    inside l near = let i = b.inside in holds_near s.trees s.next b.valid.forest h l (omega (arith, i, total-without (λ m _. cond (eqb m h) 1 0) s.trees 0)) near

    listed : (j l : ℕ) → parent_of s.trees j ≡ Some l → children_of s.trees l ≡ [] → ⊥
    listed j l child none = let some = subst (λ xs. 0 < times xs j) none (child_listed s j l b.valid child) in omega (arith, some)

    neither : (a b : Bool) → (a ≡ true → ⊥) → (b ≡ true → ⊥) → (a || b) ≡ false
    neither true b p q = absurd (p refl)
    neither false true p q = absurd (q refl)
    neither false false p q = refl

tidy_blanked : (D : ℕ → Type 0) (s t : State) → Blanked s t → Tidy D s.trees → Tidy D t.trees
tidy_blanked D s t b k = record {
  appear = λ l d. same_bodies (content_of s.trees l) (content_of t.trees l) (b.bodies l) (k.appear l d);
  holders = λ j l e d. hold_named s.trees t.trees l (b.names l) (k.holders j l (sym (b.parents j) ∙ e) d);
}

packs_sent : (D : ℕ → Type 0) (p i n at tail : ℕ) (inserted : Bool) → Packs D p (points_sent p i n at tail inserted)
unfolding points_sent
packs_sent D p i n at tail inserted =
    packs_if D p inserted (send n at tail >> grow (record { label = p; offset = i + 1 })) done
    (packs_bind D p (send n at tail) (λ _. grow (record { label = p; offset = i + 1 })) (packs_perform D p (action.Send n at tail) tt) (λ _. packs_perform D p (action.Grow (record { label = p; offset = i + 1 })) tt))
    (packs_answer D p tt)

packs_under : (D : ℕ → Type 0) (p : ℕ) (s : State) (n at : ℕ) → Packs D p (split_under p s n at)
unfolding split_under
packs_under D p s n at =
    packs_bind D p _ _ (packs_words D p (drop at (characters_of s.trees n))) (λ tail.
    packs_bind D p _ _ (packs_edit D p (Insert p (next_of s.trees n) tail) refl) (λ inserted.
    packs_bind D p _ _ (packs_sent D p (index_of s.trees n) n at tail inserted) (λ _.
    packs_bind D p _ _ (packs_edit D p (Replace n at (length (characters_of s.trees n) - at) []) tt) (λ _.
    packs_answer D p tail))))

tidy_cut : (D : ℕ → Type 0) (q : Point) (t : State) → IsValid t → Tidy D t.trees → Tidy D (final (cut q) t).trees
unfolding cut split_words
tidy_cut D q t is k = ends_look (λ s. if cuts_text s.trees q then split_words q.label q.offset >> done else done) t (λ s _. Tidy D s.trees) (by (cuts_text t.trees q))
  where
    under : (o : Option ℕ) → parent_of t.trees q.label ≡ o → Ends (given o (answer q.label) λ p. split_under p t q.label q.offset) t (λ s _. Tidy D s.trees)
    under None e = ends_answer q.label t (λ s _. Tidy D s.trees) k
    under (Some p) e =
        let low = is.forest.below p (parent_count t.trees q.label p is.forest.distinct e).1 in
        (packed_final D p (split_under p t q.label q.offset) t (packs_under D p t q.label q.offset) is (record { tidy = k; holds = k.holders q.label p e; low = low })).tidy

    split : Ends (split_words q.label q.offset) t (λ s _. Tidy D s.trees)
    split = ends_look (λ s. given (parent_of s.trees q.label) (answer q.label) λ p. split_under p s q.label q.offset) t (λ s _. Tidy D s.trees) (under (parent_of t.trees q.label) refl)

    by : (v : Bool) → Ends (if v then split_words q.label q.offset >> done else done) t (λ s _. Tidy D s.trees)
    by false = ends_answer tt t (λ s _. Tidy D s.trees) k
    by true =
        ends_bind (split_words q.label q.offset) (λ _. done) t (λ s _. Tidy D s.trees)
        (ends_answer tt (final (split_words q.label q.offset) t) (λ s _. Tidy D s.trees) split)

-- ---- the line

-- a container that is no empty entry is parted, or gets a br
line_keeps : (x : Point) (c : ℕ) (u : State) → IsValid u → is_thing_at u.trees c ≡ false → is_empty_entry u c ≡ false → ((p : Point) → active_start u ≡ Some p → is_parent_at u.trees p.label ≡ true × AmidNoThing u c p.label)
    → KeepsOrder u (final (part_line x c) u)
unfolding part_line
line_keeps x c u is plain filled at_start =
    ends_look (λ s. if holds_lines s c then break_line x c else (if is_empty_entry s c then leave_list c else part_container c)) u (λ s _. KeepsOrder u s) (by (holds_lines u c))
  where
    by : (v : Bool) → Ends (if v then break_line x c else (if is_empty_entry u c then leave_list c else part_container c)) u (λ s _. KeepsOrder u s)
    by true = break_keeps x c u is
    by false = subst (λ (w : Bool). KeepsOrder u (final (if w then leave_list c else part_container c) u)) (sym filled) (container_keeps u c is plain at_start)

module _ (s : State) (h : ℕ) (b : Began s h) where
  module _ (t : State) (stays : Stays s h false b t) (y : Point) (caret : StandsAt t y) (none : StandsInNoThing t y.label) (way : Onway s h b t) (shown : is_hidden s.trees h ≡ false) (tidy : Tidy (Inner s h b) t.trees) (filled : is_empty_entry t (container_of t y.label) ≡ false) where
    is : IsValid t
    is = is_t s h b t stays y caret none

    spared : (k : ℕ) → SparesOn ((wrap_line k).by_actions t)
    unfolding wrap_line
    spared k = spared_look _ t (spared_wrap s h b shown t way is t.flags.paragraphs (clear_caret t y t.next caret none) tidy (contents_from t k))

    from_container : (c : ℕ) → is_empty_entry t c ≡ false → KeepsOrder t (final (own_container c >>= part_line_if y) t)
    from_container c filled =
        let m = own_container c in
        let k = lined_by t is y caret none c spared in
        let listed = unlisted t is y caret none c filled in
        subst (λ u. KeepsOrder t u) (sym (final-bind m (part_line_if y) t)) (keeps_trans k.order (by (value m t) refl k.plain k.amid listed))
      where
        by : (o : Option ℕ) → value (own_container c) t ≡ o → ((x : ℕ) → o ≡ Some x → is_thing_at (final (own_container c) t).trees x ≡ false)
            → ((x : ℕ) → o ≡ Some x → (p : Point) → active_start (final (own_container c) t) ≡ Some p → AmidNoThing (final (own_container c) t) x p.label)
            → ((x : ℕ) → o ≡ Some x → is_empty_entry (final (own_container c) t) x ≡ false)
            → KeepsOrder (final (own_container c) t) (final (part_line_if y o) (final (own_container c) t))
        by None e plain amid listed = subst (λ u. KeepsOrder (final (own_container c) t) u) (sym (final-answer tt (final (own_container c) t))) (keeps_refl (tree_of (final (own_container c) t).trees 0))
        by (Some x) e plain amid listed =
            let u = final (own_container c) t in
            let held = contained s h b t stays c x e in
            line_keeps y x u (valid_way s h false b u held.stays.way) (plain x refl) (listed x refl) (λ p start. (parent_start s h b t stays y caret none u held.stays p start, amid x refl p start))

    paragraph_keeps : KeepsOrder t (final (part_paragraph y) t)
    unfolding part_paragraph
    paragraph_keeps =
        let k : State → Run (Unit {0}) = λ u. own_container (container_of u y.label) >>= part_line_if y in
        subst (λ u. KeepsOrder t u) (sym (final-look k t)) (from_container (container_of t y.label) filled)

  -- ---- the whole

  module _ (p : Point) (room : HasRoom s) (caret : StandsAt s p) (none : StandsInNoThing s p.label) (filled : StandsInNoEmptyEntry s p.label) (shown : HidesNothing s h) where
    abbrev A : State
    A = begun (Some h) false s

    way_a : Underway s h false A
    way_a = begun_way s h b

    room_a : HasRoom A
    room_a = room_begun s h b room

    caret_a : StandsAt A p
    caret_a = caret_begun s h b p caret

    tidy_begun : Tidy (Inner s h b) (begun (Some h) false s).trees
    unfolding begun
    tidy_begun = tidy_start s h b shown

    tidy_erased : Tidy (Inner s h b) (Erased s h b A way_a p room_a caret_a).trees
    tidy_erased = tidy_blanked (Inner s h b) A (Erased s h b A way_a p room_a caret_a) (settled s h b A way_a p room_a caret_a).blanked tidy_begun

    shown_inside : (held : is_inside (Erased s h b A way_a p room_a caret_a) (place s h b A way_a p room_a caret_a).place.label ≡ true) → KeepsOrder (Erased s h b A way_a p room_a caret_a) (final insert_paragraph_inside (Erased s h b A way_a p room_a caret_a))
    shown_inside held =
        let t = Erased s h b A way_a p room_a caret_a in
        let way = way_erased s h b A way_a p room_a caret_a in
        let q = (place s h b A way_a p room_a caret_a).place in
        let at_q = (place s h b A way_a p room_a caret_a).caret in
        let u = Left s h b t way q at_q held in
        let x = X s h b t way q at_q held in
        let stays = left_stays s h b t way q at_q held in
        let caret_u = left_caret s h b t way q at_q held in
        let none_u = still_nothing s h b A way_a p room_a caret_a held (thing_begun s h b p.label none) in
        let is_u = is_t s h b u stays x caret_u none_u in
        let tidy_u : Tidy (Inner s h b) u.trees = tidy_same (Inner s h b) (V s h b t way q at_q held).trees u.trees (trees_left s h b t way q at_q held) (tidy_cut (Inner s h b) q t (valid_way s h false b t way) tidy_erased) in
        let holds = container_holds u x.label is_u (caret_inside u x is_u caret_u) in
        subst (λ w. KeepsOrder t w) (sym (paragraph_is s h b t way q at_q held))
        (keeps_trans (left_order s h b t way q at_q held)
        (paragraph_keeps u stays x caret_u none_u (record { way = stays.way.way }) shown.shown tidy_u (still_filled s h b A way_a p room_a caret_a held (entry_begun s h b p.label filled) (container_of u x.label) holds)))

    pub shown_lines : KeepsOrderUpToBlanks s (final insert_paragraph (begun (Some h) false s))
    shown_lines = order_begun s h b (final insert_paragraph A) (whole_order s h b A way_a p room_a caret_a (λ held. shown_inside held))
