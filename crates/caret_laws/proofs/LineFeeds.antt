-- Inserting a line feed at a caret is inserting a paragraph there, once what is selected is erased.
use Rattle.std.proofs.Common.{◌≡◌, ℕ, true, false, if◌then◌else◌, List, [], ◌∷◌, Option, Some, None, refl, sym, ap, subst, ◌∙◌, inl, inr}
use Rattle.std.specs.Option.{option_map_or}
use Rattle.std.proofs.lemmas.Bool.{cases_Bool}
use Rattle.edit_model.specs.DomModel.Forest.{IsWithin}
use Rattle.edit_model.specs.LiveRange.declared.places.Point.{Point}
use Rattle.edit_model.specs.State.{State}
use Rattle.edit_model.specs.Confined.{is_inside}
use Rattle.edit_model.specs.History.{begun}
use Rattle.edit_model.specs.Kept.{is_thing}
use Rattle.edit_model.specs.Run.{◌>>=◌, ◌>>◌, final, answer, done, given}
use Rattle.edit_model.specs.Valid.{IsValid}
use Rattle.edit_model.proofs.Steps.{final-bind, final-answer, final-look}
use Rattle.command_laws.proofs.DeleteRuns.{steady_erase}
use Rattle.delete_core.specs.declared.deletion.TheConstants.Manner.{DEFAULT, KEEP_WRAPPERS}
use Rattle.text_insertion.specs.Paragraph.{insert_paragraph_inside, insert_paragraph}
use Rattle.text_insertion.specs.Start.{if_point_inside, start_inside, erase}
use Rattle.text_insertion.specs.Typing.{insert_char_at, insert_char_inside, insert_chars, insert_text}
use Rattle.caret_laws.specs.ParagraphOrder.{StandsInNoThing}
use Rattle.caret_laws.specs.SolidOrder.{KeepsOrderUpToBlanks, StandsAt, HasRoom}
use Rattle.caret_laws.proofs.Blanks.{Caret, caret_then}
use Rattle.caret_laws.proofs.Canonical.{Settled}
use Rattle.caret_laws.proofs.CaretErasing.{caret_inside, erased}
use Rattle.caret_laws.proofs.InsideRuns.{Began, Underway, valid_way}
use Rattle.caret_laws.proofs.KeptParagraphs.{line_parted}
use Rattle.caret_laws.proofs.OwnLines.{parents_stay, editable_same, names_run}
use Rattle.caret_laws.proofs.PartedLines.{known_low, begun_way, order_begun, thing_begun}
use Rattle.caret_laws.proofs.PutElements.{start_caret}
use Rattle.caret_laws.proofs.PutImages.{caret_begun, room_begun}
use Rattle.caret_laws.proofs.SameLines.{Alongside, held_before, holder_named}
use Rattle.caret_laws.proofs.SparingRuns.{Spared, spared_look, spared_front, spared_back}
use Rattle.caret_laws.proofs.TypedChars.{start_is}
use Rattle.caret_laws.proofs.Underways.{way_steady}

-- what a paragraph removes once its own erasing is done
spared_paragraph : (t : State) → Spared insert_paragraph t → Spared insert_paragraph_inside (final (erase DEFAULT) t)
unfolding insert_paragraph
spared_paragraph t spares = spared_front insert_paragraph_inside (λ _. answer true) (final (erase DEFAULT) t) (spared_back (erase DEFAULT) (λ _. insert_paragraph_inside >>= (λ _. answer true)) t spares)

module _ (s : State) (h : ℕ) (b : Began s h) where
  module _ (a : State) (way_a : Underway s h false a) (p : Point) (room : HasRoom a) (caret : StandsAt a p) (none : StandsInNoThing a p.label) where
    abbrev t : State
    t = final (erase KEEP_WRAPPERS) a

    is_a : IsValid a
    is_a = valid_way s h false b a way_a

    settled : Settled a t
    settled = erased KEEP_WRAPPERS p a is_a room caret

    way_t : Underway s h false t
    way_t = way_steady s h b (erase KEEP_WRAPPERS) a (steady_erase KEEP_WRAPPERS) way_a

    is_t : IsValid t
    is_t = valid_way s h false b t way_t

    place : Caret a t p
    place = caret_then a t p settled.blanked caret

    alongside : Alongside a t
    alongside = record {
      inside = settled.blanked.inside;
      parents = λ l d. parents_stay a t is_a is_t settled.blanked.children l;
      names = λ l d. names_run (erase KEEP_WRAPPERS) a is_a l (known_low a is_a l d);
      editable = λ l d. editable_same s h b a t way_a way_t l d (settled.blanked.inside l d);
    }

    -- the caret that is left stands in no image and no rule either
    still_nothing : StandsInNoThing t place.place.label
    still_nothing l holds =
        let p_inside = caret_inside a p is_a caret in
        let holds_p : IsWithin t.trees l p.label = subst (λ k. IsWithin t.trees l k) place.label holds in
        ap (λ (o : Option (List ℕ)). option_map_or is_thing o false) (holder_named a t is_a is_t alongside l p.label p_inside holds_p)
        ∙ none l (held_before a t is_a is_t alongside l p.label p_inside holds_p)

    outside : is_inside t place.place.label ≡ false → start_inside t ≡ None
    unfolding start_inside
    outside out = ap (if_point_inside t) (start_caret t place.place place.caret) ∙ ap (λ v. if v then Some place.place else None) out

    -- the line feed, from there on
    inside_kept : Spared (insert_char_inside 10) t → KeepsOrderUpToBlanks t (final (insert_char_inside 10) t)
    unfolding insert_char_inside insert_char_at
    inside_kept spares = elim (cases_Bool (is_inside t place.place.label)) [
      | inl held ↦ (
          let start = start_is s h b t place.place place.caret held in
          let run : final (insert_char_inside 10) t ≡ final insert_paragraph t =
          final-look _ t ∙ (ap (λ o. final (given o done (insert_char_at 10)) t) start
          ∙ (final-bind insert_paragraph (λ _. done) t ∙ final-answer tt (final insert_paragraph t))) in
          let looked : Spared (given (start_inside t) done (insert_char_at 10)) t = spared_look _ t spares in
          let parted : Spared (insert_paragraph >> done) t = subst (λ o. Spared (given o done (insert_char_at 10)) t) start looked in
          subst (λ u. KeepsOrderUpToBlanks t u) (sym run)
          (line_parted s h b t way_t place.place settled.room place.caret still_nothing (spared_paragraph t (spared_front insert_paragraph (λ _. done) t parted))))
      | inr out ↦ (
          let start : start_inside t ≡ None = outside out in
          let run : final (insert_char_inside 10) t ≡ t =
          final-look _ t ∙ (ap (λ o. final (given o done (insert_char_at 10)) t) start ∙ final-answer tt t) in
          subst (λ u. KeepsOrderUpToBlanks t u) (sym run) refl)
    ]

    whole_kept : Spared (insert_char_inside 10) t → KeepsOrderUpToBlanks a (final (insert_text (10 ∷ [])) a)
    unfolding insert_text insert_chars
    whole_kept spares =
        let run : final (insert_text (10 ∷ [])) a ≡ final (insert_char_inside 10) t = rw (final-bind, final-bind, final-answer) refl in
        subst (λ u. KeepsOrderUpToBlanks a u) (sym run) (inside_kept spares ∙ settled.blanked.order)

  pub line_feed_kept : (p : Point) → HasRoom s → StandsAt s p → StandsInNoThing s p.label → Spared (insert_char_inside 10) (final (erase KEEP_WRAPPERS) (begun (Some h) false s))
      → KeepsOrderUpToBlanks s (final (insert_text (10 ∷ [])) (begun (Some h) false s))
  line_feed_kept p room caret none spares =
      let a = begun (Some h) false s in
      order_begun s h b (final (insert_text (10 ∷ [])) a)
      (whole_kept a (begun_way s h b) p (room_begun s h b room) (caret_begun s h b p caret) (thing_begun s h b p.label none) spares)
