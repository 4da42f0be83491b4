-- Inserting one character at a caret, with the overrides that are set: restoring them keeps the order with the character in it.
use Rattle.std.proofs.Common.{◌≡◌, ◌≢◌, ℕ, true, false, if◌then◌else◌, List, [], ◌∷◌, ◌++◌, ◌+◌, ◌&&◌, is_none, Some, append_assoc, refl, sym, subst, ◌∙◌, arith}
use Rattle.std.proofs.lemmas.Bool.{ne_eqb}
use Rattle.edit_model.specs.DomModel.Forest.{next_of}
use Rattle.edit_model.specs.LiveRange.declared.places.Point.{Point}
use Rattle.inline_value.specs.NodeTests.CollapsedWhitespace.{is_words}
use Rattle.inline_value.specs.NodeTests.SolidNeighbours.{is_collapsed_break}
use Rattle.edit_model.specs.State.{State}
use Rattle.edit_model.specs.Confined.{is_inside}
use Rattle.edit_model.specs.History.{begun}
use Rattle.edit_model.specs.Edit.{is_made_edit}
use Rattle.edit_model.specs.Run.{Run, ◌>>=◌, look, act, edit, remove, replace, select, make_words, ◌>>◌, final, done, given, collapse}
use Rattle.edit_model.proofs.Steps.{final-bind, final-answer}
use Rattle.edit_model.proofs.ValidRuns.{final_valid}
use Rattle.inline_value.specs.declared.overrides.Override.{Override}
use Rattle.inline_value.specs.Overrides.{overrides_of}
use Rattle.inline_commands.specs.RestoringStates.{restore_states}
use Rattle.delete_core.specs.declared.deletion.TheConstants.Manner.{KEEP_WRAPPERS}
use Rattle.delete_core.specs.Places.{at, start_in, end_in}
use Rattle.delete_core.specs.Whitespace.{canonicalize}
use Rattle.text_insertion.specs.Paragraph.{insert_paragraph}
use Rattle.text_insertion.specs.Start.{active_start, insert_at_start, erase}
use Rattle.text_insertion.specs.Typing.{drop_sole_break, put_at, into_text, put_char, close_text, type_char, insert_char_at, insert_char_inside, insert_chars, insert_text}
use Rattle.caret_laws.specs.SolidOrder.{StandsAt, HasRoomFor}
use Rattle.caret_laws.specs.TypingLaws.{IsNoComment}
use Rattle.caret_laws.proofs.Canonical.{ends_look, ends_bind}
use Rattle.caret_laws.proofs.Fronts.{front_whole}
use Rattle.caret_laws.proofs.GainedTexts.{restored, restored_room, closed_calm}
use Rattle.caret_laws.proofs.InsideRuns.{Began, valid_way}
use Rattle.caret_laws.proofs.PutElements.{start_caret}
use Rattle.caret_laws.proofs.Solid.{solid_order, solid_chars}
use Rattle.caret_laws.proofs.SparingRuns.{Spared, spared_look, spared_front, spared_back}
use Rattle.caret_laws.proofs.Typed.{Put, SoleIsBare, char_put}
use Rattle.caret_laws.proofs.TypedChars.{Ready, Reach, reaches, t1, t2, way2, y, held2, comment2, room2, order2, start_is, inside_run, erased_ready, Gains, gains_after, gains_u, begun_ready}

-- ---- what a character drops

put_looked : (c : ℕ) (v : State) → Spared (put_char c) v → Spared (given (active_start v) done (put_at c)) v
unfolding put_char
put_looked c v spares = spared_look _ v spares

new_dropped : (c : ℕ) (v : State) (q : Point) → is_words v.trees q.label ≡ false → Spared (put_at c q) v → Spared (drop_sole_break q.label) v
unfolding put_at
new_dropped c v q none spares =
    let m : Run (Unit {0}) = replace q.label q.offset 0 (c ∷ []) >> select q (at q.label (q.offset + 1)) in
    let n : Run (Unit {0}) = drop_sole_break q.label >>= (λ _. make_words (c ∷ []) >>= (λ x. insert_at_start x >>= (λ _. look λ r. select (start_in x) (end_in r.trees x)))) in
    let new : Spared n v = subst (λ b. Spared (if b then m else n) v) none (spared_look _ v spares) in
    spared_front (drop_sole_break q.label) _ v new

drop_bare : (v : State) (n : ℕ) → Spared (drop_sole_break n) v → SoleIsBare v n
unfolding drop_sole_break edit act is_made_edit
drop_bare v n spares k first sole may =
    let looked = spared_look _ v spares in
    let at_k : Spared (if is_none (next_of v.trees k) && is_collapsed_break v.trees k then remove k >> done else done) v =
    subst (λ o. Spared (given o done λ l. if is_none (next_of v.trees l) && is_collapsed_break v.trees l then remove l >> done else done) v) first looked in
    let removed : Spared (remove k >> done) v = subst (λ b. Spared (if b then remove k >> done else done) v) sole at_k in
    (spared_front (remove k) (λ _. done) v removed).1 may

module _ (s : State) (h : ℕ) (b : Began s h) where
  spared_inside : (c : ℕ) (t : State) (p : Point) → StandsAt t p → is_inside t p.label ≡ true → c ≢ 10 → Spared (insert_char_inside c) t → Spared (type_char c p) t
  unfolding insert_char_inside insert_char_at
  spared_inside c t p caret held off spares =
      let looked = spared_look _ t spares in
      subst (λ v. Spared (if v then (insert_paragraph >> done) else type_char c p) t) (ne_eqb c 10 off)
      (subst (λ o. Spared (given o done (insert_char_at c)) t) (start_is s h b t p caret held) looked)

  module _ (c : ℕ) (t : State) (p : Point) (k : Ready s h b 2 t p) where
    abbrev x : Point
    x = into_text t.trees p

    reach : Reach s h b t x
    reach = reaches s h b 2 t p k

    abbrev v : State
    v = t2 s h b 2 t k.way x reach k.room (omega arith)

    abbrev q : Point
    q = (y s h b 2 t k.way x reach k.room (omega arith)).place

    -- what it drops bears nothing that is kept
    bare : Spared (put_char c) v → is_words v.trees q.label ≡ false → SoleIsBare v q.label
    bare spares none n first sole =
        let given_q : Spared (given (active_start v) done (put_at c)) v = put_looked c v spares in
        let at_q : Spared (put_at c q) v = subst (λ o. Spared (given o done (put_at c)) v) (start_caret v q (y s h b 2 t k.way x reach k.room (omega arith)).caret) given_q in
        drop_bare v q.label (new_dropped c v q none at_q) n first sole

    put : Spared (put_char c) v → Put s h b c 1 v (final (put_char c) v)
    put spares = char_put s h b c 1 v (way2 s h b 2 t k.way x reach k.room (omega arith)) q (y s h b 2 t k.way x reach k.room (omega arith)).caret
        (held2 s h b 2 t k.way x reach k.room (omega arith)) (comment2 s h b 2 t k.way x reach k.room (omega arith)) (room2 s h b 2 t k.way x reach k.room (omega arith)) (omega arith) (omega arith) (bare spares)

    abbrev w : State
    w = final (put_char c) v

    abbrev list : List Override
    list = overrides_of t

    abbrev u : State
    u = final (restore_states list) w

    whole : Spared (put_char c) v → Spared (restore_states list) w → Gains s h b (c ∷ []) t (final close_text u)
    whole putting spares =
        let m = put putting in
        let is_w = valid_way s h false b w m.way in
        let kept = solid_order w u (restored list w is_w spares) in
        let last = (closed_calm 1 u (final_valid (restore_states list) w is_w) (restored_room list 1 w is_w m.room) (omega arith)).0 in (
          m.before,
          m.behind,
          sym (order2 s h b 2 t k.way x reach k.room (omega arith)) ∙ m.was,
          last ∙ (kept ∙ (front_whole w m.focus (m.before ++ solid_chars (c ∷ [])) m.behind m.now ∙ append_assoc m.before (solid_chars (c ∷ [])) m.behind)),
        )

    typed : Spared (type_char c p) t → Gains s h b (c ∷ []) t (final (type_char c p) t)
    unfolding type_char t1 t2
    typed spares =
        let P : State → Unit {0} → Type 0 = λ z _. Gains s h b (c ∷ []) t z in
        let v1 = final (collapse x) t in
        let from_start = spared_look _ t spares in
        let from_collapse = spared_back (collapse x) _ t from_start in
        let from_blanks = spared_back (canonicalize true x) _ v1 from_collapse in
        let from_put = spared_back (put_char c) _ v from_blanks in
        ends_look _ t P
        (ends_bind (collapse x) _ t P
        (ends_bind (canonicalize true x) _ v1 P
        (ends_bind (put_char c) _ v P
        (ends_bind (restore_states list) _ w P
        (whole (spared_front (put_char c) _ v from_blanks) (spared_front (restore_states list) _ w from_put))))))

  pub char_inserted : (p : Point) (c : ℕ) → HasRoomFor 2 s → StandsAt s p → is_inside (begun (Some h) false s) p.label ≡ true → IsNoComment s p → c ≢ 10
      → Spared (insert_char_inside c) (final (erase KEEP_WRAPPERS) (begun (Some h) false s)) → Gains s h b (c ∷ []) s (final (insert_text (c ∷ [])) (begun (Some h) false s))
  unfolding insert_text insert_chars
  char_inserted p c room caret held comment off spares =
      let a = begun (Some h) false s in
      let e = erased_ready s h b 2 a p (begun_ready s h b 2 p room caret held comment) (omega arith) in
      let t = final (erase KEEP_WRAPPERS) a in
      let run : final (insert_text (c ∷ [])) a ≡ final (insert_char_inside c) t = rw (final-bind, final-bind, final-answer) refl in
      let k = e.ready in
      let gained = typed c t e.place k (spared_inside c t e.place k.caret k.held off spares) in
      gains_u s h b (c ∷ []) (final (insert_text (c ∷ [])) a)
      (subst (λ z. Gains s h b (c ∷ []) a z) (sym (run ∙ inside_run s h b c t e.place k.caret k.held off)) (gains_after s h b (c ∷ []) a t (final (type_char c e.place) t) e.order gained))
