-- Inserting text and paragraphs leaves the states of contenteditable.
use Rattle.std.proofs.Common.{◌≡◌, ℕ, Bool, true, false, ◌&&◌, if◌then◌else◌, List, [], ◌∷◌, Option, Some, None, refl, sym, subst, ◌∙◌}
use Rattle.edit_model.specs.DomModel.AttributeList.{unset_in}
use Rattle.std.specs.Prelude.{codes}
use Rattle.edit_model.specs.LiveRange.declared.places.Point.{Point}
use Rattle.inline_value.specs.NodeStyles.NameClasses.{is_single_line}
use Rattle.edit_model.specs.State.{State}
use Rattle.edit_model.specs.Compositions.{attribute_list_of}
use Rattle.edit_model.specs.Confined.{is_editable_for}
use Rattle.edit_model.specs.Valid.{IsValid}
use Rattle.edit_model.specs.Moves.{insert_after}
use Rattle.edit_model.specs.Run.{◌>>=◌, ◌>>◌, final, value, answer, done, given, make_element, extract_tail}
use Rattle.edit_model.proofs.Steps.{final-answer, final-look, value-bind, value-answer, value-look}
use Rattle.edit_laws.specs.Steady.{Steady}
use Rattle.edit_laws.proofs.SteadyRuns.{steady_parts, steady_answer, steady_make_element}
use Rattle.inline_value.specs.WrapSplit.declared.rule.Criterion.TheVariants.{Never}
use Rattle.inline_value.specs.WrapSplit.declared.rule.Recipe.TheVariants.{Make}
use Rattle.inline_value.specs.WrapSplit.Wrap.{wrap}
use Rattle.text_insertion.specs.Containers.{make_container, insert_container, add_container, wrap_line, make_line, is_own_container, own_container}
use Rattle.text_insertion.specs.Entries.{is_empty_entry, leave_list}
use Rattle.text_insertion.specs.Halves.{parting_point, second_name, make_second, fill_hidden, close_both, part_at, part_container}
use Rattle.text_insertion.specs.Paragraph.{leave_text, split_text, holds_lines, break_line, part_line, part_line_if, part_paragraph, insert_paragraph_inside, insert_paragraph}
use Rattle.text_insertion.specs.Start.{active_start, insert_at, insert_at_start}
use Rattle.text_insertion.specs.Typing.{drop_sole_break, put_at, put_char, close_text, type_char, insert_char_at, insert_char_inside, insert_char, insert_several, insert_chars, insert_text}
use Rattle.command_laws.proofs.AncestorRuns.{steady_fix_ancestors}
use Rattle.command_laws.proofs.Criteria.{first_part}
use Rattle.command_laws.proofs.DeleteRuns.{steady_rename_stray, steady_erase}
use Rattle.command_laws.proofs.ErasingRuns.{steady_canonicalize, steady_canonicalize_start, steady_canonicalize_end, steady_collapse_selection, steady_fill_empty}
use Rattle.command_laws.proofs.NewWraps.{IsNew, new_parts, new_wrap}
use Rattle.command_laws.proofs.NoStates.{HasNoState, editable_unstated, made_unstated, unstated_without_id}
use Rattle.command_laws.proofs.RestoringRuns.{steady_restore_states}
use Rattle.command_laws.proofs.SteadyMoves.{steady_moves, steady_insert_after}
use Rattle.command_laws.proofs.SteadySplits.{At, at_bind, at_look, valid_final, steady_split}
use Rattle.command_laws.proofs.SteadyWraps.{steady_append_break, steady_wrap}

steady_insert_at : (x : ℕ) (p : Point) → Steady (insert_at x p)
unfolding insert_at
steady_insert_at x p = search steady_parts

pub steady_insert_at_start : (x : ℕ) → Steady (insert_at_start x)
unfolding insert_at_start
steady_insert_at_start x = search (steady_parts, steady_insert_at)

-- ---- the text is split, and a line ends with a br, or an entry leaves its list

steady_leave_text : (p : Point) → Steady (leave_text p)
unfolding leave_text
steady_leave_text p = search steady_parts

steady_split_text : (p : Point) → Steady (split_text p)
unfolding split_text
steady_split_text p = search (steady_parts, steady_leave_text)

steady_break_line : (p : Point) (c : ℕ) → Steady (break_line p c)
unfolding break_line
steady_break_line p c = search (steady_parts, steady_moves, steady_insert_at_start) depth 9

steady_leave_list : (c : ℕ) → Steady (leave_list c)
unfolding leave_list
steady_leave_list c =
    search (steady_parts, steady_split, steady_fill_empty, steady_rename_stray, steady_fix_ancestors)

-- ---- the container of a line

steady_plain : (name : List ℕ) → Steady (make_element name [])
steady_plain name = steady_make_element name [] refl

steady_make_container : Steady make_container
unfolding make_container
steady_make_container = search (steady_parts, steady_plain, steady_append_break)

steady_insert_container : Steady insert_container
unfolding insert_container
steady_insert_container = search (steady_parts, steady_make_container, steady_insert_at_start)

steady_add_container : Steady add_container
unfolding add_container
steady_add_container = search (steady_parts, steady_insert_container)

steady_wrap_plain : (name : List ℕ) (list : List ℕ) → Steady (wrap Never (Make (record { name = name; attributes = [] })) list)
steady_wrap_plain name list = steady_wrap Never (Make (record { name = name; attributes = [] })) refl list

steady_wrap_line : (k : ℕ) → Steady (wrap_line k)
unfolding wrap_line
steady_wrap_line k = search (steady_parts, steady_wrap_plain)

steady_make_line : Steady make_line
unfolding make_line
steady_make_line = search (steady_parts, steady_add_container, steady_wrap_line)

steady_own_container : (c : ℕ) → Steady (own_container c)
unfolding own_container
steady_own_container c = search (steady_parts, steady_make_line)

-- ---- a container that is made for a line is new

new_inserted : (s : State) → IsNew s (insert_container >> answer None)
new_inserted s = record {
  later = λ x e. absurd (
      let k : None ≡ Some x = sym (value-answer None (final insert_container s)) ∙ (sym (value-bind insert_container (λ _. answer None) s) ∙ e) in
      cc);
}

new_add_container : (s : State) → IsNew s add_container
unfolding add_container
new_add_container s = search (new_parts, new_inserted)

new_wrap_line : (s : State) (k : ℕ) → IsNew s (wrap_line k)
unfolding wrap_line
new_wrap_line s k = search (new_parts, new_wrap)

new_make_line : (s : State) → IsNew s make_line
unfolding make_line
new_make_line s = search (new_parts, new_add_container, new_wrap_line)

-- so the container has no state: it is editable or new
own_unstated : (c : ℕ) (s : State) → IsValid s → (x : ℕ) → value (own_container c) s ≡ Some x → HasNoState (final (own_container c) s) x
unfolding own_container is_own_container
own_unstated c s is x e = rw final-look (by_test (is_editable_for s c && is_single_line s.trees c) refl (sym (value-look _ s) ∙ e))
  where
    by_test : (v : Bool) → (is_editable_for s c && is_single_line s.trees c) ≡ v
        → value (if v then answer (Some c) else make_line) s ≡ Some x → HasNoState (final (if v then answer (Some c) else make_line) s) x
    by_test false test found = made_unstated make_line s x is steady_make_line ((new_make_line s).later x found)
    by_test true test found =
        let here : Some c ≡ Some x = sym (value-answer (Some c) s) ∙ found in
        let same : c ≡ x = (let at = here in cc) in
        rw final-answer (subst (HasNoState s) same (editable_unstated s c is (first_part (is_editable_for s c) (is_single_line s.trees c) test)))

-- ---- the second half

steady_fill_hidden : (c : ℕ) → Steady (fill_hidden c)
unfolding fill_hidden
steady_fill_hidden c = search (steady_parts, steady_append_break)

steady_close_both : (c d : ℕ) → Steady (close_both c d)
unfolding close_both
steady_close_both c d = search (steady_parts, steady_fill_hidden)

steady_put_second : (q : Point) (c d : ℕ) → Steady (insert_after c d >> (extract_tail q c d >> close_both c d))
steady_put_second q c d = search (steady_parts, steady_insert_after, steady_close_both)

module _ (s : State) (is : IsValid s) (c : ℕ) (none : HasNoState s c) where
  second_at : (q : Point) → At s (make_second q c)
  unfolding make_second
  second_at q =
      let list = attribute_list_of s.trees c in
      let name = second_name s q c in
      at_look _ s ((steady_make_element name (unset_in list (codes "id")) (unstated_without_id name list (none name))).leaves s is)

  part_at_at : (q : Point) → At s (part_at q c)
  unfolding part_at
  part_at_at q =
      at_bind (make_second q c) _ s (second_at q)
      ((steady_put_second q c (value (make_second q c) s)).leaves (final (make_second q c) s) (valid_final (make_second q c) s is))

  part_container_at : At s (part_container c)
  unfolding part_container
  part_container_at = at_look _ s (by_start (active_start s))
    where
      by_start : (o : Option Point) → At s (given o done λ p. part_at (parting_point s p) c)
      by_start None = (steady_answer tt).leaves s is
      by_start (Some p) = part_at_at (parting_point s p)

  part_line_at : (p : Point) → At s (part_line p c)
  unfolding part_line
  part_line_at p = at_look _ s (by_tests (holds_lines s c) (is_empty_entry s c))
    where
      by_tests : (v w : Bool) → At s (if v then break_line p c else (if w then leave_list c else part_container c))
      by_tests true w = (steady_break_line p c).leaves s is
      by_tests false true = (steady_leave_list c).leaves s is
      by_tests false false = part_container_at

-- ---- inserting a paragraph

steady_part_own : (p : Point) (c : ℕ) → Steady (own_container c >>= part_line_if p)
steady_part_own p c = record {
  leaves = λ s is.
      at_bind (own_container c) (part_line_if p) s ((steady_own_container c).leaves s is) (by_answer s is (value (own_container c) s) refl);
}
  where
    by_answer : (s : State) → IsValid s → (o : Option ℕ) → value (own_container c) s ≡ o → At (final (own_container c) s) (part_line_if p o)
    by_answer s is None e = (steady_answer tt).leaves (final (own_container c) s) (valid_final (own_container c) s is)
    by_answer s is (Some x) e =
        part_line_at (final (own_container c) s) (valid_final (own_container c) s is) x (own_unstated c s is x e) p

steady_part_paragraph : (p : Point) → Steady (part_paragraph p)
unfolding part_paragraph
steady_part_paragraph p = search (steady_parts, steady_part_own)

steady_paragraph_inside : Steady insert_paragraph_inside
unfolding insert_paragraph_inside
steady_paragraph_inside = search (steady_parts, steady_split_text, steady_part_paragraph)

pub steady_insert_paragraph : Steady insert_paragraph
unfolding insert_paragraph
steady_insert_paragraph = search (steady_parts, steady_erase, steady_paragraph_inside)

-- ---- inserting text

steady_drop_sole_break : (n : ℕ) → Steady (drop_sole_break n)
unfolding drop_sole_break
steady_drop_sole_break n = search steady_parts depth 8

steady_put_at : (c : ℕ) (p : Point) → Steady (put_at c p)
unfolding put_at
steady_put_at c p = search (steady_parts, steady_drop_sole_break, steady_insert_at_start) depth 9

steady_put_char : (c : ℕ) → Steady (put_char c)
unfolding put_char
steady_put_char c = search (steady_parts, steady_put_at)

steady_close_text : Steady close_text
unfolding close_text
steady_close_text = search (steady_parts, steady_canonicalize_start, steady_canonicalize_end, steady_collapse_selection)

steady_type_char : (c : ℕ) (p : Point) → Steady (type_char c p)
unfolding type_char
steady_type_char c p =
    search (steady_parts, steady_canonicalize, steady_put_char, steady_restore_states, steady_close_text) depth 8

steady_char_at : (c : ℕ) (p : Point) → Steady (insert_char_at c p)
unfolding insert_char_at
steady_char_at c p = search (steady_parts, steady_insert_paragraph, steady_type_char)

steady_char_inside : (c : ℕ) → Steady (insert_char_inside c)
unfolding insert_char_inside
steady_char_inside c = search (steady_parts, steady_char_at)

steady_char : (c : ℕ) → Steady (insert_char c)
unfolding insert_char
steady_char c = search (steady_parts, steady_erase, steady_char_inside)

steady_several : (value : List ℕ) → Steady (insert_several value)
unfolding insert_several
steady_several value = search (steady_parts, steady_char)

steady_chars : (value : List ℕ) → Steady (insert_chars value)
unfolding insert_chars
steady_chars [] = steady_answer tt
steady_chars (c ∷ []) = steady_char_inside c
steady_chars (c ∷ d ∷ rest) = steady_several (c ∷ d ∷ rest)

pub steady_insert_text : (value : List ℕ) → Steady (insert_text value)
unfolding insert_text
steady_insert_text value = search (steady_parts, steady_erase, steady_chars)
