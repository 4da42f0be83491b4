-- Inserting paragraphs, and inserting text, keeps to the grammar.
use Rattle.std.proofs.Common.{◌≡◌, ℕ, Bool, true, false, ◌&&◌, if◌then◌else◌, List, [], ◌∷◌, Option, Some, None, refl, sym, subst, ◌∙◌, true≢false, ap}
use Rattle.std.specs.Prelude.{codes}
use Rattle.std.specs.Option.{option_map_or, option_and_then}
use Rattle.std.proofs.lemmas.Bool.{and_parts}
use Rattle.edit_model.specs.DomModel.AttributeList.{unset_in}
use Rattle.edit_model.specs.LiveRange.declared.places.Point.{Point}
use Rattle.inline_value.specs.NodeStyles.NameClasses.{is_single_line}
use Rattle.edit_model.specs.State.{State}
use Rattle.edit_model.specs.Compositions.{attribute_list_of, tag_of}
use Rattle.edit_model.specs.Confined.{is_editable_for}
use Rattle.edit_model.specs.Valid.{IsValid}
use Rattle.edit_model.specs.Moves.{insert_after}
use Rattle.edit_model.specs.Edit.{Replace}
use Rattle.edit_model.specs.Run.{◌>>=◌, ◌>>◌, final, value, answer, done, given, for_each, replace, make_words, extract_tail, collapse}
use Rattle.edit_model.proofs.Steps.{final-answer, final-look, value-bind, value-answer, value-look}
use Rattle.inline_value.specs.WrapSplit.declared.rule.Criterion.TheVariants.{Never}
use Rattle.inline_value.specs.WrapSplit.declared.rule.Recipe.TheVariants.{Make}
use Rattle.inline_value.specs.WrapSplit.Wrap.{append_break}
use Rattle.text_insertion.specs.Containers.{make_container, insert_container, add_container, wrap_line, make_line, is_own_container, own_container, plain_container, contents_from, first_content}
use Rattle.text_insertion.specs.Entries.{is_empty_entry, leave_list}
use Rattle.text_insertion.specs.Halves.{parting_point, second_name, make_second, fill_hidden, close_both, part_at, part_container, ends_line, is_heading_at, name_after}
use Rattle.text_insertion.specs.Paragraph.{leave_text, split_text, holds_lines, break_line, part_line, part_line_if, part_paragraph, insert_paragraph_inside, insert_paragraph}
use Rattle.text_insertion.specs.Start.{active_start, insert_at, insert_at_start}
use Rattle.text_insertion.specs.Typing.{into_text, drop_sole_break, put_at, put_char, close_text, type_char, insert_char_at, insert_char_inside, insert_char, insert_several, insert_chars, insert_text}
use Rattle.edit_model.specs.DomModel.declared.Content.{Content}
use Rattle.edit_model.specs.DomModel.declared.Content.TheVariants.{Document, Element, Words, Remark}
use Rattle.edit_model.specs.DomModel.Contents.{has_name, name_in}
use Rattle.edit_model.specs.DomModel.Forest.{Forest, content_of}
use Rattle.inline_value.specs.EditQuery.Rows.{container_name}
use Rattle.edit_model.specs.HtmlNames.ElementNames.{is_single_line_container}
use Rattle.inline_commands.specs.RestoringStates.{restore_states}
use Rattle.inline_value.specs.Overrides.{overrides_of}
use Rattle.delete_core.specs.declared.deletion.TheConstants.Manner.{KEEP_WRAPPERS}
use Rattle.delete_core.specs.Whitespace.{canonicalize}
use Rattle.making_laws.specs.Names.{made_names, is_made_name}
use Rattle.grammar_laws.specs.Proper.{IsText, IsProperState}
use Rattle.grammar_laws.specs.Runs.{Proper}
use Rattle.grammar_laws.proofs.Lists.{list_none, list_unset}
use Rattle.grammar_laws.proofs.Names.{IsPageName, made_name}
use Rattle.grammar_laws.proofs.Reading.{tag_proper, list_proper}
use Rattle.grammar_laws.proofs.Texts.{IsLetter, AreLetters, letters, text}
use Rattle.grammar_laws.proofs.Values.{overrides_proper}
use Rattle.making_laws.proofs.NamedWraps.{AnswersNamed, named_given, named_look, named_parts, named_wrap}
use Rattle.grammar_laws.proofs.ProperRuns.{At, at_bind, at_look, make_at, proper_answer, proper_bind, proper_collapse, proper_each_such, proper_edit, proper_final, proper_if, proper_insert_after, proper_look, proper_make, proper_moves, proper_parts, proper_perform, proper_words, valid_final}
use Rattle.making_laws.proofs.Named.{IsNamed}
use Rattle.grammar_laws.proofs.AncestorRuns.{made_container, proper_fix_ancestors}
use Rattle.grammar_laws.proofs.Splits.{proper_split}
use Rattle.grammar_laws.proofs.Wraps.{proper_append_break, proper_wrap}
use Rattle.grammar_laws.proofs.ErasingRuns.{proper_canonicalize, proper_canonicalize_end, proper_canonicalize_start, proper_collapse_selection, proper_fill_empty}
use Rattle.grammar_laws.proofs.DeleteRuns.{proper_erase, proper_rename_stray}
use Rattle.grammar_laws.proofs.RestoringRuns.{proper_restore_states}

proper_insert_at : (x : ℕ) (p : Point) → Proper (insert_at x p)
unfolding insert_at
proper_insert_at x p = search proper_parts

pub proper_insert_at_start : (x : ℕ) → Proper (insert_at_start x)
unfolding insert_at_start
proper_insert_at_start x = search (proper_parts, proper_insert_at)

-- ---- the text is split, and a line ends with a br, or an entry leaves its list

proper_leave_text : (p : Point) → Proper (leave_text p)
unfolding leave_text
proper_leave_text p = search proper_parts

proper_split_text : (p : Point) → Proper (split_text p)
unfolding split_text
proper_split_text p = search (proper_parts, proper_leave_text)

proper_break_line : (p : Point) (c : ℕ) → Proper (break_line p c)
unfolding break_line
proper_break_line p c = search (proper_parts, proper_moves, proper_insert_at_start) depth 9

proper_leave_list : (c : ℕ) → Proper (leave_list c)
unfolding leave_list
proper_leave_list c =
    search (proper_parts, proper_split, proper_fill_empty, proper_rename_stray, proper_fix_ancestors)

-- ---- the container of a line

proper_close_container : (c : ℕ) → Proper (append_break c >> answer c)
proper_close_container c = search (proper_parts, proper_append_break)

proper_make_container : Proper make_container
unfolding make_container
proper_make_container =
    proper_look _ (λ s p. proper_bind _ _ (proper_make (container_name s.flags.paragraphs) [] (made_container s.flags.paragraphs) list_none) (λ c. proper_close_container c))

proper_insert_container : Proper insert_container
unfolding insert_container
proper_insert_container = search (proper_parts, proper_make_container, proper_insert_at_start)

proper_add_container : Proper add_container
unfolding add_container
proper_add_container = search (proper_parts, proper_insert_container)

proper_wrap_line : (k : ℕ) → Proper (wrap_line k)
unfolding wrap_line
proper_wrap_line k = proper_look _ (λ s p. proper_wrap Never (Make (plain_container s)) (made_container s.flags.paragraphs, list_none) (contents_from s k))

proper_make_line : Proper make_line
unfolding make_line
proper_make_line = search (proper_parts, proper_add_container, proper_wrap_line)

proper_own_container : (c : ℕ) → Proper (own_container c)
unfolding own_container
proper_own_container c = search (proper_parts, proper_make_line)

made_dd : is_made_name (codes "dd") ≡ true
unfolding is_made_name made_names
made_dd = refl

made_dt : is_made_name (codes "dt") ≡ true
unfolding is_made_name made_names
made_dt = refl

-- ---- a container that is made for a line is an element

named_inserted : (s : State) → AnswersNamed s (insert_container >> answer None)
named_inserted s = record {
  named = λ x e. absurd (
      let k : None ≡ Some x = sym (value-answer None (final insert_container s)) ∙ (sym (value-bind insert_container (λ _. answer None) s) ∙ e) in
      cc);
}

named_add_container : (s : State) → AnswersNamed s add_container
unfolding add_container
named_add_container s = search (named_parts, named_inserted)

named_wrap_line : (s : State) → IsValid s → (k : ℕ) → AnswersNamed s (wrap_line k)
unfolding wrap_line
named_wrap_line s is k = named_look s _ (named_wrap s is (plain_container s) (contents_from s k))

named_make_line : (s : State) → IsValid s → AnswersNamed s make_line
unfolding make_line
named_make_line s is = named_look s _ (named_given s (first_content s) add_container wrap_line (named_add_container s) (named_wrap_line s is))

-- and so is a single-line container
single_named : (f : Forest Content) (c : ℕ) → is_single_line f c ≡ true → IsNamed f c
unfolding is_single_line
single_named f c h = by_content (content_of f c) refl h
  where
    by_content : (o : Option Content) → content_of f c ≡ o → option_map_or (λ c. option_map_or is_single_line_container (name_in c) false) o false ≡ true → IsNamed f c
    by_content None e t = absurd (true≢false (sym t))
    by_content (Some Document) e t = absurd (true≢false (sym t))
    by_content (Some (Element name attributes)) e t = (name, ap (λ (o : Option Content). option_and_then name_in o) e)
    by_content (Some (Words chars)) e t = absurd (true≢false (sym t))
    by_content (Some (Remark chars)) e t = absurd (true≢false (sym t))

own_named : (c : ℕ) (s : State) → IsValid s → (x : ℕ) → value (own_container c) s ≡ Some x → IsNamed (final (own_container c) s).trees x
unfolding own_container is_own_container
own_named c s is x e = rw final-look (by_test (is_editable_for s c && is_single_line s.trees c) refl (sym (value-look _ s) ∙ e))
  where
    by_test : (v : Bool) → (is_editable_for s c && is_single_line s.trees c) ≡ v
        → value (if v then answer (Some c) else make_line) s ≡ Some x → IsNamed (final (if v then answer (Some c) else make_line) s).trees x
    by_test false test found = (named_make_line s is).named x found
    by_test true test found =
        let here : Some c ≡ Some x = sym (value-answer (Some c) s) ∙ found in
        let same : c ≡ x = (let at = here in cc) in
        rw final-answer (subst (λ j. IsNamed s.trees j) same (single_named s.trees c (and_parts (is_editable_for s c) (is_single_line s.trees c) test).1))

-- ---- the second half

proper_fill_hidden : (c : ℕ) → Proper (fill_hidden c)
unfolding fill_hidden
proper_fill_hidden c = search (proper_parts, proper_append_break)

proper_close_both : (c d : ℕ) → Proper (close_both c d)
unfolding close_both
proper_close_both c d = search (proper_parts, proper_fill_hidden)

proper_put_second : (q : Point) (c d : ℕ) → Proper (insert_after c d >> (extract_tail q c d >> close_both c d))
proper_put_second q c d = search (proper_parts, proper_insert_after, proper_close_both)

-- ---- inserting a paragraph

module _ (s : State) (is : IsValid s) (proper : IsProperState s) (c : ℕ) (named : IsNamed s.trees c) where
  either_name : (b : Bool) (x y : List ℕ) → IsPageName x → IsPageName y → IsPageName (if b then x else y)
  either_name true x y h g = h
  either_name false x y h g = g

  -- the second container has the name of the first, or a name that commands make
  second_proper : (q : Point) → IsPageName (second_name s q c)
  unfolding second_name name_after
  second_proper q =
      let own : IsPageName (tag_of s.trees c) = tag_proper s.trees proper.nodes c named in
      either_name (ends_line s q c) _ _
      (either_name (is_heading_at s c) _ _ (made_name _ (made_container s.flags.paragraphs))
      (either_name (has_name s.trees c (codes "dt")) _ _ (made_name (codes "dd") made_dd)
      (either_name (has_name s.trees c (codes "dd")) _ _ (made_name (codes "dt") made_dt) own)))
      own

  second_at : (q : Point) → At s (make_second q c)
  unfolding make_second
  second_at q =
      let list = attribute_list_of s.trees c in
      at_look _ s (make_at s (second_name s q c) (unset_in list (codes "id")) (second_proper q) (list_unset list (codes "id") (list_proper s.trees proper.nodes c)))

  part_at_at : (q : Point) → At s (part_at q c)
  unfolding part_at
  part_at_at q =
      let m = make_second q c in
      let first = second_at q in
      at_bind m _ s first ((proper_put_second q c (value m s)).stays (final m s) (valid_final m s is) (proper_final m s is proper first))

  part_container_at : At s (part_container c)
  unfolding part_container
  part_container_at = at_look _ s (by_start (active_start s))
    where
      by_start : (o : Option Point) → At s (given o done λ p. part_at (parting_point s p) c)
      by_start None = (proper_answer tt).stays s is proper
      by_start (Some p) = part_at_at (parting_point s p)

  part_line_at : (p : Point) → At s (part_line p c)
  unfolding part_line
  part_line_at p = at_look _ s (by_tests (holds_lines s c) (is_empty_entry s c))
    where
      by_tests : (v w : Bool) → At s (if v then break_line p c else (if w then leave_list c else part_container c))
      by_tests true w = (proper_break_line p c).stays s is proper
      by_tests false true = (proper_leave_list c).stays s is proper
      by_tests false false = part_container_at

-- ---- inserting a paragraph

proper_part_own : (p : Point) (c : ℕ) → Proper (own_container c >>= part_line_if p)
proper_part_own p c = record {
  stays = λ s is proper.
      let first = (proper_own_container c).stays s is proper in
      at_bind (own_container c) (part_line_if p) s first (by_answer s is (proper_final (own_container c) s is proper first) (value (own_container c) s) refl);
}
  where
    by_answer : (s : State) → IsValid s → IsProperState (final (own_container c) s) → (o : Option ℕ) → value (own_container c) s ≡ o → At (final (own_container c) s) (part_line_if p o)
    by_answer s is proper None e = (proper_answer tt).stays (final (own_container c) s) (valid_final (own_container c) s is) proper
    by_answer s is proper (Some x) e = part_line_at (final (own_container c) s) (valid_final (own_container c) s is) proper x (own_named c s is x e) p

proper_part_paragraph : (p : Point) → Proper (part_paragraph p)
unfolding part_paragraph
proper_part_paragraph p = search (proper_parts, proper_part_own)

proper_paragraph_inside : Proper insert_paragraph_inside
unfolding insert_paragraph_inside
proper_paragraph_inside = search (proper_parts, proper_split_text, proper_part_paragraph)

pub proper_insert_paragraph : Proper insert_paragraph
unfolding insert_paragraph
proper_insert_paragraph = search (proper_parts, proper_erase, proper_paragraph_inside)

-- ---- inserting text

proper_drop_sole_break : (n : ℕ) → Proper (drop_sole_break n)
unfolding drop_sole_break
proper_drop_sole_break n = search proper_parts depth 8

proper_close_text : Proper close_text
unfolding close_text
proper_close_text = search (proper_parts, proper_canonicalize_start, proper_canonicalize_end, proper_collapse_selection)

-- ---- one character

module _ (c : ℕ) (own : IsLetter c) where
  one : IsText (c ∷ [])
  one = text (c ∷ []) (own, tt)

  proper_replace : (p : Point) → Proper (replace p.label p.offset 0 (c ∷ []))
  proper_replace p = proper_edit (Replace p.label p.offset 0 (c ∷ [])) one

  proper_new : Proper (make_words (c ∷ []))
  proper_new = proper_words (c ∷ []) one

  proper_put_at : (p : Point) → Proper (put_at c p)
  unfolding put_at
  proper_put_at p = search (proper_bind, proper_look, proper_if, proper_perform, proper_replace, proper_new, proper_drop_sole_break, proper_insert_at_start) depth 9

  proper_put_char : Proper (put_char c)
  unfolding put_char
  proper_put_char = search (proper_parts, proper_put_at)

  proper_type_char : (p : Point) → Proper (type_char c p)
  unfolding type_char
  proper_type_char p =
      proper_look _ (λ s proper. proper_bind (collapse (into_text s.trees p)) _ (proper_collapse (into_text s.trees p))
      (λ _. proper_bind (canonicalize true (into_text s.trees p)) _ (proper_canonicalize true (into_text s.trees p))
      (λ _. proper_bind (put_char c) _ proper_put_char (λ _. proper_bind (restore_states (overrides_of s)) _ (proper_restore_states (overrides_of s) (overrides_proper s proper)) (λ _. proper_close_text)))))

  proper_char_at : (p : Point) → Proper (insert_char_at c p)
  unfolding insert_char_at
  proper_char_at p = search (proper_parts, proper_insert_paragraph, proper_type_char)

  proper_char_inside : Proper (insert_char_inside c)
  unfolding insert_char_inside
  proper_char_inside = search (proper_parts, proper_char_at)

  proper_char : Proper (insert_char c)
  unfolding insert_char
  proper_char = search (proper_parts, proper_erase, proper_char_inside)

-- ---- all of them

proper_several : (value : List ℕ) → AreLetters value → Proper (insert_several value)
unfolding insert_several
proper_several value own = proper_look _ (λ s p. proper_if _ done (for_each value insert_char) (proper_answer tt) (proper_each_such IsLetter value insert_char own proper_char))

proper_chars : (value : List ℕ) → AreLetters value → Proper (insert_chars value)
unfolding insert_chars
proper_chars [] own = proper_answer tt
proper_chars (c ∷ []) own = proper_char_inside c own.0
proper_chars (c ∷ d ∷ rest) own = proper_several (c ∷ d ∷ rest) own

pub proper_insert_text : (value : List ℕ) → IsText value → Proper (insert_text value)
unfolding insert_text
proper_insert_text value own =
    proper_bind _ _ (proper_erase KEEP_WRAPPERS) (λ _. proper_bind _ _ (proper_chars value (letters value own)) (λ _. proper_answer true))
