-- Inserting paragraphs is tame, and inserting text is from a source that has its characters.
use Rattle.std.proofs.Common.{◌≡◌, ℕ, Bool, true, false, ◌&&◌, if◌then◌else◌, List, [], ◌∷◌, Option, Some, None, refl, sym, subst, ◌∙◌, true≢false, ap, inl}
use Rattle.std.specs.Prelude.{codes}
use Rattle.std.specs.Option.{option_map_or, option_and_then}
use Rattle.std.proofs.lemmas.Bool.{and_parts}
use Rattle.edit_model.specs.DomModel.AttributeList.{unset_in}
use Rattle.edit_model.specs.LiveRange.declared.places.Point.{Point}
use Rattle.inline_value.specs.NodeStyles.NameClasses.{is_single_line}
use Rattle.edit_model.specs.State.{State}
use Rattle.edit_model.specs.Compositions.{attribute_list_of, tag_of}
use Rattle.edit_model.specs.Confined.{is_editable_for}
use Rattle.edit_model.specs.Valid.{IsValid}
use Rattle.edit_model.specs.Moves.{insert_after}
use Rattle.edit_model.specs.Edit.{Replace}
use Rattle.edit_model.specs.Run.{◌>>=◌, ◌>>◌, final, value, answer, done, given, for_each, replace, make_words, extract_tail}
use Rattle.edit_model.proofs.Steps.{final-answer, final-look, value-bind, value-answer, value-look}
use Rattle.inline_value.specs.WrapSplit.declared.rule.Criterion.TheVariants.{Never}
use Rattle.inline_value.specs.WrapSplit.declared.rule.Recipe.TheVariants.{Make}
use Rattle.inline_value.specs.WrapSplit.Wrap.{append_break}
use Rattle.text_insertion.specs.Containers.{make_container, insert_container, add_container, wrap_line, make_line, is_own_container, own_container, plain_container, contents_from, first_content}
use Rattle.text_insertion.specs.Entries.{is_empty_entry, leave_list}
use Rattle.text_insertion.specs.Halves.{parting_point, second_name, make_second, fill_hidden, close_both, part_at, part_container, ends_line, is_heading_at, name_after}
use Rattle.text_insertion.specs.Paragraph.{leave_text, split_text, holds_lines, break_line, part_line, part_line_if, part_paragraph, insert_paragraph_inside, insert_paragraph}
use Rattle.text_insertion.specs.Start.{active_start, insert_at, insert_at_start, erase}
use Rattle.text_insertion.specs.Typing.{drop_sole_break, put_at, put_char, close_text, type_char, insert_char_at, insert_char_inside, insert_char, insert_several, insert_chars, insert_text}
use Rattle.edit_model.specs.DomModel.declared.Content.{Content}
use Rattle.edit_model.specs.DomModel.declared.Content.TheVariants.{Document, Element, Words, Remark}
use Rattle.edit_model.specs.DomModel.Contents.{has_name, name_in}
use Rattle.edit_model.specs.DomModel.Forest.{Forest, content_of}
use Rattle.inline_value.specs.EditQuery.Rows.{container_name}
use Rattle.edit_model.specs.HtmlNames.ElementNames.{is_single_line_container}
use Rattle.inline_value.specs.ForestChanges.Named.{Each}
use Rattle.inline_commands.specs.RestoringStates.{restore_states}
use Rattle.inline_value.specs.declared.overrides.Override.{Override}
use Rattle.delete_core.specs.declared.deletion.TheConstants.Manner.{KEEP_WRAPPERS}
use Rattle.delete_core.specs.Whitespace.{canonicalize}
use Rattle.making_laws.specs.Known.{Source, IsKnownName, IsKnownCharacter, KnowsAll}
use Rattle.making_laws.specs.Names.{made_names, is_made_name}
use Rattle.making_laws.specs.Tame.{Tame, TameFrom}
use Rattle.making_laws.proofs.NamedWraps.{AnswersNamed, named_given, named_look, named_parts, named_wrap}
use Rattle.making_laws.proofs.TameRuns.{At, at_bind, at_look, from_answer, from_any, from_bind, from_edit, from_if, from_look, from_parts, from_words, known_final, make_at, tame_answer, tame_bind, tame_insert_after, tame_look, tame_make, tame_moves, tame_parts, valid_final}
use Rattle.making_laws.proofs.Named.{IsNamed}
use Rattle.making_laws.proofs.Attributes.{each_unset, list_known}
use Rattle.making_laws.proofs.AncestorRuns.{made_container, tame_fix_ancestors}
use Rattle.making_laws.proofs.Splits.{name_known, tame_split}
use Rattle.making_laws.proofs.Wraps.{tame_append_break, tame_wrap}
use Rattle.making_laws.proofs.ErasingRuns.{tame_canonicalize, tame_canonicalize_end, tame_canonicalize_start, tame_collapse_selection, tame_fill_empty}
use Rattle.making_laws.proofs.DeleteRuns.{tame_erase, tame_rename_stray}
use Rattle.making_laws.proofs.RestoringRuns.{tame_restore_states}

tame_insert_at : (x : ℕ) (p : Point) → Tame (insert_at x p)
unfolding insert_at
tame_insert_at x p = search tame_parts

pub tame_insert_at_start : (x : ℕ) → Tame (insert_at_start x)
unfolding insert_at_start
tame_insert_at_start x = search (tame_parts, tame_insert_at)

-- ---- the text is split, and a line ends with a br, or an entry leaves its list

tame_leave_text : (p : Point) → Tame (leave_text p)
unfolding leave_text
tame_leave_text p = search tame_parts

tame_split_text : (p : Point) → Tame (split_text p)
unfolding split_text
tame_split_text p = search (tame_parts, tame_leave_text)

tame_break_line : (p : Point) (c : ℕ) → Tame (break_line p c)
unfolding break_line
tame_break_line p c = search (tame_parts, tame_moves, tame_insert_at_start) depth 9

tame_leave_list : (c : ℕ) → Tame (leave_list c)
unfolding leave_list
tame_leave_list c =
    search (tame_parts, tame_split, tame_fill_empty, tame_rename_stray, tame_fix_ancestors)

-- ---- the container of a line

tame_close_container : (c : ℕ) → Tame (append_break c >> answer c)
tame_close_container c = search (tame_parts, tame_append_break)

tame_make_container : Tame make_container
unfolding make_container
tame_make_container =
    tame_look _ (λ s. tame_bind _ _ (tame_make (container_name s.flags.paragraphs) [] (made_container s.flags.paragraphs) tt) (λ c. tame_close_container c))

tame_insert_container : Tame insert_container
unfolding insert_container
tame_insert_container = search (tame_parts, tame_make_container, tame_insert_at_start)

tame_add_container : Tame add_container
unfolding add_container
tame_add_container = search (tame_parts, tame_insert_container)

tame_wrap_line : (k : ℕ) → Tame (wrap_line k)
unfolding wrap_line
tame_wrap_line k = tame_look _ (λ s. tame_wrap Never (Make (plain_container s)) (made_container s.flags.paragraphs, tt) (contents_from s k))

tame_make_line : Tame make_line
unfolding make_line
tame_make_line = search (tame_parts, tame_add_container, tame_wrap_line)

tame_own_container : (c : ℕ) → Tame (own_container c)
unfolding own_container
tame_own_container c = search (tame_parts, tame_make_line)

made_dd : is_made_name (codes "dd") ≡ true
unfolding is_made_name made_names
made_dd = refl

made_dt : is_made_name (codes "dt") ≡ true
unfolding is_made_name made_names
made_dt = refl

-- ---- a container that is made for a line is an element

named_inserted : (s : State) → AnswersNamed s (insert_container >> answer None)
named_inserted s = record {
  named = λ x e. absurd (
      let k : None ≡ Some x = sym (value-answer None (final insert_container s)) ∙ (sym (value-bind insert_container (λ _. answer None) s) ∙ e) in
      cc);
}

named_add_container : (s : State) → AnswersNamed s add_container
unfolding add_container
named_add_container s = search (named_parts, named_inserted)

named_wrap_line : (s : State) → IsValid s → (k : ℕ) → AnswersNamed s (wrap_line k)
unfolding wrap_line
named_wrap_line s is k = named_look s _ (named_wrap s is (plain_container s) (contents_from s k))

named_make_line : (s : State) → IsValid s → AnswersNamed s make_line
unfolding make_line
named_make_line s is = named_look s _ (named_given s (first_content s) add_container wrap_line (named_add_container s) (named_wrap_line s is))

-- and so is a single-line container
single_named : (f : Forest Content) (c : ℕ) → is_single_line f c ≡ true → IsNamed f c
unfolding is_single_line
single_named f c h = by_content (content_of f c) refl h
  where
    by_content : (o : Option Content) → content_of f c ≡ o → option_map_or (λ c. option_map_or is_single_line_container (name_in c) false) o false ≡ true → IsNamed f c
    by_content None e t = absurd (true≢false (sym t))
    by_content (Some Document) e t = absurd (true≢false (sym t))
    by_content (Some (Element name attributes)) e t = (name, ap (λ (o : Option Content). option_and_then name_in o) e)
    by_content (Some (Words chars)) e t = absurd (true≢false (sym t))
    by_content (Some (Remark chars)) e t = absurd (true≢false (sym t))

own_named : (c : ℕ) (s : State) → IsValid s → (x : ℕ) → value (own_container c) s ≡ Some x → IsNamed (final (own_container c) s).trees x
unfolding own_container is_own_container
own_named c s is x e = rw final-look (by_test (is_editable_for s c && is_single_line s.trees c) refl (sym (value-look _ s) ∙ e))
  where
    by_test : (v : Bool) → (is_editable_for s c && is_single_line s.trees c) ≡ v
        → value (if v then answer (Some c) else make_line) s ≡ Some x → IsNamed (final (if v then answer (Some c) else make_line) s).trees x
    by_test false test found = (named_make_line s is).named x found
    by_test true test found =
        let here : Some c ≡ Some x = sym (value-answer (Some c) s) ∙ found in
        let same : c ≡ x = (let at = here in cc) in
        rw final-answer (subst (λ j. IsNamed s.trees j) same (single_named s.trees c (and_parts (is_editable_for s c) (is_single_line s.trees c) test).1))

-- ---- the second half

tame_fill_hidden : (c : ℕ) → Tame (fill_hidden c)
unfolding fill_hidden
tame_fill_hidden c = search (tame_parts, tame_append_break)

tame_close_both : (c d : ℕ) → Tame (close_both c d)
unfolding close_both
tame_close_both c d = search (tame_parts, tame_fill_hidden)

tame_put_second : (q : Point) (c d : ℕ) → Tame (insert_after c d >> (extract_tail q c d >> close_both c d))
tame_put_second q c d = search (tame_parts, tame_insert_after, tame_close_both)

-- ---- inserting a paragraph

module _ (source : Source) (s : State) (is : IsValid s) (known : KnowsAll source s.trees) (c : ℕ) (named : IsNamed s.trees c) where
  either_known : (b : Bool) (x y : List ℕ) → IsKnownName source.forest x → IsKnownName source.forest y → IsKnownName source.forest (if b then x else y)
  either_known true x y h g = h
  either_known false x y h g = g

  -- the second container has the name of the first, or a name that commands make
  second_known : (q : Point) → IsKnownName source.forest (second_name s q c)
  unfolding second_name name_after
  second_known q =
      let own : IsKnownName source.forest (tag_of s.trees c) = name_known source s.trees c known named in
      either_known (ends_line s q c) _ _
      (either_known (is_heading_at s c) _ _ (inl (made_container s.flags.paragraphs))
      (either_known (has_name s.trees c (codes "dt")) _ _ (inl made_dd)
      (either_known (has_name s.trees c (codes "dd")) _ _ (inl made_dt) own)))
      own

  second_at : (q : Point) → At source s (make_second q c)
  unfolding make_second
  second_at q =
      let list = attribute_list_of s.trees c in
      at_look source _ s (make_at source s (second_name s q c) (unset_in list (codes "id")) (second_known q, each_unset source.forest list (codes "id") (list_known source s.trees c known)))

  part_at_at : (q : Point) → At source s (part_at q c)
  unfolding part_at
  part_at_at q =
      let m = make_second q c in
      let first = second_at q in
      at_bind source m _ s first ((tame_put_second q c (value m s)).stays source (final m s) (valid_final m s is) (known_final source m s is known first))

  part_container_at : At source s (part_container c)
  unfolding part_container
  part_container_at = at_look source _ s (by_start (active_start s))
    where
      by_start : (o : Option Point) → At source s (given o done λ p. part_at (parting_point s p) c)
      by_start None = (tame_answer tt).stays source s is known
      by_start (Some p) = part_at_at (parting_point s p)

  part_line_at : (p : Point) → At source s (part_line p c)
  unfolding part_line
  part_line_at p = at_look source _ s (by_tests (holds_lines s c) (is_empty_entry s c))
    where
      by_tests : (v w : Bool) → At source s (if v then break_line p c else (if w then leave_list c else part_container c))
      by_tests true w = (tame_break_line p c).stays source s is known
      by_tests false true = (tame_leave_list c).stays source s is known
      by_tests false false = part_container_at

-- ---- inserting a paragraph

tame_part_own : (p : Point) (c : ℕ) → Tame (own_container c >>= part_line_if p)
tame_part_own p c = record {
  stays = λ source s is known.
      let first = (tame_own_container c).stays source s is known in
      at_bind source (own_container c) (part_line_if p) s first (by_answer source s is (known_final source (own_container c) s is known first) (value (own_container c) s) refl);
}
  where
    by_answer : (source : Source) (s : State) → IsValid s → KnowsAll source (final (own_container c) s).trees → (o : Option ℕ) → value (own_container c) s ≡ o → At source (final (own_container c) s) (part_line_if p o)
    by_answer source s is known None e = (tame_answer tt).stays source (final (own_container c) s) (valid_final (own_container c) s is) known
    by_answer source s is known (Some x) e = part_line_at source (final (own_container c) s) (valid_final (own_container c) s is) known x (own_named c s is x e) p

tame_part_paragraph : (p : Point) → Tame (part_paragraph p)
unfolding part_paragraph
tame_part_paragraph p = search (tame_parts, tame_part_own)

tame_paragraph_inside : Tame insert_paragraph_inside
unfolding insert_paragraph_inside
tame_paragraph_inside = search (tame_parts, tame_split_text, tame_part_paragraph)

pub tame_insert_paragraph : Tame insert_paragraph
unfolding insert_paragraph
tame_insert_paragraph = search (tame_parts, tame_erase, tame_paragraph_inside)

-- ---- inserting text

tame_drop_sole_break : (n : ℕ) → Tame (drop_sole_break n)
unfolding drop_sole_break
tame_drop_sole_break n = search tame_parts depth 8

tame_close_text : Tame close_text
unfolding close_text
tame_close_text = search (tame_parts, tame_canonicalize_start, tame_canonicalize_end, tame_collapse_selection)

module _ (source : Source) where
  from_drop : (n : ℕ) → TameFrom source (drop_sole_break n)
  from_drop n = from_any source (drop_sole_break n) (tame_drop_sole_break n)

  from_insert : (x : ℕ) → TameFrom source (insert_at_start x)
  from_insert x = from_any source (insert_at_start x) (tame_insert_at_start x)

  from_canonicalize : (fix : Bool) (p : Point) → TameFrom source (canonicalize fix p)
  from_canonicalize fix p = from_any source (canonicalize fix p) (tame_canonicalize fix p)

  from_restore : (list : List Override) → TameFrom source (restore_states list)
  from_restore list = from_any source (restore_states list) (tame_restore_states list)

  from_close : TameFrom source close_text
  from_close = from_any source close_text tame_close_text

  from_paragraph : TameFrom source insert_paragraph
  from_paragraph = from_any source insert_paragraph tame_insert_paragraph

  from_erase : (m : _) → TameFrom source (erase m)
  from_erase m = from_any source (erase m) (tame_erase m)

  -- ---- one character that the source has

  module _ (c : ℕ) (own : IsKnownCharacter source c) where
    from_replace : (p : Point) → TameFrom source (replace p.label p.offset 0 (c ∷ []))
    from_replace p = from_edit source (Replace p.label p.offset 0 (c ∷ [])) (own, tt)

    from_new : TameFrom source (make_words (c ∷ []))
    from_new = from_words source (c ∷ []) (own, tt)

    from_put_at : (p : Point) → TameFrom source (put_at c p)
    unfolding put_at
    from_put_at p = search (from_parts, from_replace, from_new, from_drop, from_insert) depth 9

    from_put_char : TameFrom source (put_char c)
    unfolding put_char
    from_put_char = search (from_parts, from_put_at)

    from_type_char : (p : Point) → TameFrom source (type_char c p)
    unfolding type_char
    from_type_char p = search (from_parts, from_canonicalize, from_put_char, from_restore, from_close) depth 8

    from_char_at : (p : Point) → TameFrom source (insert_char_at c p)
    unfolding insert_char_at
    from_char_at p = search (from_parts, from_paragraph, from_type_char)

    from_char_inside : TameFrom source (insert_char_inside c)
    unfolding insert_char_inside
    from_char_inside = search (from_parts, from_char_at)

    from_char : TameFrom source (insert_char c)
    unfolding insert_char
    from_char = search (from_parts, from_erase, from_char_inside)

  -- ---- all of them

  from_each : (value : List ℕ) → Each (IsKnownCharacter source) value → TameFrom source (for_each value insert_char)
  unfolding for_each
  from_each [] known = from_answer source tt
  from_each (c ∷ rest) known = from_bind source (insert_char c) (λ _. for_each rest insert_char) (from_char c known.0) (λ _. from_each rest known.1)

  from_several : (value : List ℕ) → Each (IsKnownCharacter source) value → TameFrom source (insert_several value)
  unfolding insert_several
  from_several value known = from_look source _ (λ s. from_if source _ _ _ (from_answer source tt) (from_each value known))

  from_chars : (value : List ℕ) → Each (IsKnownCharacter source) value → TameFrom source (insert_chars value)
  unfolding insert_chars
  from_chars [] known = from_answer source tt
  from_chars (c ∷ []) known = from_char_inside c known.0
  from_chars (c ∷ d ∷ rest) known = from_several (c ∷ d ∷ rest) known

  pub from_insert_text : (value : List ℕ) → Each (IsKnownCharacter source) value → TameFrom source (insert_text value)
  unfolding insert_text
  from_insert_text value known =
      from_bind source _ _ (from_erase KEEP_WRAPPERS) (λ _. from_bind source _ _ (from_chars value known) (λ _. from_answer source true))
