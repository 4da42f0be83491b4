-- Inserting text ignores marks and the cap.
use Rattle.std.proofs.Common.{ℕ, List, [], ◌∷◌}
use Rattle.edit_model.specs.LiveRange.declared.places.Point.{Point}
use Rattle.edit_model.specs.Confined.{is_inside, is_editable_for}
use Rattle.inline_value.specs.Overrides.{overrides_of}
use Rattle.text_insertion.specs.Typing.{drop_sole_break, put_at, put_char, close_text, type_char, insert_char_at, insert_char_inside, insert_char, insert_several, insert_chars, insert_text}
use Rattle.text_insertion.specs.Start.{active_start, start_inside}
use Rattle.independence_laws.proofs.ParagraphRuns.{ignores_insert_at_start, ignores_insert_paragraph, ignores_erase}
use Rattle.independence_laws.proofs.ErasingRuns.{ignores_canonicalize_start, ignores_canonicalize_end, ignores_collapse_selection}
use Rattle.independence_laws.proofs.WhitespaceRuns.{ignores_canonicalize}
use Rattle.independence_laws.proofs.InlineRuns.{ignores_restore_states}
use Rattle.independence_laws.proofs.IgnoringRuns.{ignores_answer, ignoring_parts}
use Rattle.independence_laws.specs.Ignoring.{IgnoresMarks}

ignores_drop_sole_break : (n : ℕ) → IgnoresMarks (drop_sole_break n)
unfolding drop_sole_break
ignores_drop_sole_break n = search ignoring_parts

ignores_put_at : (c : ℕ) (p : Point) → IgnoresMarks (put_at c p)
unfolding put_at
ignores_put_at c p = search (ignoring_parts, ignores_drop_sole_break, ignores_insert_at_start) depth 7

ignores_put_char : (c : ℕ) → IgnoresMarks (put_char c)
unfolding put_char active_start
ignores_put_char c = search (ignoring_parts, ignores_put_at)

ignores_close_text : IgnoresMarks close_text
unfolding close_text
ignores_close_text = search (ignoring_parts, ignores_canonicalize_start, ignores_canonicalize_end, ignores_collapse_selection)

ignores_type_char : (c : ℕ) (p : Point) → IgnoresMarks (type_char c p)
unfolding type_char overrides_of
ignores_type_char c p = search (ignoring_parts, ignores_canonicalize, ignores_put_char, ignores_restore_states, ignores_close_text) depth 7

ignores_insert_char_at : (c : ℕ) (p : Point) → IgnoresMarks (insert_char_at c p)
unfolding insert_char_at
ignores_insert_char_at c p = search (ignoring_parts, ignores_insert_paragraph, ignores_type_char)

ignores_insert_char_inside : (c : ℕ) → IgnoresMarks (insert_char_inside c)
unfolding insert_char_inside start_inside is_inside is_editable_for active_start
ignores_insert_char_inside c = search (ignoring_parts, ignores_insert_char_at)

ignores_insert_char : (c : ℕ) → IgnoresMarks (insert_char c)
unfolding insert_char
ignores_insert_char c = search (ignoring_parts, ignores_erase, ignores_insert_char_inside)

ignores_insert_several : (value : List ℕ) → IgnoresMarks (insert_several value)
unfolding insert_several start_inside is_inside is_editable_for active_start
ignores_insert_several value = search (ignoring_parts, ignores_insert_char)

ignores_insert_chars : (list : List ℕ) → IgnoresMarks (insert_chars list)
unfolding insert_chars
ignores_insert_chars [] = ignores_answer tt
ignores_insert_chars (c ∷ []) = ignores_insert_char_inside c
ignores_insert_chars (c ∷ d ∷ rest) = ignores_insert_several (c ∷ d ∷ rest)

pub ignores_insert_text : (value : List ℕ) → IgnoresMarks (insert_text value)
unfolding insert_text
ignores_insert_text value = search (ignoring_parts, ignores_erase, ignores_insert_chars)
