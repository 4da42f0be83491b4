-- Styles, and clearing values, ignore marks and the cap.
use Rattle.std.proofs.Common.{ℕ, List, codes}
use Rattle.edit_model.specs.HtmlNames.declared.commands.Command.{Command}
use Rattle.inline_value.specs.CssValue.declared.decoration.DecorationLine.{DecorationLine}
use Rattle.inline_value.specs.CommandValue.declared.subject.Subject.{Subject}
use Rattle.inline_value.specs.CommandValue.declared.subject.Subject.TheVariants.{Line, Link}
use Rattle.edit_model.specs.Confined.{is_editable_for}
use Rattle.inline_value.specs.Styling.{write_text, set_style, declarations_of, style_of, unset_style, decoration_of}
use Rattle.inline_value.specs.Clearing.{write_words, drop_line, drop_word, drop_property, drop_attribute, drop_hint, drop_link, span_for, stripped, unwrapped, clear_value}
use Rattle.independence_laws.proofs.IgnoringRuns.{ignores_answer, ignoring_parts}
use Rattle.independence_laws.proofs.MoveRuns.{ignores_set_tag_name, ignores_unwrap}
use Rattle.independence_laws.specs.Ignoring.{IgnoresMarks}

-- ---- styles

ignores_write_text : (e : ℕ) (text : List ℕ) → IgnoresMarks (write_text e text)
unfolding write_text
ignores_write_text e text = search ignoring_parts

pub ignores_set_style : (e : ℕ) (name value : List ℕ) → IgnoresMarks (set_style e name value)
unfolding set_style declarations_of style_of
ignores_set_style e name value = search (ignoring_parts, ignores_write_text)

pub ignores_unset_style : (e : ℕ) (name : List ℕ) → IgnoresMarks (unset_style e name)
unfolding unset_style declarations_of style_of
ignores_unset_style e name = search (ignoring_parts, ignores_write_text)

-- ---- clearing a value

ignores_write_words : (e : ℕ) (text : List ℕ) → IgnoresMarks (write_words e text)
unfolding write_words
ignores_write_words e text = search (ignoring_parts, ignores_unset_style, ignores_set_style)

ignores_drop_line : (line : DecorationLine) (e : ℕ) → IgnoresMarks (drop_line line e)
unfolding drop_line decoration_of declarations_of style_of
ignores_drop_line line e = search (ignoring_parts, ignores_write_words)

ignores_drop_word : (u : Subject) (e : ℕ) → IgnoresMarks (drop_word u e)
ignores_drop_word (Line line) e = ignores_drop_line line e
ignores_drop_word _ e = ignores_answer tt

ignores_drop_property : (command : Command) (e : ℕ) → IgnoresMarks (drop_property command e)
unfolding drop_property
ignores_drop_property command e = search (ignoring_parts, ignores_unset_style)

ignores_drop_attribute : (name attribute : List ℕ) (e : ℕ) → IgnoresMarks (drop_attribute name attribute e)
unfolding drop_attribute
ignores_drop_attribute name attribute e = search ignoring_parts

ignores_drop_hint : (command : Command) (e : ℕ) → IgnoresMarks (drop_hint command e)
unfolding drop_hint
ignores_drop_hint command e = search (ignoring_parts, ignores_drop_attribute)

ignores_drop_link : (u : Subject) (e : ℕ) → IgnoresMarks (drop_link u e)
ignores_drop_link Link e = ignores_drop_attribute (codes "a") (codes "href") e
ignores_drop_link _ e = ignores_answer tt

ignores_span_for : (command : Command) (e : ℕ) → IgnoresMarks (span_for command e)
unfolding span_for
ignores_span_for command e = search (ignoring_parts, ignores_set_tag_name)

ignores_stripped : (command : Command) (e : ℕ) → IgnoresMarks (stripped command e)
unfolding stripped
ignores_stripped command e = search (ignoring_parts, ignores_drop_word, ignores_drop_property, ignores_drop_hint, ignores_drop_link, ignores_span_for)

ignores_unwrapped : (e : ℕ) → IgnoresMarks (unwrapped e)
unfolding unwrapped
ignores_unwrapped e = search (ignoring_parts, ignores_unwrap)

pub ignores_clear_value : (command : Command) (e : ℕ) → IgnoresMarks (clear_value command e)
unfolding clear_value is_editable_for
ignores_clear_value command e = search (ignoring_parts, ignores_unwrapped, ignores_stripped)
