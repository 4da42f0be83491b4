-- Clearing the value of an element keeps to the grammar.
use Rattle.std.proofs.Common.{ℕ, List, refl}
use Rattle.std.specs.Prelude.{codes}
use Rattle.inline_value.specs.CssValue.declared.decoration.DecorationLine.{DecorationLine}
use Rattle.edit_model.specs.HtmlNames.declared.commands.Command.{Command}
use Rattle.inline_value.specs.CommandValue.Subjects.{subject}
use Rattle.inline_value.specs.CommandValue.declared.subject.Subject.{Subject}
use Rattle.inline_value.specs.CommandValue.declared.subject.Subject.TheVariants.{Link, Background, Script, Line, Weight, Slant, Family, Size, Foreground, Nothing}
use Rattle.edit_model.specs.Run.{done, given}
use Rattle.inline_value.specs.Clearing.{write_words, drop_line, drop_word, drop_property, hint_of, drop_attribute, drop_hint, drop_link, span_for, stripped, unwrapped, clear_value}
use Rattle.inline_value.specs.CssValue.StyleText.{is_empty}
use Rattle.inline_value.specs.CssValue.TextDecoration.{without_line}
use Rattle.inline_value.specs.Styling.{decoration_of, set_style, unset_style}
use Rattle.grammar_laws.specs.Proper.{IsText}
use Rattle.grammar_laws.specs.Runs.{Proper}
use Rattle.grammar_laws.proofs.Styles.{rest_text}
use Rattle.grammar_laws.proofs.Values.{decoration_value}
use Rattle.making_laws.proofs.TameRuns.{made_span}
use Rattle.grammar_laws.proofs.ProperRuns.{proper_if, proper_look, proper_some, proper_answer, proper_parts, proper_unwrap}
use Rattle.grammar_laws.proofs.StylingRuns.{proper_set_style, proper_unset_style}

proper_words : (e : ℕ) (chars : List ℕ) → IsText chars → Proper (write_words e chars)
unfolding write_words
proper_words e chars own =
    proper_if (is_empty chars) (unset_style e (codes "text-decoration")) (set_style e (codes "text-decoration") chars) (proper_unset_style e (codes "text-decoration")) (proper_set_style e (codes "text-decoration") chars refl own)

proper_line : (line : DecorationLine) (e : ℕ) → Proper (drop_line line e)
unfolding drop_line
proper_line line e = proper_look _ (λ s p. proper_some IsText (decoration_of s e) done _ (decoration_value s e p) (proper_answer tt) (λ chars own. proper_words e (without_line chars line) (rest_text chars line own)))

proper_word : (u : Subject) (e : ℕ) → Proper (drop_word u e)
proper_word Link e = proper_answer tt
proper_word Background e = proper_answer tt
proper_word Script e = proper_answer tt
proper_word (Line line) e = proper_line line e
proper_word Weight e = proper_answer tt
proper_word Slant e = proper_answer tt
proper_word Family e = proper_answer tt
proper_word Size e = proper_answer tt
proper_word Foreground e = proper_answer tt
proper_word Nothing e = proper_answer tt

proper_property : (command : Command) (e : ℕ) → Proper (drop_property command e)
unfolding drop_property
proper_property command e = search (proper_parts, proper_unset_style)

proper_attribute : (name attribute : List ℕ) (e : ℕ) → Proper (drop_attribute name attribute e)
unfolding drop_attribute
proper_attribute name attribute e = search proper_parts

proper_hinted : (u : Subject) (e : ℕ) → Proper (given (hint_of u) done (λ hint. drop_attribute (codes "font") hint e))
proper_hinted Link e = proper_answer tt
proper_hinted Background e = proper_answer tt
proper_hinted Script e = proper_answer tt
proper_hinted (Line line) e = proper_answer tt
proper_hinted Weight e = proper_answer tt
proper_hinted Slant e = proper_answer tt
proper_hinted Family e = proper_attribute (codes "font") (codes "face") e
proper_hinted Size e = proper_attribute (codes "font") (codes "size") e
proper_hinted Foreground e = proper_attribute (codes "font") (codes "color") e
proper_hinted Nothing e = proper_answer tt

proper_hint : (command : Command) (e : ℕ) → Proper (drop_hint command e)
unfolding drop_hint
proper_hint command e = proper_hinted (subject command) e

proper_link : (u : Subject) (e : ℕ) → Proper (drop_link u e)
proper_link Link e = proper_attribute (codes "a") (codes "href") e
proper_link Background e = proper_answer tt
proper_link Script e = proper_answer tt
proper_link (Line line) e = proper_answer tt
proper_link Weight e = proper_answer tt
proper_link Slant e = proper_answer tt
proper_link Family e = proper_answer tt
proper_link Size e = proper_answer tt
proper_link Foreground e = proper_answer tt
proper_link Nothing e = proper_answer tt

proper_span : (command : Command) (e : ℕ) → Proper (span_for command e)
unfolding span_for
proper_span command e = search (proper_parts, made_span)

proper_stripped : (command : Command) (e : ℕ) → Proper (stripped command e)
unfolding stripped
proper_stripped command e = search (proper_parts, proper_word, proper_property, proper_hint, proper_link, proper_span)

proper_unwrapped : (e : ℕ) → Proper (unwrapped e)
unfolding unwrapped
proper_unwrapped e = search (proper_parts, proper_unwrap)

pub proper_clear_value : (command : Command) (e : ℕ) → Proper (clear_value command e)
unfolding clear_value
proper_clear_value command e = search (proper_parts, proper_unwrapped, proper_stripped)
