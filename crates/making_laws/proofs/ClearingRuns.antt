-- Clearing the value of an element is tame.
use Rattle.std.proofs.Common.{ℕ, List}
use Rattle.std.specs.Prelude.{codes}
use Rattle.inline_value.specs.CssValue.declared.decoration.DecorationLine.{DecorationLine}
use Rattle.edit_model.specs.HtmlNames.declared.commands.Command.{Command}
use Rattle.inline_value.specs.CommandValue.Subjects.{subject}
use Rattle.inline_value.specs.CommandValue.declared.subject.Subject.{Subject}
use Rattle.inline_value.specs.CommandValue.declared.subject.Subject.TheVariants.{Link, Background, Script, Line, Weight, Slant, Family, Size, Foreground, Nothing}
use Rattle.edit_model.specs.Run.{done, given}
use Rattle.inline_value.specs.Clearing.{write_words, drop_line, drop_word, drop_property, hint_of, drop_attribute, drop_hint, drop_link, span_for, stripped, unwrapped, clear_value}
use Rattle.making_laws.specs.Tame.{Tame}
use Rattle.making_laws.proofs.TameRuns.{made_span, tame_answer, tame_parts, tame_unwrap}
use Rattle.making_laws.proofs.StylingRuns.{tame_set_style, tame_unset_style}

tame_words : (e : ℕ) (text : List ℕ) → Tame (write_words e text)
unfolding write_words
tame_words e text = search (tame_parts, tame_set_style, tame_unset_style)

tame_line : (line : DecorationLine) (e : ℕ) → Tame (drop_line line e)
unfolding drop_line
tame_line line e = search (tame_parts, tame_words)

tame_word : (u : Subject) (e : ℕ) → Tame (drop_word u e)
tame_word Link e = tame_answer tt
tame_word Background e = tame_answer tt
tame_word Script e = tame_answer tt
tame_word (Line line) e = tame_line line e
tame_word Weight e = tame_answer tt
tame_word Slant e = tame_answer tt
tame_word Family e = tame_answer tt
tame_word Size e = tame_answer tt
tame_word Foreground e = tame_answer tt
tame_word Nothing e = tame_answer tt

tame_property : (command : Command) (e : ℕ) → Tame (drop_property command e)
unfolding drop_property
tame_property command e = search (tame_parts, tame_unset_style)

tame_attribute : (name attribute : List ℕ) (e : ℕ) → Tame (drop_attribute name attribute e)
unfolding drop_attribute
tame_attribute name attribute e = search tame_parts

tame_hinted : (u : Subject) (e : ℕ) → Tame (given (hint_of u) done (λ hint. drop_attribute (codes "font") hint e))
tame_hinted Link e = tame_answer tt
tame_hinted Background e = tame_answer tt
tame_hinted Script e = tame_answer tt
tame_hinted (Line line) e = tame_answer tt
tame_hinted Weight e = tame_answer tt
tame_hinted Slant e = tame_answer tt
tame_hinted Family e = tame_attribute (codes "font") (codes "face") e
tame_hinted Size e = tame_attribute (codes "font") (codes "size") e
tame_hinted Foreground e = tame_attribute (codes "font") (codes "color") e
tame_hinted Nothing e = tame_answer tt

tame_hint : (command : Command) (e : ℕ) → Tame (drop_hint command e)
unfolding drop_hint
tame_hint command e = tame_hinted (subject command) e

tame_link : (u : Subject) (e : ℕ) → Tame (drop_link u e)
tame_link Link e = tame_attribute (codes "a") (codes "href") e
tame_link Background e = tame_answer tt
tame_link Script e = tame_answer tt
tame_link (Line line) e = tame_answer tt
tame_link Weight e = tame_answer tt
tame_link Slant e = tame_answer tt
tame_link Family e = tame_answer tt
tame_link Size e = tame_answer tt
tame_link Foreground e = tame_answer tt
tame_link Nothing e = tame_answer tt

tame_span : (command : Command) (e : ℕ) → Tame (span_for command e)
unfolding span_for
tame_span command e = search (tame_parts, made_span)

tame_stripped : (command : Command) (e : ℕ) → Tame (stripped command e)
unfolding stripped
tame_stripped command e = search (tame_parts, tame_word, tame_property, tame_hint, tame_link, tame_span)

tame_unwrapped : (e : ℕ) → Tame (unwrapped e)
unfolding unwrapped
tame_unwrapped e = search (tame_parts, tame_unwrap)

pub tame_clear_value : (command : Command) (e : ℕ) → Tame (clear_value command e)
unfolding clear_value
tame_clear_value command e = search (tame_parts, tame_unwrapped, tame_stripped)
