-- The commands that toggle a style or a script, and those that take a value, keep to the grammar.
use Rattle.std.proofs.Common.{ℕ, Bool, true, false, List, ◌∷◌, Option, Some, None, refl}
use Rattle.std.specs.Prelude.{is_some}
use Rattle.std.specs.Option.{option_map}
use Rattle.inline_value.specs.CssValue.Colours.{colour_of}
use Rattle.inline_value.specs.CssValue.SizeKeywords.{size_keyword}
use Rattle.inline_value.specs.EditQuery.Queries.{state_of}
use Rattle.edit_model.specs.Run.{answer, done}
use Rattle.edit_model.specs.HtmlNames.declared.commands.Command.{Command}
use Rattle.edit_model.specs.HtmlNames.declared.commands.Command.TheVariants as command
use Rattle.inline_commands.specs.Toggling.{style_on, style_off, toggled, set_toggled, toggle_style, script_on, set_unless, set_script, toggle_script}
use Rattle.inline_commands.specs.ValueCommands.{size_value, if_colour, colour_value, value_taken, set_taken, take, apply_value}
use Rattle.inline_value.specs.Selections.{set_value}
use Rattle.inline_value.specs.NodeStyles.LegacySizes.{legacy_size_of}
use Rattle.grammar_laws.specs.Proper.{IsText}
use Rattle.grammar_laws.specs.Runs.{Proper}
use Rattle.grammar_laws.proofs.ProperRuns.{proper_answer, proper_bind, proper_if, proper_look, proper_some}
use Rattle.grammar_laws.proofs.SelectionRuns.{proper_set_value}
use Rattle.grammar_laws.proofs.Styles.{keyword_text}
use Rattle.grammar_laws.proofs.Texts.{some_if, some_or}
use Rattle.grammar_laws.proofs.Values.{IsValue}

-- ---- the values

on_text : (c : Command) → IsValue (style_on c)
on_text command.Bold = refl
on_text command.Italic = refl
on_text command.Underline = refl
on_text command.Strikethrough = refl
on_text command.Subscript = tt
on_text command.Superscript = tt
on_text command.CreateLink = tt
on_text command.Unlink = tt
on_text command.FontName = tt
on_text command.FontSize = tt
on_text command.ForeColor = tt
on_text command.BackColor = tt
on_text command.HiliteColor = tt
on_text command.RemoveFormat = tt
on_text command.FormatBlock = tt
on_text command.JustifyLeft = tt
on_text command.JustifyCenter = tt
on_text command.JustifyRight = tt
on_text command.JustifyFull = tt
on_text command.Indent = tt
on_text command.Outdent = tt
on_text command.Delete = tt
on_text command.InsertText = tt
on_text command.InsertParagraph = tt
on_text command.StyleWithCss = tt
on_text command.UseCss = tt
on_text command.DefaultParagraphSeparator = tt
on_text command.InsertOrderedList = tt
on_text command.InsertUnorderedList = tt
on_text command.InsertLineBreak = tt
on_text command.InsertHorizontalRule = tt
on_text command.InsertImage = tt

off_text : (c : Command) → IsValue (style_off c)
off_text command.Bold = refl
off_text command.Italic = refl
off_text command.Underline = tt
off_text command.Strikethrough = tt
off_text command.Subscript = tt
off_text command.Superscript = tt
off_text command.CreateLink = tt
off_text command.Unlink = tt
off_text command.FontName = tt
off_text command.FontSize = tt
off_text command.ForeColor = tt
off_text command.BackColor = tt
off_text command.HiliteColor = tt
off_text command.RemoveFormat = tt
off_text command.FormatBlock = tt
off_text command.JustifyLeft = tt
off_text command.JustifyCenter = tt
off_text command.JustifyRight = tt
off_text command.JustifyFull = tt
off_text command.Indent = tt
off_text command.Outdent = tt
off_text command.Delete = tt
off_text command.InsertText = tt
off_text command.InsertParagraph = tt
off_text command.StyleWithCss = tt
off_text command.UseCss = tt
off_text command.DefaultParagraphSeparator = tt
off_text command.InsertOrderedList = tt
off_text command.InsertUnorderedList = tt
off_text command.InsertLineBreak = tt
off_text command.InsertHorizontalRule = tt
off_text command.InsertImage = tt

script_text : (c : Command) → IsValue (script_on c)
script_text command.Bold = tt
script_text command.Italic = tt
script_text command.Underline = tt
script_text command.Strikethrough = tt
script_text command.Subscript = refl
script_text command.Superscript = refl
script_text command.CreateLink = tt
script_text command.Unlink = tt
script_text command.FontName = tt
script_text command.FontSize = tt
script_text command.ForeColor = tt
script_text command.BackColor = tt
script_text command.HiliteColor = tt
script_text command.RemoveFormat = tt
script_text command.FormatBlock = tt
script_text command.JustifyLeft = tt
script_text command.JustifyCenter = tt
script_text command.JustifyRight = tt
script_text command.JustifyFull = tt
script_text command.Indent = tt
script_text command.Outdent = tt
script_text command.Delete = tt
script_text command.InsertText = tt
script_text command.InsertParagraph = tt
script_text command.StyleWithCss = tt
script_text command.UseCss = tt
script_text command.DefaultParagraphSeparator = tt
script_text command.InsertOrderedList = tt
script_text command.InsertUnorderedList = tt
script_text command.InsertLineBreak = tt
script_text command.InsertHorizontalRule = tt
script_text command.InsertImage = tt

toggled_text : (c : Command) (on : List ℕ) (state : Bool) → IsText on → IsValue (toggled c on state)
toggled_text c on true own = off_text c
toggled_text c on false own = own

size_text : (v : List ℕ) → IsValue (size_value v)
unfolding size_value
size_text v = by_size (legacy_size_of v)
  where
    by_size : (o : Option ℕ) → IsValue (option_map size_keyword o)
    by_size None = tt
    by_size (Some n) = keyword_text n

if_colour_text : (v : List ℕ) → IsText v → IsValue (if_colour v)
unfolding if_colour
if_colour_text v own = some_if IsText (is_some (colour_of v)) (Some v) None own tt

colour_text : (v : List ℕ) → IsText v → IsValue (colour_value v)
unfolding colour_value
colour_text v own = some_or IsText (if_colour v) (if_colour (35 ∷ v)) (if_colour_text v own) (if_colour_text (35 ∷ v) own)

taken_text : (c : Command) (v : List ℕ) → IsText v → IsValue (value_taken c v)
taken_text command.Bold v own = tt
taken_text command.Italic v own = tt
taken_text command.Underline v own = tt
taken_text command.Strikethrough v own = tt
taken_text command.Subscript v own = tt
taken_text command.Superscript v own = tt
taken_text command.CreateLink v own = tt
taken_text command.Unlink v own = tt
taken_text command.FontName v own = own
taken_text command.FontSize v own = size_text v
taken_text command.ForeColor v own = colour_text v own
taken_text command.BackColor v own = colour_text v own
taken_text command.HiliteColor v own = colour_text v own
taken_text command.RemoveFormat v own = tt
taken_text command.FormatBlock v own = tt
taken_text command.JustifyLeft v own = tt
taken_text command.JustifyCenter v own = tt
taken_text command.JustifyRight v own = tt
taken_text command.JustifyFull v own = tt
taken_text command.Indent v own = tt
taken_text command.Outdent v own = tt
taken_text command.Delete v own = tt
taken_text command.InsertText v own = tt
taken_text command.InsertParagraph v own = tt
taken_text command.StyleWithCss v own = tt
taken_text command.UseCss v own = tt
taken_text command.DefaultParagraphSeparator v own = tt
taken_text command.InsertOrderedList v own = tt
taken_text command.InsertUnorderedList v own = tt
taken_text command.InsertLineBreak v own = tt
taken_text command.InsertHorizontalRule v own = tt
taken_text command.InsertImage v own = tt

-- ---- styles and scripts

proper_toggled : (c : Command) (on : List ℕ) → IsText on → Proper (set_toggled c on)
unfolding set_toggled
proper_toggled c on own =
    proper_look _ (λ s p. proper_bind (set_value c (toggled c on (state_of s s.host c))) _ (proper_set_value c (toggled c on (state_of s s.host c)) (toggled_text c on (state_of s s.host c) own)) (λ _. proper_answer true))

pub proper_toggle_style : (c : Command) → Proper (toggle_style c)
unfolding toggle_style
proper_toggle_style c = proper_some IsText (style_on c) (answer false) (set_toggled c) (on_text c) (proper_answer false) (proper_toggled c)

proper_unless_on : (state : Bool) (c : Command) (on : List ℕ) → IsText on → Proper (set_unless state c on)
unfolding set_unless
proper_unless_on state c on own = proper_if state done (set_value c (Some on)) (proper_answer tt) (proper_set_value c (Some on) own)

proper_set_script : (c : Command) (on : List ℕ) → IsText on → Proper (set_script c on)
unfolding set_script
proper_set_script c on own =
    proper_look _ (λ s p. proper_bind (set_value c None) _ (proper_set_value c None tt) (λ _. proper_bind (set_unless (state_of s s.host c) c on) _ (proper_unless_on (state_of s s.host c) c on own) (λ _. proper_answer true)))

pub proper_toggle_script : (c : Command) → Proper (toggle_script c)
unfolding toggle_script
proper_toggle_script c = proper_some IsText (script_on c) (answer false) (set_script c) (script_text c) (proper_answer false) (proper_set_script c)

-- ---- commands that take a value

proper_taken : (c : Command) (v : List ℕ) → IsText v → Proper (set_taken c v)
unfolding set_taken
proper_taken c v own = proper_bind (set_value c (Some v)) _ (proper_set_value c (Some v) own) (λ _. proper_answer true)

proper_take : (c : Command) (taken : Option (List ℕ)) → IsValue taken → Proper (take c taken)
unfolding take
proper_take c taken own = proper_some IsText taken (answer false) (set_taken c) own (proper_answer false) (proper_taken c)

pub proper_apply_value : (c : Command) (v : List ℕ) → IsText v → Proper (apply_value c v)
unfolding apply_value
proper_apply_value c v own = proper_take c (value_taken c v) (taken_text c v own)
