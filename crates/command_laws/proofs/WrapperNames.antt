-- The element that is made to give a value is no image and no rule, and has no state of contenteditable.
use Rattle.std.proofs.Common.{◌≡◌, ℕ, Bool, true, false, ◌||◌, if◌then◌else◌, List, [], Option, Some, None, IfSome, refl}
use Rattle.std.specs.Prelude.{codes, bytes_eq, unwrap_or, not, ◌==◌}
use Rattle.std.specs.Option.{option_and_then}
use Rattle.edit_model.specs.DomModel.declared.Content.TheVariants.{Element}
use Rattle.edit_model.specs.DomModel.declared.attributes.Attribute.{Attribute}
use Rattle.edit_model.specs.DomModel.Editing.{is_true_state, is_false_state}
use Rattle.inline_value.specs.CssValue.declared.colours.Colour.{Colour}
use Rattle.inline_value.specs.CssValue.Colours.{colour_of}
use Rattle.edit_model.specs.HtmlNames.declared.commands.Command.{Command}
use Rattle.edit_model.specs.HtmlNames.declared.commands.Command.TheVariants as command
use Rattle.edit_model.specs.Kept.{is_thing}
use Rattle.inline_value.specs.WrapSplit.declared.rule.Blank.{Blank}
use Rattle.inline_value.specs.Wrappers.{bare, with_attribute, hex_text, size_of_keyword, font_of_size, size_font, script_element, colour_font_of, colour_font, presentational, unless_css, chosen, wrapper_for}

pub record IsPlain (b : Blank) : Type 0 where
  pub named : is_thing b.name ≡ false
  pub steady : (is_true_state (Element b.name b.attributes) || is_false_state (Element b.name b.attributes)) ≡ false

plain : {name : List ℕ} {attributes : List Attribute} → is_thing name ≡ false → (is_true_state (Element name attributes) || is_false_state (Element name attributes)) ≡ false → IfSome (Some (record { name = name; attributes = attributes })) IsPlain
plain named steady = record { named = named; steady = steady }

plain_named : (v : Bool) (name : List ℕ) → is_thing name ≡ false → (is_true_state (Element name []) || is_false_state (Element name [])) ≡ false → IfSome (if v then Some (bare name) else None) IsPlain
plain_named true name named steady = record { named = named; steady = steady }
plain_named false name named steady = tt

plain_colour : (o : Option Colour) → IfSome (colour_font_of o) IsPlain
plain_colour None = tt
plain_colour (Some c) = by_clear c.clear
  where
    by_clear : (v : Bool) → IfSome (if v then None else Some (with_attribute (codes "font") (codes "color") (hex_text c))) IsPlain
    by_clear true = tt
    by_clear false = plain refl refl

plain_size : (css : Bool) (o : Option ℕ) → IfSome (option_and_then (λ n. if not css || (n == 7) then Some (font_of_size n) else None) o) IsPlain
plain_size css None = tt
plain_size css (Some n) = by_test (not css || (n == 7))
  where
    by_test : (v : Bool) → IfSome (if v then Some (font_of_size n) else None) IsPlain
    by_test true = plain refl refl
    by_test false = tt

plain_script : (v w : Bool) → IfSome (if v then Some (bare (codes "sub")) else (if w then Some (bare (codes "sup")) else None)) IsPlain
plain_script true w = plain refl refl
plain_script false true = plain refl refl
plain_script false false = tt

plain_presentational : (c : Command) (v : List ℕ) → IfSome (presentational c v) IsPlain
unfolding colour_font
plain_presentational command.Bold v = plain_named (bytes_eq (codes "bold") v) (codes "b") refl refl
plain_presentational command.Italic v = plain_named (bytes_eq (codes "italic") v) (codes "i") refl refl
plain_presentational command.Underline v = plain_named (bytes_eq (codes "underline") v) (codes "u") refl refl
plain_presentational command.Strikethrough v = plain_named (bytes_eq (codes "line-through") v) (codes "s") refl refl
plain_presentational command.Subscript v = tt
plain_presentational command.Superscript v = tt
plain_presentational command.CreateLink v = tt
plain_presentational command.Unlink v = tt
plain_presentational command.FontName v = plain refl refl
plain_presentational command.FontSize v = tt
plain_presentational command.ForeColor v = plain_colour (colour_of v)
plain_presentational command.BackColor v = tt
plain_presentational command.HiliteColor v = tt
plain_presentational command.RemoveFormat v = tt
plain_presentational command.FormatBlock v = tt
plain_presentational command.JustifyLeft v = tt
plain_presentational command.JustifyCenter v = tt
plain_presentational command.JustifyRight v = tt
plain_presentational command.JustifyFull v = tt
plain_presentational command.Indent v = tt
plain_presentational command.Outdent v = tt
plain_presentational command.Delete v = tt
plain_presentational command.InsertText v = tt
plain_presentational command.InsertParagraph v = tt
plain_presentational command.StyleWithCss v = tt
plain_presentational command.UseCss v = tt
plain_presentational command.DefaultParagraphSeparator v = tt
plain_presentational command.InsertOrderedList v = tt
plain_presentational command.InsertUnorderedList v = tt
plain_presentational command.InsertLineBreak v = tt
plain_presentational command.InsertHorizontalRule v = tt
plain_presentational command.InsertImage v = tt

plain_unless : (css : Bool) (c : Command) (v : List ℕ) → IfSome (unless_css css c v) IsPlain
plain_unless true c v = tt
plain_unless false c v = plain_presentational c v

plain_chosen : (css : Bool) (c : Command) (v : List ℕ) → IfSome (chosen css c v) IsPlain
unfolding size_font script_element
plain_chosen css command.Bold v = plain_unless css command.Bold v
plain_chosen css command.Italic v = plain_unless css command.Italic v
plain_chosen css command.Underline v = plain_unless css command.Underline v
plain_chosen css command.Strikethrough v = plain_unless css command.Strikethrough v
plain_chosen css command.Subscript v = plain_script (bytes_eq (codes "subscript") v) (bytes_eq (codes "superscript") v)
plain_chosen css command.Superscript v = plain_script (bytes_eq (codes "subscript") v) (bytes_eq (codes "superscript") v)
plain_chosen css command.CreateLink v = plain refl refl
plain_chosen css command.Unlink v = plain refl refl
plain_chosen css command.FontName v = plain_unless css command.FontName v
plain_chosen css command.FontSize v = plain_size css (size_of_keyword v)
plain_chosen css command.ForeColor v = plain_unless css command.ForeColor v
plain_chosen css command.BackColor v = plain_unless css command.BackColor v
plain_chosen css command.HiliteColor v = plain_unless css command.HiliteColor v
plain_chosen css command.RemoveFormat v = plain_unless css command.RemoveFormat v
plain_chosen css command.FormatBlock v = plain_unless css command.FormatBlock v
plain_chosen css command.JustifyLeft v = plain_unless css command.JustifyLeft v
plain_chosen css command.JustifyCenter v = plain_unless css command.JustifyCenter v
plain_chosen css command.JustifyRight v = plain_unless css command.JustifyRight v
plain_chosen css command.JustifyFull v = plain_unless css command.JustifyFull v
plain_chosen css command.Indent v = plain_unless css command.Indent v
plain_chosen css command.Outdent v = plain_unless css command.Outdent v
plain_chosen css command.Delete v = plain_unless css command.Delete v
plain_chosen css command.InsertText v = plain_unless css command.InsertText v
plain_chosen css command.InsertParagraph v = plain_unless css command.InsertParagraph v
plain_chosen css command.StyleWithCss v = plain_unless css command.StyleWithCss v
plain_chosen css command.UseCss v = plain_unless css command.UseCss v
plain_chosen css command.DefaultParagraphSeparator v = plain_unless css command.DefaultParagraphSeparator v
plain_chosen css command.InsertOrderedList v = plain_unless css command.InsertOrderedList v
plain_chosen css command.InsertUnorderedList v = plain_unless css command.InsertUnorderedList v
plain_chosen css command.InsertLineBreak v = plain_unless css command.InsertLineBreak v
plain_chosen css command.InsertHorizontalRule v = plain_unless css command.InsertHorizontalRule v
plain_chosen css command.InsertImage v = plain_unless css command.InsertImage v

plain_or : (o : Option Blank) → IfSome o IsPlain → IsPlain (unwrap_or o (bare (codes "span")))
plain_or None h = record { named = refl; steady = refl }
plain_or (Some b) h = h

pub plain_wrapper : (css : Bool) (c : Command) (v : List ℕ) → IsPlain (wrapper_for css c v)
unfolding wrapper_for
plain_wrapper css c v = plain_or (chosen css c v) (plain_chosen css c v)
