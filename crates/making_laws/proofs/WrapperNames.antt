-- The element that is made to give a value has a name that commands make, and attributes that they set.
use Rattle.std.proofs.Common.{◌≡◌, ℕ, Bool, true, false, ◌||◌, if◌then◌else◌, List, Option, Some, None, IfSome, refl}
use Rattle.std.specs.Prelude.{codes, bytes_eq, unwrap_or, not, ◌==◌}
use Rattle.std.specs.Option.{option_and_then}
use Rattle.edit_model.specs.DomModel.declared.attributes.Attribute.{Attribute}
use Rattle.inline_value.specs.CssValue.declared.colours.Colour.{Colour}
use Rattle.inline_value.specs.CssValue.Colours.{colour_of}
use Rattle.edit_model.specs.HtmlNames.declared.commands.Command.{Command}
use Rattle.inline_value.specs.WrapSplit.declared.rule.Blank.{Blank}
use Rattle.inline_value.specs.Wrappers.{bare, with_attribute, hex_text, size_of_keyword, font_of_size, size_font, script_element, colour_font_of, colour_font, presentational, unless_css, chosen, wrapper_for}
use Rattle.making_laws.specs.Names.{made_names, set_names, is_made_name, is_set_name}
use Rattle.making_laws.proofs.TameRuns.{AreSet}
use Rattle.edit_model.specs.HtmlNames.declared.commands.Command.TheVariants as command

pub record IsListed (b : Blank) : Type 0 where
  pub named : is_made_name b.name ≡ true
  pub sets : AreSet b.attributes

listed : {name : List ℕ} {attributes : List Attribute} → is_made_name name ≡ true → AreSet attributes → IfSome (Some (record { name = name; attributes = attributes })) IsListed
listed named sets = record { named = named; sets = sets }

listed_named : (v : Bool) (name : List ℕ) → is_made_name name ≡ true → IfSome (if v then Some (bare name) else None) IsListed
listed_named true name named = listed named tt
listed_named false name named = tt

listed_colour : (o : Option Colour) → IfSome (colour_font_of o) IsListed
unfolding is_made_name made_names is_set_name set_names
listed_colour None = tt
listed_colour (Some c) = by_clear c.clear
  where
    by_clear : (v : Bool) → IfSome (if v then None else Some (with_attribute (codes "font") (codes "color") (hex_text c))) IsListed
    by_clear true = tt
    by_clear false = listed refl (refl, tt)

listed_size : (css : Bool) (o : Option ℕ) → IfSome (option_and_then (λ n. if not css || (n == 7) then Some (font_of_size n) else None) o) IsListed
unfolding is_made_name made_names is_set_name set_names
listed_size css None = tt
listed_size css (Some n) = by_test (not css || (n == 7))
  where
    by_test : (v : Bool) → IfSome (if v then Some (font_of_size n) else None) IsListed
    by_test true = listed refl (refl, tt)
    by_test false = tt

listed_script : (v w : Bool) → IfSome (if v then Some (bare (codes "sub")) else (if w then Some (bare (codes "sup")) else None)) IsListed
unfolding is_made_name made_names
listed_script true w = listed refl tt
listed_script false true = listed refl tt
listed_script false false = tt

listed_presentational : (c : Command) (v : List ℕ) → IfSome (presentational c v) IsListed
unfolding colour_font is_made_name made_names is_set_name set_names
listed_presentational command.Bold v = listed_named (bytes_eq (codes "bold") v) (codes "b") refl
listed_presentational command.Italic v = listed_named (bytes_eq (codes "italic") v) (codes "i") refl
listed_presentational command.Underline v = listed_named (bytes_eq (codes "underline") v) (codes "u") refl
listed_presentational command.Strikethrough v = listed_named (bytes_eq (codes "line-through") v) (codes "s") refl
listed_presentational command.Subscript v = tt
listed_presentational command.Superscript v = tt
listed_presentational command.CreateLink v = tt
listed_presentational command.Unlink v = tt
listed_presentational command.FontName v = listed refl (refl, tt)
listed_presentational command.FontSize v = tt
listed_presentational command.ForeColor v = listed_colour (colour_of v)
listed_presentational command.BackColor v = tt
listed_presentational command.HiliteColor v = tt
listed_presentational command.RemoveFormat v = tt
listed_presentational command.FormatBlock v = tt
listed_presentational command.JustifyLeft v = tt
listed_presentational command.JustifyCenter v = tt
listed_presentational command.JustifyRight v = tt
listed_presentational command.JustifyFull v = tt
listed_presentational command.Indent v = tt
listed_presentational command.Outdent v = tt
listed_presentational command.Delete v = tt
listed_presentational command.InsertText v = tt
listed_presentational command.InsertParagraph v = tt
listed_presentational command.StyleWithCss v = tt
listed_presentational command.UseCss v = tt
listed_presentational command.DefaultParagraphSeparator v = tt
listed_presentational command.InsertOrderedList v = tt
listed_presentational command.InsertUnorderedList v = tt
listed_presentational command.InsertLineBreak v = tt
listed_presentational command.InsertHorizontalRule v = tt
listed_presentational command.InsertImage v = tt

listed_unless : (css : Bool) (c : Command) (v : List ℕ) → IfSome (unless_css css c v) IsListed
listed_unless true c v = tt
listed_unless false c v = listed_presentational c v

listed_chosen : (css : Bool) (c : Command) (v : List ℕ) → IfSome (chosen css c v) IsListed
unfolding size_font script_element is_made_name made_names is_set_name set_names
listed_chosen css command.Bold v = listed_unless css command.Bold v
listed_chosen css command.Italic v = listed_unless css command.Italic v
listed_chosen css command.Underline v = listed_unless css command.Underline v
listed_chosen css command.Strikethrough v = listed_unless css command.Strikethrough v
listed_chosen css command.Subscript v = listed_script (bytes_eq (codes "subscript") v) (bytes_eq (codes "superscript") v)
listed_chosen css command.Superscript v = listed_script (bytes_eq (codes "subscript") v) (bytes_eq (codes "superscript") v)
listed_chosen css command.CreateLink v = listed refl (refl, tt)
listed_chosen css command.Unlink v = listed refl (refl, tt)
listed_chosen css command.FontName v = listed_unless css command.FontName v
listed_chosen css command.FontSize v = listed_size css (size_of_keyword v)
listed_chosen css command.ForeColor v = listed_unless css command.ForeColor v
listed_chosen css command.BackColor v = listed_unless css command.BackColor v
listed_chosen css command.HiliteColor v = listed_unless css command.HiliteColor v
listed_chosen css command.RemoveFormat v = listed_unless css command.RemoveFormat v
listed_chosen css command.FormatBlock v = listed_unless css command.FormatBlock v
listed_chosen css command.JustifyLeft v = listed_unless css command.JustifyLeft v
listed_chosen css command.JustifyCenter v = listed_unless css command.JustifyCenter v
listed_chosen css command.JustifyRight v = listed_unless css command.JustifyRight v
listed_chosen css command.JustifyFull v = listed_unless css command.JustifyFull v
listed_chosen css command.Indent v = listed_unless css command.Indent v
listed_chosen css command.Outdent v = listed_unless css command.Outdent v
listed_chosen css command.Delete v = listed_unless css command.Delete v
listed_chosen css command.InsertText v = listed_unless css command.InsertText v
listed_chosen css command.InsertParagraph v = listed_unless css command.InsertParagraph v
listed_chosen css command.StyleWithCss v = listed_unless css command.StyleWithCss v
listed_chosen css command.UseCss v = listed_unless css command.UseCss v
listed_chosen css command.DefaultParagraphSeparator v = listed_unless css command.DefaultParagraphSeparator v
listed_chosen css command.InsertOrderedList v = listed_unless css command.InsertOrderedList v
listed_chosen css command.InsertUnorderedList v = listed_unless css command.InsertUnorderedList v
listed_chosen css command.InsertLineBreak v = listed_unless css command.InsertLineBreak v
listed_chosen css command.InsertHorizontalRule v = listed_unless css command.InsertHorizontalRule v
listed_chosen css command.InsertImage v = listed_unless css command.InsertImage v

listed_or : (o : Option Blank) → IfSome o IsListed → IsListed (unwrap_or o (bare (codes "span")))
unfolding is_made_name made_names
listed_or None h = record { named = refl; sets = tt }
listed_or (Some b) h = h

pub listed_wrapper : (css : Bool) (c : Command) (v : List ℕ) → IsListed (wrapper_for css c v)
unfolding wrapper_for
listed_wrapper css c v = listed_or (chosen css c v) (listed_chosen css c v)
