-- The element that is made to give a value has a name that commands make, and attributes that they set.
use Rattle.std.proofs.Common.{◌≡◌, ℕ, ◌+◌, [], ◌∷◌, Bool, true, false, ◌||◌, if◌then◌else◌, List, Option, Some, None, IfSome, refl}
use Rattle.std.specs.Prelude.{codes, bytes_eq, unwrap_or, not, ◌==◌}
use Rattle.std.specs.Option.{option_and_then}
use Rattle.edit_model.specs.DomModel.declared.attributes.Attribute.{Attribute}
use Rattle.inline_value.specs.CssValue.declared.colours.Colour.{Colour}
use Rattle.inline_value.specs.CssValue.Colours.{colour_of}
use Rattle.edit_model.specs.HtmlNames.declared.commands.Command.{Command}
use Rattle.inline_value.specs.WrapSplit.declared.rule.Blank.{Blank}
use Rattle.inline_value.specs.Wrappers.{bare, with_attribute, hex_text, size_of_keyword, font_of_size, size_font, script_element, colour_font_of, colour_font, presentational, unless_css, chosen, wrapper_for}
use Rattle.making_laws.specs.Names.{made_names, set_names, is_made_name, is_set_name}
use Rattle.grammar_laws.specs.Proper.{IsText, IsList}
use Rattle.grammar_laws.proofs.Lists.{list_none, list_one}
use Rattle.grammar_laws.proofs.Styles.{IsDigit, IsSmall, size_digit, colour_small, hex_printed}
use Rattle.edit_model.specs.HtmlNames.declared.commands.Command.TheVariants as command

pub record IsListed (b : Blank) : Type 0 where
  pub named : is_made_name b.name ≡ true
  pub sets : IsList b.attributes

listed : {name : List ℕ} {attributes : List Attribute} → is_made_name name ≡ true → IsList attributes → IfSome (Some (record { name = name; attributes = attributes })) IsListed
listed named sets = record { named = named; sets = sets }

listed_named : (v : Bool) (name : List ℕ) → is_made_name name ≡ true → IfSome (if v then Some (bare name) else None) IsListed
listed_named true name named = listed named list_none
listed_named false name named = tt

listed_colour : (o : Option Colour) → IfSome o IsSmall → IfSome (colour_font_of o) IsListed
unfolding is_made_name made_names is_set_name set_names
listed_colour None small = tt
listed_colour (Some c) small = by_clear c.clear
  where
    by_clear : (v : Bool) → IfSome (if v then None else Some (with_attribute (codes "font") (codes "color") (hex_text c))) IsListed
    by_clear true = tt
    by_clear false = listed refl (list_one (codes "color") (hex_text c) refl (hex_printed c small))

listed_size : (css : Bool) (o : Option ℕ) → IfSome o IsDigit → IfSome (option_and_then (λ n. if not css || (n == 7) then Some (font_of_size n) else None) o) IsListed
unfolding is_made_name made_names is_set_name set_names
listed_size css None digit = tt
listed_size css (Some n) digit = by_test (not css || (n == 7))
  where
    by_test : (v : Bool) → IfSome (if v then Some (font_of_size n) else None) IsListed
    by_test true = listed refl (list_one (codes "size") ((48 + n) ∷ []) refl digit)
    by_test false = tt

listed_script : (v w : Bool) → IfSome (if v then Some (bare (codes "sub")) else (if w then Some (bare (codes "sup")) else None)) IsListed
unfolding is_made_name made_names
listed_script true w = listed refl list_none
listed_script false true = listed refl list_none
listed_script false false = tt

listed_presentational : (c : Command) (v : List ℕ) → IsText v → IfSome (presentational c v) IsListed
unfolding colour_font is_made_name made_names is_set_name set_names
listed_presentational command.Bold v own = listed_named (bytes_eq (codes "bold") v) (codes "b") refl
listed_presentational command.Italic v own = listed_named (bytes_eq (codes "italic") v) (codes "i") refl
listed_presentational command.Underline v own = listed_named (bytes_eq (codes "underline") v) (codes "u") refl
listed_presentational command.Strikethrough v own = listed_named (bytes_eq (codes "line-through") v) (codes "s") refl
listed_presentational command.Subscript v own = tt
listed_presentational command.Superscript v own = tt
listed_presentational command.CreateLink v own = tt
listed_presentational command.Unlink v own = tt
listed_presentational command.FontName v own = listed refl (list_one (codes "face") v refl own)
listed_presentational command.FontSize v own = tt
listed_presentational command.ForeColor v own = listed_colour (colour_of v) (colour_small v)
listed_presentational command.BackColor v own = tt
listed_presentational command.HiliteColor v own = tt
listed_presentational command.RemoveFormat v own = tt
listed_presentational command.FormatBlock v own = tt
listed_presentational command.JustifyLeft v own = tt
listed_presentational command.JustifyCenter v own = tt
listed_presentational command.JustifyRight v own = tt
listed_presentational command.JustifyFull v own = tt
listed_presentational command.Indent v own = tt
listed_presentational command.Outdent v own = tt
listed_presentational command.Delete v own = tt
listed_presentational command.InsertText v own = tt
listed_presentational command.InsertParagraph v own = tt
listed_presentational command.StyleWithCss v own = tt
listed_presentational command.UseCss v own = tt
listed_presentational command.DefaultParagraphSeparator v own = tt
listed_presentational command.InsertOrderedList v own = tt
listed_presentational command.InsertUnorderedList v own = tt
listed_presentational command.InsertLineBreak v own = tt
listed_presentational command.InsertHorizontalRule v own = tt
listed_presentational command.InsertImage v own = tt

listed_unless : (css : Bool) (c : Command) (v : List ℕ) → IsText v → IfSome (unless_css css c v) IsListed
listed_unless true c v own = tt
listed_unless false c v own = listed_presentational c v own

listed_chosen : (css : Bool) (c : Command) (v : List ℕ) → IsText v → IfSome (chosen css c v) IsListed
unfolding size_font script_element is_made_name made_names is_set_name set_names
listed_chosen css command.Bold v own = listed_unless css command.Bold v own
listed_chosen css command.Italic v own = listed_unless css command.Italic v own
listed_chosen css command.Underline v own = listed_unless css command.Underline v own
listed_chosen css command.Strikethrough v own = listed_unless css command.Strikethrough v own
listed_chosen css command.Subscript v own = listed_script (bytes_eq (codes "subscript") v) (bytes_eq (codes "superscript") v)
listed_chosen css command.Superscript v own = listed_script (bytes_eq (codes "subscript") v) (bytes_eq (codes "superscript") v)
listed_chosen css command.CreateLink v own = listed refl (list_one (codes "href") v refl own)
listed_chosen css command.Unlink v own = listed refl (list_one (codes "href") v refl own)
listed_chosen css command.FontName v own = listed_unless css command.FontName v own
listed_chosen css command.FontSize v own = listed_size css (size_of_keyword v) (size_digit v)
listed_chosen css command.ForeColor v own = listed_unless css command.ForeColor v own
listed_chosen css command.BackColor v own = listed_unless css command.BackColor v own
listed_chosen css command.HiliteColor v own = listed_unless css command.HiliteColor v own
listed_chosen css command.RemoveFormat v own = listed_unless css command.RemoveFormat v own
listed_chosen css command.FormatBlock v own = listed_unless css command.FormatBlock v own
listed_chosen css command.JustifyLeft v own = listed_unless css command.JustifyLeft v own
listed_chosen css command.JustifyCenter v own = listed_unless css command.JustifyCenter v own
listed_chosen css command.JustifyRight v own = listed_unless css command.JustifyRight v own
listed_chosen css command.JustifyFull v own = listed_unless css command.JustifyFull v own
listed_chosen css command.Indent v own = listed_unless css command.Indent v own
listed_chosen css command.Outdent v own = listed_unless css command.Outdent v own
listed_chosen css command.Delete v own = listed_unless css command.Delete v own
listed_chosen css command.InsertText v own = listed_unless css command.InsertText v own
listed_chosen css command.InsertParagraph v own = listed_unless css command.InsertParagraph v own
listed_chosen css command.StyleWithCss v own = listed_unless css command.StyleWithCss v own
listed_chosen css command.UseCss v own = listed_unless css command.UseCss v own
listed_chosen css command.DefaultParagraphSeparator v own = listed_unless css command.DefaultParagraphSeparator v own
listed_chosen css command.InsertOrderedList v own = listed_unless css command.InsertOrderedList v own
listed_chosen css command.InsertUnorderedList v own = listed_unless css command.InsertUnorderedList v own
listed_chosen css command.InsertLineBreak v own = listed_unless css command.InsertLineBreak v own
listed_chosen css command.InsertHorizontalRule v own = listed_unless css command.InsertHorizontalRule v own
listed_chosen css command.InsertImage v own = listed_unless css command.InsertImage v own

listed_or : (o : Option Blank) → IfSome o IsListed → IsListed (unwrap_or o (bare (codes "span")))
unfolding is_made_name made_names
listed_or None h = record { named = refl; sets = list_none }
listed_or (Some b) h = h

pub listed_wrapper : (css : Bool) (c : Command) (v : List ℕ) → IsText v → IsListed (wrapper_for css c v)
unfolding wrapper_for
listed_wrapper css c v own = listed_or (chosen css c v) (listed_chosen css c v own)
