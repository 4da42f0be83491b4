-- The values that an element itself gives inline commands (HTML Editing APIs, "specified command
-- value"). A value is a text or null.
use Rattle.std.specs.Prelude.{ℕ, Bool, true, false, if◌then◌else◌, List, [], ◌∷◌, Option, Some, None, is_some, codes}
use Rattle.std.specs.Option.{option_map, option_map_or, option_and_then, option_or}
use Rattle.node_styles.specs.DomModel.declared.Content.{Content}
use Rattle.node_styles.specs.DomModel.Contents.{is_element, name_in}
use Rattle.node_styles.specs.DomModel.Forest.{Forest, content_of}
use Rattle.node_styles.specs.CssValue.declared.decoration.DecorationLine.{DecorationLine}
use Rattle.node_styles.specs.CssValue.declared.decoration.DecorationLine.TheVariants.{Underline, LineThrough}
use Rattle.node_styles.specs.CssValue.declared.values.Display.{Display}
use Rattle.node_styles.specs.CssValue.declared.values.Display.TheVariants as display
use Rattle.node_styles.specs.CssValue.Colours.{colour_of}
use Rattle.node_styles.specs.CssValue.SizeKeywords.{size_keyword}
use Rattle.node_styles.specs.CssValue.TextDecoration.{line_word, has_line}
use Rattle.node_styles.specs.CssValue.Values.{font_weight_of, font_style_of, font_size_of}
use Rattle.node_styles.specs.HtmlNames.declared.commands.Command.{Command}
use Rattle.node_styles.specs.HtmlNames.ElementNames.{is_one_of}
use Rattle.node_styles.specs.Blocks.{own_or_inline}
use Rattle.node_styles.specs.LegacySizes.{legacy_size_of}
use Rattle.node_styles.specs.OwnStyles.{attribute, is_named, declared, family_of, font_attribute, family_hint}
use Rattle.command_value.specs.Subjects.{subject}
use Rattle.command_value.specs.declared.subject.Subject.{Subject}
use Rattle.command_value.specs.declared.subject.Subject.TheVariants.{Link, Background, Script, Line, Weight, Slant, Family, Size, Foreground, Nothing}

-- the text, where it can be read
abbrev pub if_read : {V : Type 0} → (List ℕ → Option V) → Option (List ℕ) → Option (List ℕ)
if_read read None = None
if_read read (Some text) = if is_some (read text) then Some text else None

abbrev pub is_named_in : List (List ℕ) → Content → Bool
is_named_in names c = option_map_or (is_one_of names) (name_in c) false

abbrev pub is_inline_display : Display → Bool
is_inline_display display.Inline = true
is_inline_display _ = false

abbrev pub link_of : Content → Option (List ℕ)
link_of c = if is_named (codes "a") c then attribute c (codes "href") else None

-- an inline element alone gives a background
abbrev pub background_of : Content → Option (List ℕ)
background_of c =
    if is_inline_display (own_or_inline c) then
    if_read colour_of (declared c (codes "background-color")) else None

abbrev pub script_of : Content → Option (List ℕ)
script_of c =
    if is_named (codes "sub") c then Some (codes "subscript")
    else (if is_named (codes "sup") c then Some (codes "superscript")
    else None)

abbrev pub is_line_element : DecorationLine → Content → Bool
is_line_element LineThrough c = is_named_in (codes "s" ∷ codes "strike" ∷ []) c
is_line_element Underline c = is_named (codes "u") c
is_line_element _ c = false

-- a style that sets text-decoration decides, whether its value is valid or not
abbrev pub gives_line : DecorationLine → Content → Option (List ℕ) → Bool
gives_line line c (Some text) = has_line text line
gives_line line c None = is_line_element line c

abbrev pub line_of : DecorationLine → Content → Option (List ℕ)
line_of line c =
    if gives_line line c (declared c (codes "text-decoration")) then Some (line_word line) else None

-- the valid value of the style, as it is written, else what the name stands for
abbrev pub weight_of : Content → Option (List ℕ)
weight_of c =
    option_or (if_read font_weight_of (declared c (codes "font-weight")))
    (if is_named_in (codes "b" ∷ codes "strong" ∷ []) c then Some (codes "bold") else None)

abbrev pub slant_of : Content → Option (List ℕ)
slant_of c =
    option_or (if_read font_style_of (declared c (codes "font-style")))
    (if is_named_in (codes "i" ∷ codes "em" ∷ []) c then Some (codes "italic") else None)

-- the valid value of the style, as it is written, else the hint of a font
abbrev pub family_in : Content → Option (List ℕ)
family_in c =
    option_or (option_and_then family_of (declared c (codes "font-family"))) (family_hint c)

abbrev pub hinted_size : Content → Option (List ℕ)
hinted_size c =
    option_map size_keyword (option_and_then legacy_size_of (font_attribute c (codes "size")))

abbrev pub size_of : Content → Option (List ℕ)
size_of c = option_or (if_read font_size_of (declared c (codes "font-size"))) (hinted_size c)

abbrev pub foreground_of : Content → Option (List ℕ)
foreground_of c =
    option_or (if_read colour_of (declared c (codes "color")))
    (if_read colour_of (font_attribute c (codes "color")))

abbrev pub given_by : Subject → Content → Option (List ℕ)
given_by Link c = link_of c
given_by Background c = background_of c
given_by Script c = script_of c
given_by (Line line) c = line_of line c
given_by Weight c = weight_of c
given_by Slant c = slant_of c
given_by Family c = family_in c
given_by Size c = size_of c
given_by Foreground c = foreground_of c
given_by Nothing c = None

-- of an element; null of all else
unfoldable pub specified_in : Content → Command → Option (List ℕ)
specified_in c command = if is_element c then given_by (subject command) c else None

unfoldable pub specified : Forest Content → ℕ → Command → Option (List ℕ)
specified f l command = option_and_then (λ c. specified_in c command) (content_of f l)
