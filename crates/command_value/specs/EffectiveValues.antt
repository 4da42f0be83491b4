-- The values that inline commands have at a node (HTML Editing APIs, "effective command value"). A
-- value is a text or null.
use Rattle.std.specs.Prelude.{ℕ, zero, suc, Bool, true, false, ◌&&◌, if◌then◌else◌, List, [], ◌∷◌, Option, Some, None, is_some, codes, decimal}
use Rattle.std.specs.List.{list_any}
use Rattle.std.specs.Option.{option_map_or, option_and_then}
use Rattle.node_styles.specs.DomModel.declared.Content.{Content}
use Rattle.node_styles.specs.DomModel.Contents.{is_element_at}
use Rattle.node_styles.specs.DomModel.Forest.{Forest, parent_of}
use Rattle.node_styles.specs.CssValue.declared.colours.Colour.{Colour}
use Rattle.node_styles.specs.CssValue.declared.decoration.DecorationLine.{DecorationLine}
use Rattle.node_styles.specs.CssValue.declared.decoration.DecorationLine.TheVariants.{Underline, LineThrough}
use Rattle.node_styles.specs.CssValue.declared.decoration.TextDecoration.{TextDecoration}
use Rattle.node_styles.specs.CssValue.Colours.{colour_text}
use Rattle.node_styles.specs.CssValue.TextDecoration.{line_word}
use Rattle.node_styles.specs.CssValue.Values.{font_style_keyword, pixels_text}
use Rattle.node_styles.specs.HtmlNames.declared.commands.Command.{Command}
use Rattle.node_styles.specs.HtmlNames.ActivatedValues.{activated_values}
use Rattle.node_styles.specs.HtmlNames.ElementNames.{is_one_of}
use Rattle.node_styles.specs.Blocks.{is_block_content}
use Rattle.node_styles.specs.Lineage.{Ancestor, lineage, nearest, has_in_lineage}
use Rattle.node_styles.specs.OwnStyles.{attribute, is_named, own_text_decoration}
use Rattle.node_styles.specs.Resolved.{font_weight, font_style, font_family, font_size, color, background_color}
use Rattle.node_styles.specs.TurnBound.{turn_bound}
use Rattle.command_value.specs.Subjects.{subject}
use Rattle.command_value.specs.declared.subject.Subject.{Subject}
use Rattle.command_value.specs.declared.subject.Subject.TheVariants.{Link, Background, Script, Line, Weight, Slant, Family, Size, Foreground, Nothing}

-- ---- of an element

abbrev pub is_link : Content → Bool
is_link c = is_named (codes "a") c && is_some (attribute c (codes "href"))

-- the href of the nearest a that has one, the element itself or an ancestor
unfoldable pub link_at : Forest Content → ℕ → Option (List ℕ)
link_at f n = option_and_then (λ k. attribute k.content (codes "href")) (nearest is_link f n)

abbrev pub if_element : Forest Content → Option ℕ → Option ℕ
if_element f None = None
if_element f (Some l) = if is_element_at f l then Some l else None

-- the parent, where that is an element
abbrev pub element_above : Forest Content → ℕ → Option ℕ
element_above f l = if_element f (parent_of f l)

-- the background color of the nearest that has one, as far as the ancestors are elements and the
-- turns last
abbrev pub background_at : ℕ → Forest Content → ℕ → Colour
background_at zero f n = background_color f n
background_at (suc turns) f n = if (background_color f n).clear
    then option_map_or (background_at turns f) (element_above f n) (background_color f n)
    else background_color f n

-- a node and its ancestors as long as they are inline
abbrev pub inline_part : List Ancestor → List Ancestor
inline_part [] = []
inline_part (k ∷ line) = if is_block_content k.content then [] else k ∷ inline_part line

abbrev pub script_by : Bool → Bool → Option (List ℕ)
script_by true true = Some (codes "mixed")
script_by true false = Some (codes "subscript")
script_by false true = Some (codes "superscript")
script_by false false = None

-- whether a sub and whether a sup stands among the inline ones
unfoldable pub script_at : Forest Content → ℕ → Option (List ℕ)
script_at f n =
    script_by (list_any (λ k. is_named (codes "sub") k.content) (inline_part (lineage f n)))
    (list_any (λ k. is_named (codes "sup") k.content) (inline_part (lineage f n)))

abbrev pub has_word : DecorationLine → TextDecoration → Bool
has_word Underline d = d.underline
has_word LineThrough d = d.line_through
has_word _ d = d.overline

abbrev pub draws : DecorationLine → Content → Bool
draws drawn c = option_map_or (has_word drawn) (own_text_decoration c) false

-- a line that the element or an ancestor draws
unfoldable pub line_at : DecorationLine → Forest Content → ℕ → Option (List ℕ)
line_at drawn f n = if has_in_lineage (draws drawn) f n then Some (line_word drawn) else None

abbrev pub value_at : Forest Content → ℕ → Subject → Option (List ℕ)
value_at f n Link = link_at f n
value_at f n Background = Some (colour_text (background_at (turn_bound f) f n))
value_at f n Script = script_at f n
value_at f n (Line drawn) = line_at drawn f n
value_at f n Weight = Some (decimal (font_weight f n))
value_at f n Slant = Some (font_style_keyword (font_style f n))
value_at f n Family = Some (font_family f n)
value_at f n Size = Some (pixels_text (font_size f n))
value_at f n Foreground = Some (colour_text (color f n))
value_at f n Nothing = None

-- ---- of any node

-- the node where it is an element, else its parent where that is one
unfoldable pub element_of : Forest Content → ℕ → Option ℕ
element_of f l = if is_element_at f l then Some l else element_above f l

-- null of what is no element and stands in none
unfoldable pub effective : Forest Content → ℕ → Command → Option (List ℕ)
effective f l command = option_and_then (λ n. value_at f n (subject command)) (element_of f l)

-- the command counts as on
unfoldable pub is_activated : Forest Content → ℕ → Command → Bool
is_activated f l command =
    option_map_or (is_one_of (activated_values command)) (effective f l command) false
