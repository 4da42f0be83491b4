-- Elements that an inline command may change or take away (HTML Editing APIs, "modifiable element",
-- "simple modifiable element"), and those that already give a value.
use Rattle.std.specs.Prelude.{ℕ, Bool, false, not, ◌&&◌, ◌||◌, List, [], ◌∷◌, Option, Some, is_some, bytes_eq, codes}
use Rattle.std.specs.List.{list_all}
use Rattle.std.specs.Option.{option_map_or}
use Rattle.node_styles.specs.DomModel.declared.Content.{Content}
use Rattle.node_styles.specs.DomModel.declared.attributes.Attribute.{Attribute}
use Rattle.node_styles.specs.DomModel.Contents.{attributes_in}
use Rattle.node_styles.specs.DomModel.Forest.{Forest, content_of}
use Rattle.node_styles.specs.CssValue.declared.only.Only.{Only}
use Rattle.node_styles.specs.CssValue.declared.only.Only.TheVariants as only
use Rattle.node_styles.specs.CssValue.DeclarationList.{declarations_in, names_of, value_of}
use Rattle.node_styles.specs.CssValue.OnlyGroup.{sets_only}
use Rattle.node_styles.specs.HtmlNames.declared.commands.Command.{Command}
use Rattle.node_styles.specs.HtmlNames.ElementNames.{is_one_of}
use Rattle.node_styles.specs.OwnStyles.{is_named}
use Rattle.command_value.specs.EffectiveValues.{effective}
use Rattle.command_value.specs.Equivalence.{equivalent, alike}
use Rattle.command_value.specs.SpecifiedValues.{is_named_in, specified}

-- a style that sets this and nothing else
abbrev pub is_style_of : Only → Attribute → Bool
is_style_of group a =
    bytes_eq a.name (codes "style") && sets_only group (names_of (declarations_in a.value))

-- ---- simple modifiable elements, by their one attribute

-- an a, b, em, font, i, s, span, strike, strong, sub, sup or u
abbrev pub has_inline_name : Content → Bool
has_inline_name c =
    is_named_in (codes "a" ∷ codes "b" ∷ codes "em" ∷ codes "font" ∷ codes "i" ∷ codes "s"
    ∷ codes "span"
    ∷ codes "strike" ∷ codes "strong" ∷ codes "sub" ∷ codes "sup" ∷ codes "u" ∷ []) c

-- the style sets nothing
abbrev pub is_bare : Content → Attribute → Bool
is_bare c a = has_inline_name c && is_style_of only.Nothing a

abbrev pub is_plain_link : Content → List ℕ → Bool
is_plain_link c name = is_named (codes "a") c && bytes_eq name (codes "href")

abbrev pub is_plain_font : Content → List ℕ → Bool
is_plain_font c name =
    is_named (codes "font") c && is_one_of (codes "color" ∷ codes "face" ∷ codes "size" ∷ []) name

abbrev pub is_styled_bold : Content → Attribute → Bool
is_styled_bold c a =
    is_named_in (codes "b" ∷ codes "strong" ∷ []) c && is_style_of only.FontWeight a

abbrev pub is_styled_italic : Content → Attribute → Bool
is_styled_italic c a = is_named_in (codes "i" ∷ codes "em" ∷ []) c && is_style_of only.FontStyle a

-- one property other than text-decoration
abbrev pub is_styled_span : Content → Attribute → Bool
is_styled_span c a =
    is_named_in (codes "a" ∷ codes "font" ∷ codes "span" ∷ []) c
    && (is_style_of only.AnyOne a && not (is_style_of only.TextDecoration a))

-- the text-decoration is line-through, underline, overline or none
abbrev pub is_line_word : List ℕ → Bool
is_line_word text =
    bytes_eq (codes "line-through") text || bytes_eq (codes "underline") text
    || bytes_eq (codes "overline") text || bytes_eq (codes "none") text

abbrev pub is_one_line : List ℕ → Bool
is_one_line style =
    option_map_or is_line_word (value_of (declarations_in style) (codes "text-decoration")) false

-- text-decoration alone, with one word
abbrev pub is_styled_line : Content → Attribute → Bool
is_styled_line c a =
    is_named_in (codes "a" ∷ codes "font" ∷ codes "s" ∷ codes "span" ∷ codes "strike" ∷ codes "u"
    ∷ []) c
    && (is_style_of only.TextDecoration a && is_one_line a.value)

unfoldable pub is_simple_with : Content → Attribute → Bool
is_simple_with c a =
    is_bare c a
    || is_plain_link c a.name
    || is_plain_font c a.name
    || is_styled_bold c a
    || is_styled_italic c a
    || is_styled_span c a
    || is_styled_line c a

-- an element with at most one attribute
abbrev pub is_simple_in : Content → List Attribute → Bool
is_simple_in c [] = has_inline_name c
is_simple_in c (a ∷ []) = is_simple_with c a
is_simple_in c (a ∷ b ∷ list) = false

unfoldable pub is_simple_modifiable_content : Content → Bool
is_simple_modifiable_content c = option_map_or (is_simple_in c) (attributes_in c) false

unfoldable pub is_simple_modifiable : Forest Content → ℕ → Bool
is_simple_modifiable f l = option_map_or is_simple_modifiable_content (content_of f l) false

-- ---- modifiable elements

-- no attributes but these
abbrev pub has_only : List (List ℕ) → List Attribute → Bool
has_only names list = list_all (λ a. is_one_of names a.name) list

abbrev pub is_modifiable_plain : Content → List Attribute → Bool
is_modifiable_plain c list =
    is_named_in (codes "b" ∷ codes "em" ∷ codes "i" ∷ codes "s" ∷ codes "span" ∷ codes "strike"
    ∷ codes "strong"
    ∷ codes "sub" ∷ codes "sup" ∷ codes "u" ∷ []) c
    && has_only (codes "style" ∷ []) list

abbrev pub is_modifiable_font : Content → List Attribute → Bool
is_modifiable_font c list =
    is_named (codes "font") c
    && has_only (codes "style" ∷ codes "color" ∷ codes "face" ∷ codes "size" ∷ []) list

abbrev pub is_modifiable_link : Content → List Attribute → Bool
is_modifiable_link c list =
    is_named (codes "a") c && has_only (codes "style" ∷ codes "href" ∷ []) list

abbrev pub is_modifiable_in : Content → List Attribute → Bool
is_modifiable_in c list =
    is_modifiable_plain c list || is_modifiable_font c list || is_modifiable_link c list

unfoldable pub is_modifiable_content : Content → Bool
is_modifiable_content c = option_map_or (is_modifiable_in c) (attributes_in c) false

unfoldable pub is_modifiable : Forest Content → ℕ → Bool
is_modifiable f l = option_map_or is_modifiable_content (content_of f l) false

-- ---- elements and a value

-- the element gives the command another value
unfoldable pub specifies_other : Forest Content → ℕ → Command → Option (List ℕ) → Bool
specifies_other f l command value =
    is_some (specified f l command) && not (equivalent command (specified f l command) value)

-- a simple modifiable element that gives the command this value, and has it
unfoldable pub meets_value : Forest Content → ℕ → Command → List ℕ → Bool
meets_value f l command value =
    is_simple_modifiable f l && equivalent command (specified f l command) (Some value)
    && alike command (effective f l command) (Some value)
