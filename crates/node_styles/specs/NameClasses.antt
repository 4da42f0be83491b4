-- Elements by their names, and what their styles set (HTML Editing APIs, "single-line container",
-- "indentation element", "simple indentation element", "removeFormat candidate").
use Rattle.std.specs.Prelude.{ℕ, Bool, false, ◌&&◌, ◌||◌, List, is_some, bytes_eq, codes}
use Rattle.std.specs.List.{list_any, list_all}
use Rattle.std.specs.Option.{option_map_or}
use Rattle.node_arena.specs.DomModel.declared.Content.{Content}
use Rattle.node_arena.specs.DomModel.declared.attributes.Attribute.{Attribute}
use Rattle.node_arena.specs.DomModel.Contents.{name_in, attributes_in}
use Rattle.node_arena.specs.DomModel.Editing.{is_editable}
use Rattle.node_arena.specs.DomModel.Forest.{Forest, content_of}
use Rattle.css_value.specs.declared.only.Only.TheVariants.{BoxNames}
use Rattle.css_value.specs.DeclarationList.{declarations_in, names_of}
use Rattle.css_value.specs.OnlyGroup.{sets_only}
use Rattle.css_value.specs.HtmlNames.BoxNames.{margin_names}
use Rattle.css_value.specs.HtmlNames.ElementNames as names
use Rattle.node_styles.specs.OwnStyles.{is_named, declared}

-- an element whose name passes
abbrev pub has_name_in : (List ℕ → Bool) → Forest Content → ℕ → Bool
has_name_in test f l =
    option_map_or (λ c. option_map_or test (name_in c) false) (content_of f l) false

unfoldable pub is_non_list_single_line : Forest Content → ℕ → Bool
is_non_list_single_line f l = has_name_in names.is_non_list_single_line_container f l

unfoldable pub is_single_line : Forest Content → ℕ → Bool
is_single_line f l = has_name_in names.is_single_line_container f l

unfoldable pub is_formattable_block : Forest Content → ℕ → Bool
is_formattable_block f l = has_name_in names.is_formattable_block f l

-- the style sets a margin
unfoldable pub sets_margin : Content → Bool
sets_margin c = list_any (λ margin. is_some (declared c margin)) margin_names

-- a blockquote, or a div with a margin
unfoldable pub is_indentation_content : Content → Bool
is_indentation_content c =
    is_named (codes "blockquote") c || (is_named (codes "div") c && sets_margin c)

unfoldable pub is_indentation : Forest Content → ℕ → Bool
is_indentation f l = option_map_or is_indentation_content (content_of f l) false

-- dir, or a style that sets nothing but margins, paddings and borders
unfoldable pub is_plain_attribute : Attribute → Bool
is_plain_attribute a =
    bytes_eq a.name (codes "dir") || (bytes_eq a.name (codes "style")
    && sets_only BoxNames (names_of (declarations_in a.value)))

unfoldable pub is_simple_indentation_content : Content → Bool
is_simple_indentation_content c =
    is_indentation_content c && option_map_or (list_all is_plain_attribute)
    (attributes_in c) false

unfoldable pub is_simple_indentation : Forest Content → ℕ → Bool
is_simple_indentation f l = option_map_or is_simple_indentation_content (content_of f l) false

-- editable with this host, and of a name that removeFormat takes out
unfoldable pub is_format_candidate : Forest Content → ℕ → ℕ → Bool
is_format_candidate f host l =
    is_editable f host l && has_name_in names.is_remove_format_candidate f l
