-- Which node may stand in which (HTML Editing APIs, "allowed child").
use Rattle.std.specs.Prelude.{ℕ, Bool, true, false, not, ◌&&◌, ◌||◌, List, [], ◌∷◌, bytes_eq, codes}
use Rattle.std.specs.List.{list_all}
use Rattle.std.specs.Option.{option_map_or}
use Rattle.node_arena.specs.DomModel.declared.Content.{Content}
use Rattle.node_arena.specs.DomModel.declared.Content.TheVariants.{Document, Element, Words, Remark}
use Rattle.node_arena.specs.DomModel.Contents.{name_in, name_of}
use Rattle.node_arena.specs.DomModel.Forest.{Forest, content_of}
use Rattle.css_value.specs.StyleText.{is_space}
use Rattle.css_value.specs.HtmlNames.AllowedChildren.{allowed_child}
use Rattle.css_value.specs.HtmlNames.ElementNames.{is_one_of, is_prohibited_child, has_inline_contents, is_heading}
use Rattle.node_styles.specs.Lineage.{has_in_lineage}
use Rattle.node_styles.specs.OwnStyles.{is_named}

-- in these stands no text but spaces
unfoldable pub textless_names : List (List ℕ)
textless_names = codes "colgroup" ∷ codes "table" ∷ codes "tbody" ∷ codes "tfoot" ∷ codes "thead"
    ∷ codes "tr" ∷ []

unfoldable pub is_textless : List ℕ → Bool
is_textless name = is_one_of textless_names name

-- tab, LF, FF, CR and space alone, or nothing
unfoldable pub are_spaces : List ℕ → Bool
are_spaces chars = list_all is_space chars

-- the element's name passes
abbrev pub has_name : (List ℕ → Bool) → Content → Bool
has_name test c = option_map_or test (name_in c) false

-- by the parent and its ancestors, a name may not stand there: a link in a link, a block in inline
-- contents, a heading in a heading
unfoldable pub is_barred : List ℕ → Forest Content → ℕ → Bool
is_barred child f parent =
    (bytes_eq child (codes "a") && has_in_lineage (is_named (codes "a")) f parent)
    || (is_prohibited_child child && has_in_lineage (has_name has_inline_contents) f parent)
    || (is_heading child && has_in_lineage (has_name is_heading) f parent)

-- an element of this name may stand in a node: in no Document, Words or Remark, where nothing bars
-- it, and where the names allow it
unfoldable pub name_allowed_in : List ℕ → Forest Content → ℕ → Bool
name_allowed_in child f parent = option_map_or (λ name. not (is_barred child f parent)
    && allowed_child child name) (name_of f parent) false

-- a node may stand in an element of this name
abbrev pub content_allowed_in_name : Content → List ℕ → Bool
content_allowed_in_name Document parent = true
content_allowed_in_name (Element name attributes) parent = allowed_child name parent
content_allowed_in_name (Words chars) parent = are_spaces chars || not (is_textless parent)
content_allowed_in_name (Remark chars) parent = true

unfoldable pub allowed_in_name : Forest Content → ℕ → List ℕ → Bool
allowed_in_name f child parent =
    option_map_or (λ c. content_allowed_in_name c parent) (content_of f child) true

-- a node may stand in a node
abbrev pub content_allowed_in : Content → Forest Content → ℕ → Bool
content_allowed_in Document f parent = true
content_allowed_in (Element name attributes) f parent = name_allowed_in name f parent
content_allowed_in (Words chars) f parent =
    are_spaces chars || not (option_map_or is_textless (name_of f parent) false)
content_allowed_in (Remark chars) f parent = true

unfoldable pub allowed_in : Forest Content → ℕ → ℕ → Bool
allowed_in f child parent =
    option_map_or (λ c. content_allowed_in c f parent) (content_of f child) true
