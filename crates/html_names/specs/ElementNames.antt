-- Names of HTML elements, in tables. A name is a list of bytes, in lower case.
use Rattle.std.specs.Prelude.{ℕ, Bool, not, ◌||◌, List, [], ◌∷◌, codes}
use Rattle.std.specs.List.{list_any}
use Rattle.std.specs.Str.{bytes_eq}

-- the text stands in the table
abbrev pub is_one_of : List (List ℕ) → List ℕ → Bool
is_one_of table text = list_any (λ row. bytes_eq row text) table

-- HTML Standard, "Void elements"; `param` stands there as obsolete
unfoldable pub void_names : List (List ℕ)
void_names =
    codes "area"
    ∷ codes "base"
    ∷ codes "br"
    ∷ codes "col"
    ∷ codes "embed"
    ∷ codes "hr"
    ∷ codes "img"
    ∷ codes "input"
    ∷ codes "link"
    ∷ codes "meta"
    ∷ codes "param"
    ∷ codes "source"
    ∷ codes "track"
    ∷ codes "wbr"
    ∷ []

-- the elements that a page may not have: their content isn't markup, or is another language
unfoldable pub refused_names : List (List ℕ)
refused_names =
    codes "script"
    ∷ codes "style"
    ∷ codes "template"
    ∷ codes "textarea"
    ∷ codes "title"
    ∷ codes "noscript"
    ∷ codes "iframe"
    ∷ codes "xmp"
    ∷ codes "plaintext"
    ∷ codes "svg"
    ∷ codes "math"
    ∷ []

-- HTML Editing APIs, "prohibited paragraph child name"
unfoldable pub prohibited_child_names : List (List ℕ)
prohibited_child_names =
    codes "address"
    ∷ codes "article"
    ∷ codes "aside"
    ∷ codes "blockquote"
    ∷ codes "caption"
    ∷ codes "center"
    ∷ codes "col"
    ∷ codes "colgroup"
    ∷ codes "dd"
    ∷ codes "details"
    ∷ codes "dir"
    ∷ codes "div"
    ∷ codes "dl"
    ∷ codes "dt"
    ∷ codes "fieldset"
    ∷ codes "figcaption"
    ∷ codes "figure"
    ∷ codes "footer"
    ∷ codes "form"
    ∷ codes "h1"
    ∷ codes "h2"
    ∷ codes "h3"
    ∷ codes "h4"
    ∷ codes "h5"
    ∷ codes "h6"
    ∷ codes "header"
    ∷ codes "hgroup"
    ∷ codes "hr"
    ∷ codes "li"
    ∷ codes "listing"
    ∷ codes "menu"
    ∷ codes "nav"
    ∷ codes "ol"
    ∷ codes "p"
    ∷ codes "plaintext"
    ∷ codes "pre"
    ∷ codes "section"
    ∷ codes "summary"
    ∷ codes "table"
    ∷ codes "tbody"
    ∷ codes "td"
    ∷ codes "tfoot"
    ∷ codes "th"
    ∷ codes "thead"
    ∷ codes "tr"
    ∷ codes "ul"
    ∷ codes "xmp"
    ∷ []

-- HTML Editing APIs, "name of an element with inline contents"
unfoldable pub inline_contents_names : List (List ℕ)
inline_contents_names =
    codes "a"
    ∷ codes "abbr"
    ∷ codes "b"
    ∷ codes "bdi"
    ∷ codes "bdo"
    ∷ codes "cite"
    ∷ codes "code"
    ∷ codes "dfn"
    ∷ codes "em"
    ∷ codes "h1"
    ∷ codes "h2"
    ∷ codes "h3"
    ∷ codes "h4"
    ∷ codes "h5"
    ∷ codes "h6"
    ∷ codes "i"
    ∷ codes "kbd"
    ∷ codes "mark"
    ∷ codes "p"
    ∷ codes "pre"
    ∷ codes "q"
    ∷ codes "rp"
    ∷ codes "rt"
    ∷ codes "ruby"
    ∷ codes "s"
    ∷ codes "samp"
    ∷ codes "small"
    ∷ codes "span"
    ∷ codes "strong"
    ∷ codes "sub"
    ∷ codes "sup"
    ∷ codes "u"
    ∷ codes "var"
    ∷ codes "acronym"
    ∷ codes "listing"
    ∷ codes "strike"
    ∷ codes "xmp"
    ∷ codes "big"
    ∷ codes "blink"
    ∷ codes "font"
    ∷ codes "marquee"
    ∷ codes "nobr"
    ∷ codes "tt"
    ∷ []

-- the headings
unfoldable pub heading_names : List (List ℕ)
heading_names =
    codes "h1"
    ∷ codes "h2"
    ∷ codes "h3"
    ∷ codes "h4"
    ∷ codes "h5"
    ∷ codes "h6"
    ∷ []

-- HTML Editing APIs, "non-list single-line container"
unfoldable pub non_list_container_names : List (List ℕ)
non_list_container_names =
    codes "address"
    ∷ codes "div"
    ∷ codes "h1"
    ∷ codes "h2"
    ∷ codes "h3"
    ∷ codes "h4"
    ∷ codes "h5"
    ∷ codes "h6"
    ∷ codes "listing"
    ∷ codes "p"
    ∷ codes "pre"
    ∷ codes "xmp"
    ∷ []

-- what is a single-line container besides (HTML Editing APIs)
unfoldable pub list_container_names : List (List ℕ)
list_container_names =
    codes "li"
    ∷ codes "dt"
    ∷ codes "dd"
    ∷ []

-- HTML Editing APIs, "formattable block name"
unfoldable pub formattable_block_names : List (List ℕ)
formattable_block_names =
    codes "address"
    ∷ codes "dd"
    ∷ codes "div"
    ∷ codes "dt"
    ∷ codes "h1"
    ∷ codes "h2"
    ∷ codes "h3"
    ∷ codes "h4"
    ∷ codes "h5"
    ∷ codes "h6"
    ∷ codes "p"
    ∷ codes "pre"
    ∷ []

-- HTML Editing APIs, "removeFormat candidate"
unfoldable pub format_names : List (List ℕ)
format_names =
    codes "abbr"
    ∷ codes "acronym"
    ∷ codes "b"
    ∷ codes "bdi"
    ∷ codes "bdo"
    ∷ codes "big"
    ∷ codes "blink"
    ∷ codes "cite"
    ∷ codes "code"
    ∷ codes "dfn"
    ∷ codes "em"
    ∷ codes "font"
    ∷ codes "i"
    ∷ codes "ins"
    ∷ codes "kbd"
    ∷ codes "mark"
    ∷ codes "nobr"
    ∷ codes "q"
    ∷ codes "s"
    ∷ codes "samp"
    ∷ codes "small"
    ∷ codes "span"
    ∷ codes "strike"
    ∷ codes "strong"
    ∷ codes "sub"
    ∷ codes "sup"
    ∷ codes "tt"
    ∷ codes "u"
    ∷ codes "var"
    ∷ []

-- an element of this name has no content and no end tag
unfoldable pub is_void : List ℕ → Bool
is_void name = is_one_of void_names name

-- an element of this name may stand in a page
unfoldable pub is_supported : List ℕ → Bool
is_supported name = not (is_one_of refused_names name)

-- an element of this name may not stand in a paragraph
unfoldable pub is_prohibited_child : List ℕ → Bool
is_prohibited_child name = is_one_of prohibited_child_names name

-- an element of this name holds inline contents alone
unfoldable pub has_inline_contents : List ℕ → Bool
has_inline_contents name = is_one_of inline_contents_names name

unfoldable pub is_heading : List ℕ → Bool
is_heading name = is_one_of heading_names name

unfoldable pub is_non_list_single_line_container : List ℕ → Bool
is_non_list_single_line_container name = is_one_of non_list_container_names name

unfoldable pub is_single_line_container : List ℕ → Bool
is_single_line_container name =
    is_non_list_single_line_container name || is_one_of list_container_names name

unfoldable pub is_formattable_block : List ℕ → Bool
is_formattable_block name = is_one_of formattable_block_names name

unfoldable pub is_remove_format_candidate : List ℕ → Bool
is_remove_format_candidate name = is_one_of format_names name
