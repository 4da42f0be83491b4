-- The listing of trees: a line for each node in tree order, indented by its depth.
use Rattle.std.specs.Prelude.{ℕ, zero, suc, ◌+◌, List, [], ◌∷◌, ◌++◌, if◌then◌else◌, ◌==◌, codes}
use Rattle.std.specs.List.{flat_map}
use Rattle.node_paths.specs.DomModel.declared.Content.{Content}
use Rattle.node_paths.specs.DomModel.declared.Content.TheVariants.{Document, Element, Words, Remark}
use Rattle.node_paths.specs.DomModel.Forest.{Forest}
use Rattle.node_paths.specs.DomModel.Forest.Forest.{Nil, Tree}
use Rattle.node_paths.specs.DomModel.Places.{kids_in}
use Rattle.escaped_text.specs.Escaped.{escaped_bytes}
use Rattle.page_write.specs.Html.{start_tag}

-- a byte of a start tag: LF, CR and tab as escapes
abbrev pub line_byte : ℕ → List ℕ
line_byte b =
    if b == 10 then codes "\\n"
    else (if b == 13 then codes "\\r"
    else (if b == 9 then codes "\\t"
    else b ∷ []))

unfoldable pub on_one_line : List ℕ → List ℕ
on_one_line bytes = flat_map line_byte bytes

-- a start tag, a text in quotes, or a comment
abbrev pub node_line : Content → List ℕ
node_line Document = []
node_line (Element name list) = on_one_line (start_tag name list)
node_line (Words chars) = codes "\"" ++ escaped_bytes chars ++ codes "\""
node_line (Remark chars) = codes "<!--" ++ escaped_bytes chars ++ codes "-->"

-- two spaces for each level
abbrev pub indent : ℕ → List ℕ
indent zero = []
indent (suc level) = codes "  " ++ indent level

abbrev pub lines_of : ℕ → Forest Content → List ℕ
lines_of level Nil = []
lines_of level (Tree label content children rest) =
    indent level ++ node_line content ++ codes "\n" ++ lines_of (level + 1) children
    ++ lines_of level rest

-- the listing of the document, the first tree: that of the nodes below it
abbrev pub document_lines : Forest Content → List ℕ
document_lines trees = lines_of 0 (kids_in trees)
