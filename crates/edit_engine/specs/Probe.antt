-- What `probe` tells of a node, on one line: what the tests of nodes answer.
use Rattle.std.specs.Prelude.{ℕ, Bool, List, ◌++◌, codes, encode_utf8_all, is_some, Option, Some, None, if◌then◌else◌}
use Rattle.edit_model.specs.DomModel.declared.Content.{Content}
use Rattle.edit_model.specs.DomModel.Contents.{is_element_at}
use Rattle.edit_model.specs.DomModel.Editing.{editing_host}
use Rattle.edit_model.specs.DomModel.Forest.{Forest}
use Rattle.inline_value.specs.StyleTable.declared.Property.{Property}
use Rattle.inline_value.specs.StyleTable.declared.Property.TheVariants.{Display, WhiteSpace}
use Rattle.inline_value.specs.NodeStyles.Blocks.{is_block, is_whitespace}
use Rattle.inline_value.specs.NodeStyles.Resolved.{resolved}
use Rattle.inline_value.specs.NodeTests.CollapsedWhitespace.{is_collapsed_whitespace}
use Rattle.inline_value.specs.NodeTests.SolidNeighbours.{is_extraneous_break, is_collapsed_break}
use Rattle.inline_value.specs.NodeTests.Visible.{is_visible}
use Rattle.inline_value.specs.NodeTests.BlockProps.{is_block_prop}
use Rattle.inline_value.specs.NodePaths.Paths.{node_text}

-- a test, by its words and its answer
abbrev pub tested : List ℕ → Bool → List ℕ
tested words answer = words ++ (if answer then codes " yes" else codes " no")

-- the path of a node, if there is one
abbrev pub path_or_none : Forest Content → Option ℕ → List ℕ
path_or_none f None = codes "none"
path_or_none f (Some l) = node_text f l

-- editable or not, and the host with which the node is editable
abbrev pub host_words : Forest Content → Option ℕ → List ℕ
host_words f host =
    tested (codes "editable") (is_some host) ++ codes " host " ++ path_or_none f host

unfoldable pub text_words : Forest Content → ℕ → List ℕ
text_words f l =
    tested (codes " block") (is_block f l) ++ tested (codes " visible") (is_visible f l)
    ++ tested (codes " whitespace") (is_whitespace f l)
    ++ tested (codes " collapsed-whitespace") (is_collapsed_whitespace f l)

unfoldable pub break_words : Forest Content → ℕ → List ℕ
break_words f l =
    tested (codes " extraneous") (is_extraneous_break f l)
    ++ tested (codes " collapsed-break") (is_collapsed_break f l)
    ++ tested (codes " prop") (is_block_prop f l)

-- the resolved value of an element's property; other nodes have none
unfoldable pub style_text : Forest Content → ℕ → Property → List ℕ
style_text f l property =
    if is_element_at f l then encode_utf8_all (resolved f l property) else codes "-"

unfoldable pub style_words : Forest Content → ℕ → List ℕ
style_words f l = codes " display " ++ style_text f l Display ++ codes " white-space "
    ++ style_text f l WhiteSpace

unfoldable pub probe_line : Forest Content → ℕ → List ℕ
probe_line f l = host_words f (editing_host f l) ++ text_words f l ++ break_words f l
    ++ style_words f l ++ codes "\n"
