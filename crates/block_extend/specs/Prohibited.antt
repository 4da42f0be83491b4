-- Prohibited paragraph children below a node (HTML Editing APIs, "prohibited paragraph child").
use Rattle.std.specs.Prelude.{ℕ, Bool, false}
use Rattle.std.specs.Option.{option_map_or}
use Rattle.node_paths.specs.DomModel.declared.Content.{Content}
use Rattle.node_paths.specs.DomModel.Contents.{name_of}
use Rattle.node_paths.specs.DomModel.Forest.{Forest}
use Rattle.node_tests.specs.HtmlNames.ElementNames.{is_prohibited_child}
use Rattle.block_extend.specs.Descendants.{has_descendant}

-- an element that may not stand in a paragraph
abbrev pub is_prohibited : Forest Content → ℕ → Bool
is_prohibited f l = option_map_or is_prohibited_child (name_of f l) false

-- a descendant of the node is one
unfoldable pub is_above_prohibited : Forest Content → ℕ → Bool
is_above_prohibited f l = has_descendant (is_prohibited f) f l
