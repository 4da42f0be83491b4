-- The type of a node: the name of the block that it stands in (HTML Editing APIs, "the formatBlock
-- command", its value).
use Rattle.std.specs.Prelude.{ℕ, Bool, false, not, ◌&&◌, List, [], ◌∷◌, Option, bytes_eq, if◌then◌else◌}
use Rattle.std.specs.List.{find, list_any}
use Rattle.std.specs.Option.{option_map, option_map_or}
use Rattle.edit_model.specs.DomModel.declared.Content.{Content}
use Rattle.edit_model.specs.DomModel.Editing.{is_editable}
use Rattle.edit_model.specs.DomModel.Forest.{Forest, parent_of}
use Rattle.command_value.specs.NodeStyles.Lineage.{lineage}
use Rattle.command_value.specs.NodeStyles.NameClasses.{is_formattable_block}
use Rattle.block_extend.specs.Prohibited.{is_above_prohibited}
use Rattle.edit_model.specs.Compositions.{tag_of}

-- the parent is editable with this host, and the node is no element with a formattable block name
unfoldable pub goes_up : Forest Content → ℕ → ℕ → Bool
goes_up f host l =
    not (is_formattable_block f l) && option_map_or (is_editable f host) (parent_of f l) false

-- up from a node, for as long as it goes
unfoldable pub block_at : Forest Content → ℕ → ℕ → Option ℕ
block_at f host l =
    option_map (λ k. k.label) (find (λ k. not (goes_up f host k.label)) (lineage f l))

-- an editable element with a formattable block name, and no prohibited paragraph child below it
unfoldable pub is_typed : Forest Content → ℕ → ℕ → Bool
is_typed f host b =
    is_editable f host b && (is_formattable_block f b && not (is_above_prohibited f b))

-- its name; of another node empty
unfoldable pub type_in : Forest Content → ℕ → ℕ → List ℕ
type_in f host b = if is_typed f host b then tag_of f b else []

unfoldable pub type_of : Forest Content → ℕ → ℕ → List ℕ
type_of f host l = option_map_or (type_in f host) (block_at f host l) []

-- the type of one of them is another than this
abbrev pub has_other_type : Forest Content → ℕ → List ℕ → List ℕ → Bool
has_other_type f host type ls = list_any (λ l. not (bytes_eq (type_of f host l) type)) ls

-- the type of one of them is another than that of the first
abbrev pub have_other_types : Forest Content → ℕ → List ℕ → Bool
have_other_types f host [] = false
have_other_types f host (l ∷ ls) = has_other_type f host (type_of f host l) ls
