-- What the code of command values has between: the lineage of a node that may not be there, where
-- its inline part ends, and the names of weights. No public clause cites this module.
use Rattle.std.specs.Prelude.{ℕ, ◌==◌, Bool, ◌&&◌, ◌||◌, bytes_eq, codes, List, [], Option, Some, None}
use Rattle.node_styles.specs.DomModel.declared.Content.{Content}
use Rattle.node_styles.specs.DomModel.Forest.{Forest}
use Rattle.node_styles.specs.Blocks.{is_block_content}
use Rattle.node_styles.specs.Lineage.{Ancestor, lineage}
use Rattle.node_styles.specs.OwnStyles.{is_named}

abbrev pub lineage_of : Forest Content → Option ℕ → List Ancestor
lineage_of f None = []
lineage_of f (Some l) = lineage f l

abbrev pub is_inline_end : List ℕ → Content → Bool
is_inline_end name c = is_named name c || is_block_content c

-- bold is 700, and normal 400
abbrev pub is_named_weight : ℕ → List ℕ → Bool
is_named_weight weight text =
    ((weight == 700) && bytes_eq (codes "bold") text)
    || ((weight == 400) && bytes_eq (codes "normal") text)

-- the weights at which bold counts as on
abbrev pub is_heavy : ℕ → Bool
is_heavy weight = (weight == 600) || ((weight == 700) || ((weight == 800) || (weight == 900)))
