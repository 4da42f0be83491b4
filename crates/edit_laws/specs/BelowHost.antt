-- What stands below a node.
use Rattle.std.specs.Prelude.{ℕ}
use Rattle.edit_model.specs.DomModel.declared.Content.{Content}
use Rattle.edit_model.specs.DomModel.Forest.{Forest, tree_of}
use Rattle.edit_model.specs.DomModel.Places.{kids_in}

-- the children of a node, with all that is below them
abbrev pub below : Forest Content → ℕ → Forest Content
below f l = kids_in (tree_of f l)
