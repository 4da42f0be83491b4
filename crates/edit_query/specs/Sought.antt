-- Which nodes of a list a question is about. No public clause cites this module.
use Rattle.std.specs.Prelude.{ℕ, Bool}
use Rattle.edit_model.specs.DomModel.declared.Content.{Content}
use Rattle.edit_model.specs.DomModel.Forest.{Forest}
use Rattle.block_extend.specs.NodeTests.Visible.{is_formattable}
use Rattle.edit_query.specs.declared.sought.Sought.{Sought}
use Rattle.edit_query.specs.declared.sought.Sought.TheVariants as sought
use Rattle.edit_query.specs.Leaves.{is_leaf}

abbrev pub is_sought : Sought → Forest Content → ℕ → ℕ → Bool
is_sought sought.Formattable = is_formattable
is_sought sought.Leaf = is_leaf
