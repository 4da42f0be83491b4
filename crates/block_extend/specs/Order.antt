-- Lists of nodes in tree order.
use Rattle.std.specs.Prelude.{ℕ, List}
use Rattle.node_paths.specs.DomModel.declared.Content.{Content}
use Rattle.node_paths.specs.DomModel.Forest.{Forest, preorder}
pub use Rattle.node_paths.specs.DomModel.Subsequence.{Subsequence, empty, both, left_out}

-- nodes stand in a list as in tree order, none twice
pub record IsInOrder (f : Forest Content) (xs : List ℕ) : Type 0 where
  pub among : Subsequence xs (preorder f)
