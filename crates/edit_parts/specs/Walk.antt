-- A walk over the tree of a node in tree order. No public clause cites this module.
use Rattle.std.specs.Prelude.{◌≡◌, ℕ, ◌+◌, Some, not, filter}
use Rattle.edit_model.specs.DomModel.declared.Content.{Content}
use Rattle.edit_model.specs.DomModel.Forest.{content_of, depth_of, IsWithin}
use Rattle.edit_model.specs.DomModel.TreeOrder.{total_from, total_after}
use Rattle.edit_model.specs.DomModel.ArenaState.{ArenaState}
use Rattle.edit_model.specs.NodeArena.declared.NodeRef.{NodeRef}
use Rattle.edit_model.specs.NodeArena.Held.{Holds}
use Rattle.edit_parts.specs.declared.trees.Place.{Place}

-- a held node of the tree of top, and how deep it is below that
pub record IsIn (s : ArenaState) (top : NodeRef) (p : Place) : Type 0 where
  pub held : Holds s p.node
  pub inside : IsWithin s.trees top.label p.node.label
  pub deep : p.depth + depth_of s.trees top.label ≡ depth_of s.trees p.node.label

-- the walk goes from a place to the next: the sums from the first on are its own share and those
-- from the next on
pub record Goes (s : ArenaState) (top : NodeRef) (from to : Place) : Type 0 where
  pub place : IsIn s top to
  pub weighs : (w : ℕ → Content → ℕ) (c : Content) → content_of s.trees from.node.label ≡ Some c
      → total_from w s.trees from.node.label
      ≡ w from.node.label c + total_from w s.trees to.node.label

-- the walk stops at a place: after it comes only what comes after the tree of top
pub record Stops (s : ArenaState) (top : NodeRef) (at : Place) : Type 0 where
  pub weighs : (w : ℕ → Content → ℕ) (c : Content) → content_of s.trees at.node.label ≡ Some c
      → total_from w s.trees at.node.label ≡ w at.node.label c + total_after w s.trees top.label
