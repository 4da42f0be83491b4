-- A walk over the document in tree order. No public clause cites this module.
use Rattle.std.specs.Prelude.{◌≡◌, ℕ, ◌+◌, Some}
use Rattle.dom_model.specs.declared.Content.{Content}
use Rattle.dom_model.specs.Forest.{content_of, depth_of, IsWithin}
use Rattle.dom_model.specs.TreeOrder.{total_from, total_after}
use Rattle.dom_model.specs.ArenaState.{ArenaState}
use Rattle.node_arena.specs.declared.counts.Place.{Place}
use Rattle.node_arena.specs.Held.{Holds}

-- a held node of the document, with its depth
pub record IsPlace (s : ArenaState) (p : Place) : Type 0 where
  pub held : Holds s p.node
  pub inside : IsWithin s.trees 0 p.node.label
  pub deep : p.depth ≡ depth_of s.trees p.node.label

-- the walk goes from a place to the next: the sums from the first on are its own share and those
-- from the next on
pub record Goes (s : ArenaState) (from to : Place) : Type 0 where
  pub place : IsPlace s to
  pub weighs : (w : ℕ → Content → ℕ) (c : Content) → content_of s.trees from.node.label ≡ Some c
      → total_from w s.trees from.node.label
      ≡ w from.node.label c + total_from w s.trees to.node.label

-- the walk stops at a place: after it come only the loose trees
pub record Stops (s : ArenaState) (at : Place) : Type 0 where
  pub weighs : (w : ℕ → Content → ℕ) (c : Content) → content_of s.trees at.node.label ≡ Some c
      → total_from w s.trees at.node.label ≡ w at.node.label c + total_after w s.trees 0
