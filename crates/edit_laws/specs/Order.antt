-- What the document bears, in tree order, and what a command that keeps contents makes of it.
use Rattle.std.specs.Prelude.{◌≡◌, true}
use Rattle.edit_model.specs.DomModel.declared.Content.{Content}
use Rattle.edit_model.specs.DomModel.Forest.{Forest}
pub use Rattle.edit_model.specs.DomModel.Subsequence.{Subsequence, empty, both, left_out}
use Rattle.edit_model.specs.Kept.{leaves, kept_leaves}
use Rattle.edit_model.specs.State.{State}
use Rattle.edit_model.specs.History.{document_of}
use Rattle.edit_model.specs.Valid.{IsValid}

-- a forest bears what another one bore, in the same order; of it only characters that are not kept
-- may be missing
pub record KeepsLeaves (before after : Forest Content) : Type 0 where
  pub in_order : Subsequence (leaves after) (leaves before)
  pub whole : kept_leaves after ≡ kept_leaves before

-- so it is with the documents of two states
abbrev pub KeepsOrder : State → State → Type 0
KeepsOrder s t = KeepsLeaves (document_of s.trees) (document_of t.trees)

-- a valid state in which a command runs that keeps contents
pub record IsKeeping (s : State) : Type 0 where
  pub valid : IsValid s
  pub keeping : s.keeping ≡ true
