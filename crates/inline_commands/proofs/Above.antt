-- The links among the ancestors of a node, by its parent.
use Rattle.std.proofs.Common.{◌≡◌, ℕ, ◌<◌, List, [], reverse, map, Some, None, refl}
use Rattle.std.specs.Prelude.{filter}
use Rattle.edit_model.specs.DomModel.declared.Content.{Content}
use Rattle.edit_model.specs.DomModel.Forest.{Forest, count_of, parent_of, IsDistinct}
use Rattle.edit_model.proofs.DomModel.Parts.{at_label}
use Rattle.inline_value.specs.NodeStyles.Lineage.{lineage}
use Rattle.inline_value.proofs.NodeStyles.Lineages.{lineage-root, lineage-child}
use Rattle.inline_value.specs.Forcing.{ancestors}
use Rattle.inline_commands.specs.Merging.{links_above}
use Rattle.inline_commands.specs.Unlink.{is_link}

module _ (f : Forest Content) (once : IsDistinct f) (n : ℕ) (here : 0 < count_of f n) where
  pub none_above : parent_of f n ≡ None → links_above f n ≡ []
  unfolding links_above ancestors
  none_above root =
      let at = at_label f once n here in
      let line = lineage-root f once n at.content here root at.content_is in
      rw line refl

  pub above_child : (p : ℕ) → parent_of f n ≡ Some p → links_above f n ≡ filter (is_link f) (reverse (map (λ k. k.label) (lineage f p)))
  unfolding links_above ancestors
  above_child p up =
      let at = at_label f once n here in
      let line = lineage-child f once n p at.content up at.content_is in
      rw line refl
