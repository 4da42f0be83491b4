-- The ancestors of a node, from one of them on.
use Rattle.std.proofs.Common.{◌≡◌, ℕ, ◌<◌, Bool, ◌||◌, Option, Some, None, refl, ap}
use Rattle.std.specs.List.{list_any}
use Rattle.edit_model.specs.DomModel.declared.Content.{Content}
use Rattle.edit_model.specs.DomModel.Forest.{Forest, count_of, parent_of, IsDistinct}
use Rattle.edit_model.proofs.DomModel.Parts.{at_label}
use Rattle.inline_value.proofs.NodeStyles.Lineages.{lineage-child, lineage-root}
use Rattle.block_commands.specs.FormatBlock.{lineage_at}

abbrev pub any_from : (ℕ → Bool) → Forest Content → Option ℕ → Bool
any_from test f o = list_any (λ k. test k.label) (lineage_at f o)

module _ (test : ℕ → Bool) (f : Forest Content) (once : IsDistinct f) (l : ℕ) (here : 0 < count_of f l) where
  any_by : (o : Option ℕ) → parent_of f l ≡ o → any_from test f (Some l) ≡ (test l || any_from test f o)
  any_by None up = let at = at_label f once l here in ap (list_any (λ k. test k.label)) (lineage-root f once l at.content here up at.content_is)
  any_by (Some p) up = let at = at_label f once l here in ap (list_any (λ k. test k.label)) (lineage-child f once l p at.content up at.content_is)

  pub any_here : any_from test f (Some l) ≡ (test l || any_from test f (parent_of f l))
  any_here = any_by (parent_of f l) refl
