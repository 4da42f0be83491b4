-- Going up from a node for the block of its type.
use Rattle.std.proofs.Common.{◌≡◌, ℕ, ◌<◌, Bool, true, false, not, ◌&&◌, List, Option, Some, None, refl, ap, ◌∙◌}
use Rattle.std.proofs.lemmas.Bool.{and_parts}
use Rattle.std.specs.List.{find}
use Rattle.std.specs.Option.{option_map}
use Rattle.edit_model.specs.DomModel.declared.Content.{Content}
use Rattle.edit_model.specs.DomModel.Editing.{is_editable}
use Rattle.edit_model.specs.DomModel.Forest.{Forest, count_of, parent_of, IsDistinct}
use Rattle.edit_model.proofs.DomModel.Parts.{at_label}
use Rattle.command_value.specs.NodeStyles.Lineage.{Ancestor}
use Rattle.command_value.proofs.NodeStyles.Lineages.{lineage-child, lineage-root}
use Rattle.command_value.specs.NodeStyles.NameClasses.{is_formattable_block}
use Rattle.edit_query.specs.BlockTypes.{goes_up, block_at}

module _ (f : Forest Content) (host : ℕ) (once : IsDistinct f) (l : ℕ) (here : 0 < count_of f l) where
  abbrev ends_in : List Ancestor → Option ℕ
  ends_in ks = option_map (λ k. k.label) (find (λ k. not (goes_up f host k.label)) ks)

  stays_by : (o : Option ℕ) → parent_of f l ≡ o → goes_up f host l ≡ false → block_at f host l ≡ Some l
  unfolding block_at
  stays_by None up on = let at = at_label f once l here in ap ends_in (lineage-root f once l at.content here up at.content_is) ∙ rw on refl
  stays_by (Some p) up on = let at = at_label f once l here in ap ends_in (lineage-child f once l p at.content up at.content_is) ∙ rw on refl

  -- a node from which it doesn't go on
  pub stays : goes_up f host l ≡ false → block_at f host l ≡ Some l
  stays on = stays_by (parent_of f l) refl on

  -- from another node it goes on at the parent
  pub goes_on : (p : ℕ) → parent_of f l ≡ Some p → goes_up f host l ≡ true → block_at f host l ≡ block_at f host p
  unfolding block_at
  goes_on p up on = let at = at_label f once l here in ap ends_in (lineage-child f once l p at.content up at.content_is) ∙ rw on refl

  -- where it goes on, the parent is editable
  pub parent_editable : (p : ℕ) → parent_of f l ≡ Some p → goes_up f host l ≡ true → is_editable f host p ≡ true
  unfolding goes_up
  parent_editable p up on = (and_parts (not (is_formattable_block f l)) (is_editable f host p) (rw up at on)).1

  off_top : parent_of f l ≡ None → goes_up f host l ≡ false
  unfolding goes_up
  off_top up = rw up (never (not (is_formattable_block f l)))
    where
      never : (b : Bool) → (b && false) ≡ false
      never true = refl
      never false = refl

  pub ends_on_top : parent_of f l ≡ None → block_at f host l ≡ Some l
  ends_on_top up = stays (off_top up)
