-- The deepest list to join, by the parent of a node.
use Rattle.std.proofs.Common.{◌≡◌, ℕ, ◌<◌, Bool, true, false, List, [], ◌∷◌, map, Option, Some, None, refl, ◌∙◌}
use Rattle.std.specs.List.{find}
use Rattle.edit_model.specs.DomModel.declared.Content.{Content}
use Rattle.edit_model.specs.DomModel.Forest.{count_of, IsDistinct, parent_of}
use Rattle.edit_model.proofs.DomModel.Parts.{at_label}
use Rattle.edit_model.specs.State.{State}
use Rattle.inline_value.specs.NodeStyles.Lineage.{Ancestor, lineage}
use Rattle.inline_value.proofs.NodeStyles.Lineages.{ancestor, lineage-root, lineage-child}
use Rattle.delete_core.specs.Merging.{joins_next, list_to_join}

module _ (s : State) (once : IsDistinct s.trees) (l : ℕ) (here : 0 < count_of s.trees l) where
  first_joins : (c : Content) (rest : List Ancestor) → lineage s.trees l ≡ ancestor l c ∷ rest → joins_next s l ≡ true → list_to_join s l ≡ Some l
  unfolding list_to_join
  first_joins c rest line joins = rw (line, joins) refl

  rest_joins : (c : Content) (rest : List Ancestor) → lineage s.trees l ≡ ancestor l c ∷ rest → joins_next s l ≡ false → list_to_join s l ≡ find (joins_next s) (map (λ k. k.label) rest)
  unfolding list_to_join
  rest_joins c rest line joins = rw (line, joins) refl

  pub joins_here : joins_next s l ≡ true → list_to_join s l ≡ Some l
  joins_here joins = by_parent (parent_of s.trees l) refl
    where
      by_parent : (o : Option ℕ) → parent_of s.trees l ≡ o → list_to_join s l ≡ Some l
      by_parent None e =
          let at = at_label s.trees once l here in
          first_joins at.content [] (lineage-root s.trees once l at.content here e at.content_is) joins
      by_parent (Some p) e =
          let at = at_label s.trees once l here in
          first_joins at.content (lineage s.trees p) (lineage-child s.trees once l p at.content e at.content_is) joins

  pub joins_none : parent_of s.trees l ≡ None → joins_next s l ≡ false → list_to_join s l ≡ None
  joins_none root fails =
      let at = at_label s.trees once l here in
      rest_joins at.content [] (lineage-root s.trees once l at.content here root at.content_is) fails

  pub joins_above : (p : ℕ) → parent_of s.trees l ≡ Some p → joins_next s l ≡ false → list_to_join s l ≡ list_to_join s p
  unfolding list_to_join
  joins_above p child fails =
      let at = at_label s.trees once l here in
      rest_joins at.content (lineage s.trees p) (lineage-child s.trees once l p at.content child at.content_is) fails
