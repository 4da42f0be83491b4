-- The items over a node are those over its parent, and the node where it is one.
use Rattle.std.proofs.Common.{◌≡◌, ℕ, ◌<◌, Bool, List, [], ◌∷◌, ◌++◌, reverse, map, codes, Some, None, ap, ◌∙◌}
use Rattle.std.specs.Prelude.{filter}
use Rattle.std.proofs.lemmas.List.{reverse-append}
use Rattle.std.proofs.lemmas.List.Elements.{filter-append}
use Rattle.edit_model.specs.DomModel.declared.Content.{Content}
use Rattle.edit_model.specs.DomModel.Contents.{has_name}
use Rattle.edit_model.specs.DomModel.Forest.{Forest, IsDistinct, count_of, parent_of}
use Rattle.edit_model.proofs.DomModel.Parts.{at_label}
use Rattle.inline_value.specs.NodeStyles.Lineage.{Ancestor, lineage}
use Rattle.inline_value.proofs.NodeStyles.Lineages.{lineage-root, lineage-child}
use Rattle.list_indent.specs.Commands.{items_over}

abbrev is_li : Forest Content → ℕ → Bool
is_li f l = has_name f l (codes "li")

reverse-cons : (x : ℕ) (xs : List ℕ) → reverse (x ∷ xs) ≡ reverse xs ++ (x ∷ [])
reverse-cons x xs = reverse-append (x ∷ []) xs

module _ (f : Forest Content) (once : IsDistinct f) (l : ℕ) where
  pub items_root : 0 < count_of f l → parent_of f l ≡ None → items_over f l ≡ filter (is_li f) (l ∷ [])
  unfolding items_over
  items_root here root =
      let at = at_label f once l here in
      ap (λ ks. filter (is_li f) (reverse (map (λ (k : Ancestor). k.label) ks))) (lineage-root f once l at.content here root at.content_is)

  pub items_child : (p : ℕ) → 0 < count_of f l → parent_of f l ≡ Some p → items_over f l ≡ items_over f p ++ filter (is_li f) (l ∷ [])
  unfolding items_over
  items_child p here up =
      let at = at_label f once l here in
      ap (λ ks. filter (is_li f) (reverse (map (λ (k : Ancestor). k.label) ks))) (lineage-child f once l p at.content up at.content_is)
      ∙ (ap (filter (is_li f)) (reverse-cons l (map (λ (k : Ancestor). k.label) (lineage f p)))
      ∙ filter-append (is_li f) (reverse (map (λ (k : Ancestor). k.label) (lineage f p))) (l ∷ []))
