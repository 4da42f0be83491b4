-- The nearest node that gives a command a value, by a node's parent; and the ancestors of a node.
use Rattle.std.proofs.Common.{◌≡◌, ℕ, ◌<◌, Bool, true, false, List, [], ◌∷◌, map, Option, Some, None, refl, sym, ap, ◌∙◌}
use Rattle.std.specs.Prelude.{is_some}
use Rattle.std.specs.Option.{option_and_then}
use Rattle.edit_model.specs.DomModel.declared.Content.{Content}
use Rattle.edit_model.specs.DomModel.Forest.{Forest, count_of, parent_of, content_of, IsDistinct}
use Rattle.edit_model.proofs.DomModel.Links.{parent_count}
use Rattle.edit_model.proofs.DomModel.Parts.{at_label}
use Rattle.edit_model.specs.HtmlNames.declared.commands.Command.{Command}
use Rattle.wrap_split.specs.NodeStyles.Lineage.{Ancestor, lineage}
use Rattle.wrap_split.proofs.NodeStyles.Lineages.{nearest-here, nearest-root, nearest-parent, lineage-child, lineage-root}
use Rattle.wrap_split.specs.CommandValue.SpecifiedValues.{specified, specified_in}
use Rattle.inline_value.specs.Forcing.{above, ancestors}
use Rattle.inline_value.specs.Recording.{giver, given_value}

module _ (f : Forest Content) (once : IsDistinct f) (l : ℕ) (here : 0 < count_of f l) where
  module _ (command : Command) where
    abbrev gives : Content → Bool
    gives c = is_some (specified_in c command)

    abbrev given_by_ancestor : Option Ancestor → Option (List ℕ)
    given_by_ancestor o = option_and_then (λ k. specified_in k.content command) o

    own : (c : Content) → content_of f l ≡ Some c → specified f l command ≡ specified_in c command
    unfolding specified
    own c content = ap (option_and_then (λ d. specified_in d command)) content

    pub given_here : is_some (specified f l command) ≡ true → given_value f l command ≡ specified f l command
    unfolding given_value giver
    given_here is =
        let at = at_label f once l here in
        let o = own at.content at.content_is in
        ap given_by_ancestor (nearest-here gives f once l at.content here at.content_is (ap is_some (sym o) ∙ is)) ∙ sym o

    pub given_none : parent_of f l ≡ None → is_some (specified f l command) ≡ false → given_value f l command ≡ None
    unfolding given_value giver
    given_none root is =
        let at = at_label f once l here in
        let o = own at.content at.content_is in
        ap given_by_ancestor (nearest-root gives f once l at.content here at.content_is root (ap is_some (sym o) ∙ is))

    pub given_above : (p : ℕ) → parent_of f l ≡ Some p → is_some (specified f l command) ≡ false → given_value f l command ≡ given_value f p command
    unfolding given_value giver
    given_above p child is =
        let at = at_label f once l here in
        let o = own at.content at.content_is in
        ap given_by_ancestor (nearest-parent gives f once l at.content here at.content_is p child (ap is_some (sym o) ∙ is))

  -- ---- the ancestors

  pub no_ancestors : parent_of f l ≡ None → ancestors f l ≡ []
  unfolding ancestors
  no_ancestors root =
      let at = at_label f once l here in
      ap above (lineage-root f once l at.content here root at.content_is)

  -- the parent, and its ancestors
  pub ancestors_above : (p : ℕ) → parent_of f l ≡ Some p → ancestors f l ≡ p ∷ ancestors f p
  unfolding ancestors
  ancestors_above p child =
      let at = at_label f once l here in
      let up = at_label f once p (parent_count f l p once child).1 in
      ap above (lineage-child f once l p at.content child at.content_is) ∙ by_parent (parent_of f p) refl up.content up.content_is
    where
      labels : List Ancestor → List ℕ
      labels ks = map (λ k. k.label) ks

      by_parent : (o : Option ℕ) → parent_of f p ≡ o → (c : Content) → content_of f p ≡ Some c → labels (lineage f p) ≡ p ∷ above (lineage f p)
      by_parent None e c content = rw (lineage-root f once p c (parent_count f l p once child).1 e content) refl
      by_parent (Some q) e c content = rw (lineage-child f once p q c e content) refl
