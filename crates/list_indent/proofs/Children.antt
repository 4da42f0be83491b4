-- Walks over the children of a node, from the first on and from one of them back.
use Rattle.std.proofs.Common.{◌≡◌, ℕ, Bool, true, false, Option, Some, None, refl, ap, ◌∙◌}
use Rattle.std.specs.Prelude.{find}
use Rattle.std.specs.List.{list_any}
use Rattle.std.specs.Option.{unwrap_or}
use Rattle.edit_model.specs.DomModel.declared.Content.{Content}
use Rattle.edit_model.specs.DomModel.Forest.{Forest, IsDistinct, parent_of, children_of, next_of, prev_of}
use Rattle.edit_model.proofs.DomModel.Links.{times-children_of}
use Rattle.edit_model.proofs.DomModel.Neighbours.{parent_of-prev_sibling}
use Rattle.edit_model.specs.NodeArena.declared.NodeRef.{NodeRef}
use Rattle.edit_model.specs.Gives.{label_of}
use Rattle.inline_value.specs.EditDoc.Whole.{Whole, IsDoc}
use Rattle.inline_value.specs.EditDoc.Held.{IfHeld, Finds}
use Rattle.inline_value.proofs.EditDoc.Children.{IsChild}
use Rattle.inline_value.proofs.EditActions.Children.{rest_at, rest_is}
use Rattle.inline_value.proofs.WrapSplit.Backward.{up_to, up_to_before}
use Rattle.inline_value.proofs.WrapSplit.Children.{front_at, child_there, child_by}
use Rattle.inline_value.specs.WrapSplit.Wrap.{last_visible}
use Rattle.list_indent.specs.Commands.{shown_before}

-- ---- from the first on

pub any_none : (d : Whole) (test : ℕ → Bool) (o : Option NodeRef) → o ≡ None → list_any test (rest_at d o) ≡ false
any_none d test o none = rw none refl

pub find_none : (d : Whole) (test : ℕ → Bool) (o : Option NodeRef) → o ≡ None → find test (rest_at d o) ≡ None
find_none d test o none = rw none refl

module _ (d : Whole) (law : IsDoc d) (node : NodeRef) (test : ℕ → Bool) where
  abbrev f : Forest Content
  f = d.state.trees

  module _ (o : Option NodeRef) (child : NodeRef) (is : o ≡ Some child) (held : IfHeld d o) (inner : IsChild f node.label (label_of o)) where
    pub any_here : test child.label ≡ true → list_any test (rest_at d o) ≡ true
    any_here so = rw (rest_is d law node o child is held inner, so) refl

    pub any_next : test child.label ≡ false → (next : Option NodeRef) → Finds d next (next_of f child.label) → list_any test (rest_at d next) ≡ list_any test (rest_at d o)
    any_next off next finds = rw (finds.is, rest_is d law node o child is held inner, off) refl

    pub find_here : test child.label ≡ true → find test (rest_at d o) ≡ Some child.label
    find_here so = rw (rest_is d law node o child is held inner, so) refl

    pub find_next : test child.label ≡ false → (next : Option NodeRef) → Finds d next (next_of f child.label) → find test (rest_at d next) ≡ find test (rest_at d o)
    find_next off next finds = rw (finds.is, rest_is d law node o child is held inner, off) refl

-- ---- from a node back

-- the parent of a node, or no node
abbrev pub holder : Whole → NodeRef → NodeRef
holder d node = record { slot = 0; label = unwrap_or (parent_of d.state.trees node.label) 0 }

module _ (d : Whole) (law : IsDoc d) (node : NodeRef) where
  abbrev g : Forest Content
  g = d.state.trees

  once : IsDistinct g
  once = law.valid.forest.distinct

  before_child : (o : Option ℕ) → parent_of g node.label ≡ o → IsChild g (unwrap_or o 0) (prev_of g node.label)
  before_child None root = rw root tt
  before_child (Some p) up = child_by g (prev_of g node.label) p (λ k e. parent_of-prev_sibling g once node.label k p up e)

  pub before_is_child : (prev : Option NodeRef) → Finds d prev (prev_of g node.label) → IsChild g (holder d node).label (label_of prev)
  before_is_child prev finds = rw finds.is (before_child (parent_of g node.label) refl)

  -- the siblings up to the one before a node are those before it
  front_before : (o : Option ℕ) → parent_of g node.label ≡ o → last_visible d.state (up_to (children_of g (unwrap_or o 0)) (prev_of g node.label)) ≡ shown_before d.state node.label
  unfolding shown_before last_visible
  front_before None root = rw root refl
  front_before (Some p) up =
      rw up (ap (last_visible d.state) (up_to_before (children_of g p) node.label (λ n. times-children_of g p n once) (child_there g node.label p once up)))

  pub shown_from : (prev : Option NodeRef) → Finds d prev (prev_of g node.label) → last_visible d.state (front_at d (holder d node) prev) ≡ shown_before d.state node.label
  shown_from prev finds = ap (λ q. last_visible d.state (up_to (children_of g (holder d node).label) q)) finds.is ∙ front_before (parent_of g node.label) refl
