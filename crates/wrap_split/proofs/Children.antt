-- Walks over the children of a node: from the first on, and from the last back.
use Rattle.std.proofs.Common.{◌≡◌, ℕ, ◌<◌, false, true, List, [], ◌∷◌, ◌++◌, length, Option, Some, None, refl, sym, ap, ◌∙◌, subst}
use Rattle.std.specs.Option.{option_and_then, option_map_or}
use Rattle.edit_model.specs.DomModel.declared.Content.{Content}
use Rattle.edit_model.specs.DomModel.Forest.{Forest, Seen, IsDistinct, times, parent_of, children_of, last_of, next_of, prev_of, before_in}
use Rattle.edit_model.proofs.DomModel.Links.{child_of_parent, times-children_of}
use Rattle.edit_model.proofs.DomModel.Neighbours.{parent_of-last, parent_of-prev_sibling}
use Rattle.edit_model.specs.NodeArena.declared.NodeRef.{NodeRef}
use Rattle.edit_model.specs.Gives.{label_of}
use Rattle.edit_actions.specs.EditDoc.Whole.{Whole, IsDoc}
use Rattle.edit_actions.specs.EditDoc.Held.{IfHeld, Finds}
use Rattle.edit_actions.proofs.EditDoc.Children.{IsChild, child_is}
use Rattle.edit_actions.specs.Siblings.{until}
use Rattle.edit_actions.proofs.Children.{rest_at, rest_is}
use Rattle.wrap_split.specs.Walks.{is_invisible}
use Rattle.wrap_split.specs.Wrap.{first_visible, last_visible}
use Rattle.wrap_split.proofs.Backward.{up_to, IsOnce, up_to_last, up_to_before, last_visible-push, shorter}

-- the children up to a place
abbrev pub front_at : Whole → NodeRef → Option NodeRef → List ℕ
front_at d node o = up_to (children_of d.state.trees node.label) (label_of o)

-- ---- at the end of a walk

pub first_none : (d : Whole) (o : Option NodeRef) → o ≡ None → first_visible d.state (rest_at d o) ≡ None
unfolding first_visible
first_none d o none = rw none refl

pub last_none : (d : Whole) (node : NodeRef) (o : Option NodeRef) → o ≡ None → last_visible d.state (front_at d node o) ≡ None
unfolding last_visible
last_none d node o none = rw none refl

pub child_there : (f : Forest Content) (l p : ℕ) → IsDistinct f → parent_of f l ≡ Some p → 0 < times (children_of f p) l
child_there f l p once child =
    let r = child_of_parent f l p once child in
    subst (λ (o : Option (Seen Content)). 0 < times (option_map_or (λ (s : Seen Content). s.children) o []) l) (sym r.2) r.3

pub child_by : (f : Forest Content) (o : Option ℕ) (p : ℕ) → ((k : ℕ) → o ≡ Some k → parent_of f k ≡ Some p) → IsChild f p o
child_by f None p h = tt
child_by f (Some k) p h = h k refl

module _ (d : Whole) (law : IsDoc d) (node : NodeRef) where
  abbrev f : Forest Content
  f = d.state.trees

  once : IsDistinct f
  once = law.valid.forest.distinct

  kids_once : IsOnce (children_of f node.label)
  kids_once n = times-children_of f node.label n once

  pub last_child_is : (last : Option NodeRef) → Finds d last (last_of f node.label) → IsChild f node.label (label_of last)
  last_child_is last finds = rw finds.is (child_by f (last_of f node.label) node.label (λ k e. parent_of-last f once node.label k e))

  pub all_front : (last : Option NodeRef) → Finds d last (last_of f node.label) → front_at d node last ≡ children_of f node.label
  all_front last finds = ap (up_to (children_of f node.label)) finds.is ∙ up_to_last (children_of f node.label) kids_once

  module _ (o : Option NodeRef) (child : NodeRef) (is : o ≡ Some child) (held : IfHeld d o) (inner : IsChild f node.label (label_of o)) where
    child_parent : parent_of f child.label ≡ Some node.label
    child_parent = child_is d law node o child is held inner

    -- ---- the first visible child

    pub first_here : is_invisible d.state child.label ≡ false → first_visible d.state (rest_at d o) ≡ Some child.label
    unfolding first_visible
    first_here shown = rw (rest_is d law node o child is held inner, shown) refl

    pub first_next : is_invisible d.state child.label ≡ true → (next : Option NodeRef) → Finds d next (next_of f child.label) → first_visible d.state (rest_at d next) ≡ first_visible d.state (rest_at d o)
    unfolding first_visible
    first_next hidden next finds = rw (finds.is, rest_is d law node o child is held inner, hidden) refl

    -- ---- the last visible child

    front_is : front_at d node o ≡ until child.label (children_of f node.label) ++ (child.label ∷ [])
    front_is = ap (λ q. front_at d node q) is

    before_is : (prev : Option NodeRef) → Finds d prev (prev_of f child.label) → front_at d node prev ≡ until child.label (children_of f node.label)
    before_is prev finds =
        ap (up_to (children_of f node.label)) (finds.is ∙ ap (λ q. option_and_then (λ p. before_in (children_of f p) child.label) q) child_parent)
        ∙ up_to_before (children_of f node.label) child.label kids_once (child_there f child.label node.label once child_parent)

    pub prev_child_is : (prev : Option NodeRef) → Finds d prev (prev_of f child.label) → IsChild f node.label (label_of prev)
    prev_child_is prev finds = rw finds.is (child_by f (prev_of f child.label) node.label (λ k e. parent_of-prev_sibling f once child.label k node.label child_parent e))

    pub prev_smaller : (prev : Option NodeRef) → Finds d prev (prev_of f child.label) → length (front_at d node prev) < length (front_at d node o)
    prev_smaller prev finds = rw (before_is prev finds, front_is) (shorter (children_of f node.label) child.label)

    pub last_here : is_invisible d.state child.label ≡ false → last_visible d.state (front_at d node o) ≡ Some child.label
    last_here shown = ap (last_visible d.state) front_is ∙ (last_visible-push d.state (until child.label (children_of f node.label)) child.label ∙ rw shown refl)

    pub last_next : is_invisible d.state child.label ≡ true → (prev : Option NodeRef) → Finds d prev (prev_of f child.label) → last_visible d.state (front_at d node prev) ≡ last_visible d.state (front_at d node o)
    last_next hidden prev finds =
        ap (last_visible d.state) (before_is prev finds)
        ∙ sym (ap (last_visible d.state) front_is ∙ (last_visible-push d.state (until child.label (children_of f node.label)) child.label ∙ rw hidden refl))
