-- Whether a child of a node is visible, by steps from the first child.
use Rattle.std.proofs.Common.{◌≡◌, Bool, true, false, Option, Some, None, refl, sym, ap, ◌∙◌}
use Rattle.std.specs.List.{list_any}
use Rattle.edit_model.specs.DomModel.Forest.{first_of, next_of}
use Rattle.edit_model.specs.NodeArena.declared.NodeRef.{NodeRef}
use Rattle.inline_value.specs.NodeTests.Visible.{is_visible}
use Rattle.edit_model.specs.Gives.{label_of}
use Rattle.inline_value.specs.EditDoc.Whole.{Whole, IsDoc}
use Rattle.inline_value.specs.EditDoc.Held.{Holds, IfHeld, Finds}
use Rattle.inline_value.proofs.EditDoc.Children.{IsChild}
use Rattle.inline_value.proofs.EditActions.Children.{rest_at, all_rest, rest_is}
use Rattle.delete_core.specs.Erasing.{shows_child}

pub none_shows : (d : Whole) (o : Option NodeRef) → o ≡ None → list_any (is_visible d.state.trees) (rest_at d o) ≡ false
none_shows d o is = rw is refl

module _ (d : Whole) (law : IsDoc d) (node : NodeRef) where
  pub shows_first : Holds d node → (first : Option NodeRef) → Finds d first (first_of d.state.trees node.label) → list_any (is_visible d.state.trees) (rest_at d first) ≡ shows_child d.state.trees node.label
  unfolding shows_child
  shows_first held first finds = ap (list_any (is_visible d.state.trees)) (all_rest d law node held first finds)

  module _ (o : Option NodeRef) (child : NodeRef) (is : o ≡ Some child) (held : IfHeld d o) (inner : IsChild d.state.trees node.label (label_of o)) where
    pub shows_here : is_visible d.state.trees child.label ≡ true → list_any (is_visible d.state.trees) (rest_at d o) ≡ true
    shows_here seen = rw (rest_is d law node o child is held inner, seen) refl

    pub shows_next : is_visible d.state.trees child.label ≡ false → (next : Option NodeRef) → Finds d next (next_of d.state.trees child.label)
        → list_any (is_visible d.state.trees) (rest_at d next) ≡ list_any (is_visible d.state.trees) (rest_at d o)
    shows_next hidden next finds = rw (rest_is d law node o child is held inner, hidden, finds.is) refl
