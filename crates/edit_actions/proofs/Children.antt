-- Walks over the children of a node up to one of them.
use Rattle.std.proofs.Common.{◌≡◌, ◌≢◌, ℕ, List, [], ◌∷◌, ◌++◌, Option, Some, None, refl, sym, ap, ◌∙◌}
use Rattle.std.proofs.lemmas.Bool.{eq-eqb, ne_eqb}
use Rattle.edit_model.specs.DomModel.declared.Content.{Content}
use Rattle.edit_model.specs.DomModel.Forest.{Forest, tops, children_of, first_of, next_of}
use Rattle.edit_model.specs.NodeArena.declared.NodeRef.{NodeRef}
use Rattle.edit_model.specs.Gives.{label_of, labels_of}
use Rattle.edit_model.proofs.Steps.{labels_of_push}
use Rattle.edit_doc.specs.Whole.{Whole, IsDoc}
use Rattle.edit_doc.specs.Held.{Holds, IfHeld, Finds}
use Rattle.edit_doc.proofs.Children.{onward_at, IsChild, first_made, child_first}
use Rattle.edit_actions.specs.Siblings.{until}

-- the children from a place on
abbrev pub rest_at : Whole → Option NodeRef → List ℕ
rest_at d o = tops (onward_at d.state.trees (label_of o))

pub until_none : (d : Whole) (end : NodeRef) (o : Option NodeRef) → o ≡ None → until end.label (rest_at d o) ≡ []
unfolding until
until_none d end o none = rw none refl

module _ (d : Whole) (law : IsDoc d) (node : NodeRef) where
  abbrev f : Forest Content
  f = d.state.trees

  pub all_rest : Holds d node → (first : Option NodeRef) → Finds d first (first_of f node.label) → rest_at d first ≡ children_of f node.label
  all_rest held first finds = first_made d law node held first finds [] refl

  pub none_until : Holds d node → (end : NodeRef) (first : Option NodeRef) → Finds d first (first_of f node.label) → (xs : List NodeRef) → xs ≡ [] → labels_of xs ++ until end.label (rest_at d first) ≡ until end.label (children_of f node.label)
  none_until held end first finds xs none = rw none (ap (until end.label) (all_rest held first finds))

  module _ (o : Option NodeRef) (child : NodeRef) (is : o ≡ Some child) (held : IfHeld d o) (inner : IsChild f node.label (label_of o)) where
    pub rest_is : rest_at d o ≡ child.label ∷ tops (onward_at f (next_of f child.label))
    rest_is = child_first d law node o child is held inner

    pub until_here : (end : NodeRef) → child.label ≡ end.label → until end.label (rest_at d o) ≡ []
    unfolding until
    until_here end same = rw (rest_is, eq-eqb child.label end.label same) refl

    pub until_next : (end : NodeRef) → child.label ≢ end.label → (next : Option NodeRef) → Finds d next (next_of f child.label) → (old new : List NodeRef) (whole : List ℕ)
        → labels_of old ++ until end.label (rest_at d o) ≡ whole → new ≡ old ++ (child ∷ []) → labels_of new ++ until end.label (rest_at d next) ≡ whole
    unfolding until
    until_next end other next finds old new whole before more =
        let here : until end.label (rest_at d o) ≡ child.label ∷ until end.label (tops (onward_at f (next_of f child.label))) = ap (until end.label) rest_is ∙ rw (ne_eqb child.label end.label other) refl in
        rw (more, finds.is) (labels_of_push old child (until end.label (tops (onward_at f (next_of f child.label)))) ∙ (ap (λ xs. labels_of old ++ xs) (sym here) ∙ before))
