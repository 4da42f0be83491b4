-- The node at a path, and the path of a node, where an arena has hidden trees beside the document.
use Rattle.std.proofs.Common.{◌≡◌, ℕ, ◌<◌, true, List, Option, Some, None, IfSome, refl, sym, ap, subst, ◌∙◌}
use Rattle.edit_model.specs.DomModel.declared.Content.{Content}
use Rattle.edit_model.specs.DomModel.Forest.{Forest, count_of, tree_of, IsWithin}
use Rattle.edit_model.specs.DomModel.ArenaState as arena
use Rattle.edit_model.specs.NodeArena.declared.NodeRef.{NodeRef}
use Rattle.edit_model.specs.NodeArena.Held.{NamesHeld, label}
use Rattle.inline_value.specs.NodePaths.Paths.{label_at, path_of, node_text}
use Rattle.page_write.proofs.Placing.{within_count}
use Rattle.edit_model.specs.PointOrder.PointOrder.{is_in_document}
use Rattle.edit_model.specs.Gives.{label_of}
use Rattle.edit_model.specs.History.{rested}
use Rattle.edit_model.specs.Valid.{IsForest}
use Rattle.edit_model.specs.State.{State}
use Rattle.inline_value.specs.EditDoc.Held.{Finds, Holds}
use Rattle.inline_value.specs.EditDoc.Whole.{Whole}
use Rattle.edit_engine.proofs.Seeing.{Same, label_same, path_inside, in_document}

-- what an arena finds at a path is what the document finds there
pub record FoundAt (d : Whole) (o : Option NodeRef) (path : List ℕ) : Type 0 where
  pub found : Finds d o (label_at d.state.trees path)
  pub inner : IfSome o (λ r. is_in_document d.state.trees r.label ≡ true)

pub found_at : (d : Whole) (a : arena.ArenaState) (next : ℕ) → Same a.trees d.state.trees → IsForest d.state.trees next → a.held ≡ d.held → (path : List ℕ) (o : Option NodeRef) → NamesHeld a o (label_at a.trees path) → FoundAt d o path
found_at d a next s law held path None names = record { found = record { is = names.is ∙ label_same a.trees d.state.trees s path; held = tt }; inner = tt }
found_at d a next s law held path (Some r) names =
    let at : Some r.label ≡ label_at d.state.trees path = names.is ∙ label_same a.trees d.state.trees s path in
    let inner : IsWithin d.state.trees 0 r.label = path_inside d.state.trees next law path r.label (sym at) in
    let h : Holds d r = record { slot = rw (← held) names.held; here = within_count d.state.trees 0 r.label inner } in
    record { found = record { is = at; held = h }; inner = in_document d.state.trees r.label inner }

-- two words for the label of a node, if there is one
pub by_label : (o : Option NodeRef) → label o ≡ label_of o
by_label None = refl
by_label (Some r) = refl

pub text_same : (f g : Forest Content) → Same f g → (l : ℕ) → node_text f l ≡ node_text g l
unfolding node_text path_of
text_same f g s l = ap (λ x. node_text x l) s.first ∙ sym (ap (λ x. node_text x l) s.second)

-- outside commands all nodes are in the document
pub all_inside : (s : State) → rested s ≡ s → (l : ℕ) → 0 < count_of s.trees l → IsWithin s.trees 0 l
unfolding rested
all_inside s rest l here =
    let e : tree_of s.trees 0 ≡ s.trees = ap (λ (t : State). t.trees) rest in
    subst (λ t. 0 < count_of t l) (sym e) here
