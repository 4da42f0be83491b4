-- What a call of one action gives of its run, where the action is made and where it is left out.
use Rattle.std.proofs.Common.{◌≡◌, ℕ, ◌≤◌, true, false, List, Ok, Err, refl, sym, ap, ◌∙◌, arith}
use Rattle.point_order.specs.DomModel.declared.Content.{Content}
use Rattle.point_order.specs.DomModel.declared.Content.TheVariants.{Element}
use Rattle.point_order.specs.DomModel.declared.attributes.Attribute.{Attribute}
use Rattle.point_order.specs.DomModel.AttributeList.{IsDistinctNames}
use Rattle.point_order.specs.DomModel.Forest.{Forest}
use Rattle.point_order.proofs.DomModel.AttributeLemmas.{distinct_told}
use Rattle.point_order.specs.NodeArena.declared.NodeRef.{NodeRef}
use Rattle.edit_model.specs.declared.settings.EditFault.TheVariants.{Full}
use Rattle.edit_model.specs.State.{State, IsPastCap}
use Rattle.edit_model.specs.Edit.{Edit, is_made_edit, trees_after, points_after, changed, change_of, with_change, edited}
use Rattle.edit_model.specs.Action.{made, words_content, element_content}
use Rattle.edit_model.specs.Run.{final, edit, make_element, make_words}
use Rattle.edit_model.specs.Gives.{Gives, GivesNode}
use Rattle.edit_model.proofs.Steps.{final-edit, value-edit, final-make_element, value-make_element, final-make_words, value-make_words}

-- ---- an edit

-- the state after an edit that is made
abbrev pub after_edit : Edit → State → State
after_edit e s = with_change (change_of e s.trees) (changed s (trees_after e s.trees) (points_after e s.trees s.points))

pub edited-made : (e : Edit) (s : State) → is_made_edit e s ≡ true → edited e s ≡ after_edit e s
unfolding edited
edited-made e s may = rw may refl

pub edited-left : (e : Edit) (s : State) → is_made_edit e s ≡ false → edited e s ≡ s
unfolding edited
edited-left e s off = rw off refl

pub gives_made : (e : Edit) (s t : State) → is_made_edit e s ≡ true → t ≡ after_edit e s → Gives (Ok true) s t (edit e)
gives_made e s t may is = (final-edit e s ∙ (edited-made e s may ∙ sym is), value-edit e s ∙ may)

pub gives_left : (e : Edit) (s t : State) → is_made_edit e s ≡ false → t ≡ s → Gives (Ok false) s t (edit e)
gives_left e s t off is = (final-edit e s ∙ (edited-left e s off ∙ sym is), value-edit e s ∙ off)

-- ---- making a node

-- names that are distinct are kept as they are
pub distinct_element : (name : List ℕ) (attributes : List Attribute) → IsDistinctNames attributes → element_content name attributes ≡ Element name attributes
distinct_element name attributes distinct = rw (distinct_told attributes distinct) refl

-- the run that makes it
pub final_distinct_element : (name : List ℕ) (attributes : List Attribute) (s : State) → IsDistinctNames attributes → final (make_element name attributes) s ≡ made (Element name attributes) s
final_distinct_element name attributes s distinct = final-make_element name attributes s ∙ ap (λ c. made c s) (distinct_element name attributes distinct)

pub gives_element : (name : List ℕ) (attributes : List Attribute) (s t : State) (node : NodeRef) → node.label ≡ s.next → IsDistinctNames attributes → t ≡ made (Element name attributes) s → GivesNode (Ok node) s t (make_element name attributes)
gives_element name attributes s t node label distinct is = (final_distinct_element name attributes s distinct ∙ sym is, value-make_element name attributes s ∙ sym label)

pub gives_words : (chars : List ℕ) (s t : State) (node : NodeRef) → node.label ≡ s.next → t ≡ made (words_content chars) s → GivesNode (Ok node) s t (make_words chars)
gives_words chars s t node label is = (final-make_words chars s ∙ sym is, value-make_words chars s ∙ sym label)

-- at the cap the run goes past it
pub over_made : (c : Content) (s : State) → s.cap ≤ s.next → IsPastCap (made c s)
unfolding made
over_made c s full = record { past = omega arith }

pub gives_full_element : (name : List ℕ) (attributes : List Attribute) (s t : State) → s.cap ≤ s.next → GivesNode (Err Full) s t (make_element name attributes)
gives_full_element name attributes s t full = rw (final-make_element name attributes s) (over_made (element_content name attributes) s full)

pub gives_full_words : (chars : List ℕ) (s t : State) → s.cap ≤ s.next → GivesNode (Err Full) s t (make_words chars)
gives_full_words chars s t full = rw (final-make_words chars s) (over_made (words_content chars) s full)
