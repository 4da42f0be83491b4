-- What unsetting an attribute owes.
use Rattle.std.proofs.Common.{◌≡◌, true, false, not, refl, sym, ap, ◌∙◌, Some}
use Rattle.std.specs.Option.{option_map_or, option_and_then}
use Rattle.edit_model.specs.DomModel.declared.Content.TheVariants.{Element}
use Rattle.edit_model.specs.DomModel.AttributeList.{value_of, unset_in}
use Rattle.edit_model.specs.DomModel.Contents.{attributes_in}
use Rattle.edit_model.specs.DomModel.Forest.{content_of}
use Rattle.edit_model.proofs.Giving.{gives_left}
use Rattle.edit_model.specs.Edit.{Unset}
use Rattle.edit_doc.proofs.Attributed.{not_own_unset, no_list_unset, not_unset_here, may_unset_here, unset_fits, counted_redressed, unset_done, no_list, copied_some}
use Rattle.edit_doc.proofs.Edited.{Done, keeps_same}
use Rattle.edit_doc.proofs.SeenNodes.{shows_of, held_seen, attributes_seen}
use Rattle.edit_doc.proofs.Doc.unset_attribute.Goals as goal

pub returns-then-not-is_own-clause-gives : goal.returns-then-not-is_own-clause-gives
returns-then-not-is_own-clause-gives c =
    let a = c.args in
    gives_left (Unset a.node.label a.name.now) a.self.now.state a.self.now.state (not_own_unset a.self.now.state a.node.label a.name.now (sym c.is_own.ensures ∙ c.if-not-is_own.true)) refl

pub returns-in_default : goal.returns-in_default
returns-in_default c =
    let a = c.args in
    let none = attributes_seen (shows_of c.self.inside c.valid.ensures a.self.now c.self.view_is) a.node c.requires.node_held ∙ (ap (option_and_then attributes_in) c.content.ensures ∙ no_list c.content.result.now c.in_default.not-Element) in
    record {
      gives = gives_left (Unset a.node.label a.name.now) a.self.now.state a.self.now.state (no_list_unset a.self.now.state a.node.label a.name.now none) refl;
      keeps = keeps_same a.self.now;
      err = tt;
    }

pub returns-then-is_none-clause-gives : goal.returns-then-is_none-clause-gives
returns-then-is_none-clause-gives c =
    let a = c.args in
    let k = c.in-Element in
    let content : content_of c.self.inside.tree.nodes.arena.trees a.node.label ≡ Some (Element k.name k.attributes) = c.content.ensures ∙ ap Some k.is in
    let none : option_map_or (λ _. true) (value_of k.attributes a.name.now) false ≡ false = ap (λ o. option_map_or (λ _. true) o false) (ap (value_of k.attributes) (sym c.as_slice.ensures) ∙ sym c.get.ensures) ∙ (copied_some c.get.result ∙ (c.is_none.ensures ∙ ap not c.if-is_none.true)) in
    gives_left (Unset a.node.label a.name.now) a.self.now.state a.self.now.state (not_unset_here c.self.inside a.self.now c.self.view_is c.valid.ensures c.slotted.ensures c.requires.open c.self.invariant a.node c.requires.node_held k.name k.attributes content a.name.now none) refl

pub change-requires-clause-fits : goal.change-requires-clause-fits
change-requires-clause-fits c =
    let a = c.args in
    let k = c.in-Element in
    let here = held_seen c.self.inside a.self.now c.self.view_is a.node c.requires.node_held in
    let same : c.unset.new.self ≡ unset_in k.attributes a.name.now = c.unset.ensures.left ∙ (λ i. unset_in (c.in_ok-list.ensures i) (c.as_slice-2.ensures i)) in
    unset_fits c.self.inside c.valid.ensures c.slotted.ensures c.self.invariant a.node here.slot here.here k.name k.attributes c.unset.new.self (c.content.ensures ∙ ap Some k.is) a.name.now same

pub change-requires-clause-counted : goal.change-requires-clause-counted
change-requires-clause-counted c =
    let a = c.args in
    let k = c.in-Element in
    let here = held_seen c.self.inside a.self.now c.self.view_is a.node c.requires.node_held in
    counted_redressed c.self.inside c.valid.ensures c.slotted.ensures c.self.invariant a.node here.slot here.here k.name k.attributes c.unset.new.self (c.content.ensures ∙ ap Some k.is)

done : (c : goal.After-name) → Done c.self.inside c.args.self.now (Unset c.args.node.label c.args.name.now) c.change.new.self.arena c.self.inside.tree.points c.self.inside.tree.overrides c.name.new.self c.change.new.history
done c =
    let a = c.args in
    let k = c.in-Element in
    let content : content_of c.self.inside.tree.nodes.arena.trees a.node.label ≡ Some (Element k.name k.attributes) = c.content.ensures ∙ ap Some k.is in
    let same : c.unset.new.self ≡ unset_in k.attributes a.name.now = c.unset.ensures.left ∙ (λ i. unset_in (c.in_ok-list.ensures i) (c.as_slice-2.ensures i)) in
    let some : option_map_or (λ _. true) (value_of k.attributes a.name.now) false ≡ true = ap (λ o. option_map_or (λ _. true) o false) (ap (value_of k.attributes) (sym c.as_slice.ensures) ∙ sym c.get.ensures) ∙ (copied_some c.get.result ∙ (c.is_none.ensures ∙ ap not c.if-is_none.false)) in
    let may = may_unset_here c.self.inside a.self.now c.self.view_is c.valid.ensures c.slotted.ensures c.requires.open c.self.invariant a.node c.requires.node_held k.name k.attributes content a.name.now (sym c.is_own.ensures ∙ c.if-not-is_own.false) some in
    unset_done c.self.inside a.self.now c.self.view_is c.valid.ensures c.slotted.ensures c.requires.open c.self.invariant a.node c.requires.node_held k.name k.attributes content c.unset.new.self c.name.new.self c.name.ensures c.change.new.self.arena c.change.new.history c.in_ok-change.ensures.arena c.in_ok-change.ensures.history a.name.now same may

pub invariant_of-self-2 : goal.invariant_of-self-2
invariant_of-self-2 c = (done c).invariant

pub returns-clause-gives : goal.returns-clause-gives
returns-clause-gives c = (done c).gives

pub returns-clause-keeps : goal.returns-clause-keeps
returns-clause-keeps c = (done c).keeps
