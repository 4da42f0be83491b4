-- What setting an attribute owes.
use Rattle.std.proofs.Common.{◌≡◌, true, false, refl, sym, ap, ◌∙◌, Some}
use Rattle.std.specs.Option.{option_and_then}
use Rattle.edit_model.specs.DomModel.declared.Content.TheVariants.{Element}
use Rattle.edit_model.specs.DomModel.AttributeList.{set_in}
use Rattle.edit_model.specs.Confined.{has_value}
use Rattle.edit_model.specs.DomModel.Contents.{attributes_in}
use Rattle.edit_model.specs.DomModel.Forest.{content_of}
use Rattle.edit_model.proofs.Giving.{gives_left}
use Rattle.edit_model.specs.Edit.{Set}
use Rattle.edit_doc.proofs.Attributed.{not_own_set, no_list_set, not_set_here, may_set_here, set_fits, counted_redressed, set_done, no_list}
use Rattle.edit_doc.proofs.Edited.{Done, keeps_same}
use Rattle.edit_doc.proofs.SeenNodes.{shows_of, held_seen, attributes_seen}
use Rattle.edit_doc.proofs.Doc.set_attribute.Goals as goal

pub returns-then-not-is_own-clause-gives : goal.returns-then-not-is_own-clause-gives
returns-then-not-is_own-clause-gives c =
    let a = c.args in
    gives_left (Set a.node.label a.name.now a.value.now) a.self.now.state a.self.now.state (not_own_set a.self.now.state a.node.label a.name.now a.value.now (sym c.is_own.ensures ∙ c.if-not-is_own.true)) refl

pub returns-in_default : goal.returns-in_default
returns-in_default c =
    let a = c.args in
    let none = attributes_seen (shows_of c.self.inside c.valid.ensures a.self.now c.self.view_is) a.node c.requires.node_held ∙ (ap (option_and_then attributes_in) c.content.ensures ∙ no_list c.content.result.now c.in_default.not-Element) in
    record {
      gives = gives_left (Set a.node.label a.name.now a.value.now) a.self.now.state a.self.now.state (no_list_set a.self.now.state a.node.label a.name.now a.value.now none) refl;
      keeps = keeps_same a.self.now;
      err = tt;
    }

pub returns-then-has_value-clause-gives : goal.returns-then-has_value-clause-gives
returns-then-has_value-clause-gives c =
    let a = c.args in
    let k = c.in-Element in
    let content : content_of c.self.inside.tree.nodes.arena.trees a.node.label ≡ Some (Element k.name k.attributes) = c.content.ensures ∙ ap Some k.is in
    let same : has_value k.attributes a.name.now a.value.now ≡ true = sym c.has_value.ensures ∙ c.if-has_value.true in
    gives_left (Set a.node.label a.name.now a.value.now) a.self.now.state a.self.now.state (not_set_here c.self.inside a.self.now c.self.view_is c.valid.ensures c.slotted.ensures c.requires.open c.self.invariant a.node c.requires.node_held k.name k.attributes content a.name.now a.value.now same) refl

pub change-requires-clause-fits : goal.change-requires-clause-fits
change-requires-clause-fits c =
    let a = c.args in
    let k = c.in-Element in
    let here = held_seen c.self.inside a.self.now c.self.view_is a.node c.requires.node_held in
    let same : c.set.new.self ≡ set_in k.attributes a.name.now a.value.now = c.in_ok-set.ensures.ok ∙ ap (λ xs. set_in xs a.name.now a.value.now) c.in_ok-list.ensures in
    set_fits c.self.inside c.valid.ensures c.slotted.ensures c.self.invariant a.node here.slot here.here k.name k.attributes c.set.new.self (c.content.ensures ∙ ap Some k.is) a.name.now a.value.now same

pub change-requires-clause-counted : goal.change-requires-clause-counted
change-requires-clause-counted c =
    let a = c.args in
    let k = c.in-Element in
    let here = held_seen c.self.inside a.self.now c.self.view_is a.node c.requires.node_held in
    counted_redressed c.self.inside c.valid.ensures c.slotted.ensures c.self.invariant a.node here.slot here.here k.name k.attributes c.set.new.self (c.content.ensures ∙ ap Some k.is)

done : (c : goal.After-name) → Done c.self.inside c.args.self.now (Set c.args.node.label c.args.name.now c.args.value.now) c.change.new.self.arena c.self.inside.tree.points c.self.inside.tree.overrides c.name.new.self c.change.new.history
done c =
    let a = c.args in
    let k = c.in-Element in
    let content : content_of c.self.inside.tree.nodes.arena.trees a.node.label ≡ Some (Element k.name k.attributes) = c.content.ensures ∙ ap Some k.is in
    let same : c.set.new.self ≡ set_in k.attributes a.name.now a.value.now = c.in_ok-set.ensures.ok ∙ ap (λ xs. set_in xs a.name.now a.value.now) c.in_ok-list.ensures in
    let other : has_value k.attributes a.name.now a.value.now ≡ false = sym c.has_value.ensures ∙ c.if-has_value.false in
    let may = may_set_here c.self.inside a.self.now c.self.view_is c.valid.ensures c.slotted.ensures c.requires.open c.self.invariant a.node c.requires.node_held k.name k.attributes content a.name.now a.value.now (sym c.is_own.ensures ∙ c.if-not-is_own.false) other in
    set_done c.self.inside a.self.now c.self.view_is c.valid.ensures c.slotted.ensures c.requires.open c.self.invariant a.node c.requires.node_held k.name k.attributes content c.set.new.self c.name.new.self c.name.ensures c.change.new.self.arena c.change.new.history c.in_ok-change.ensures.arena c.in_ok-change.ensures.history a.name.now a.value.now same may

pub invariant_of-self-2 : goal.invariant_of-self-2
invariant_of-self-2 c = (done c).invariant

pub returns-clause-gives : goal.returns-clause-gives
returns-clause-gives c = (done c).gives

pub returns-clause-keeps : goal.returns-clause-keeps
returns-clause-keeps c = (done c).keeps
