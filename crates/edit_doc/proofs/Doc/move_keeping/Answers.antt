use Rattle.std.proofs.Common.{◌≡◌, Option, Some, None, refl, sym, ap, subst, ◌∙◌}
use Rattle.std.specs.Prelude.{slice_index_or}
use Rattle.edit_model.specs.DomModel.Forest.{parent_of}
use Rattle.edit_model.specs.NodeArena.declared.NodeRef.{NodeRef}
use Rattle.edit_model.specs.NodeArena.Held.{label, NamesHeld}
use Rattle.edit_model.specs.Edit.{Move}
use Rattle.edit_model.specs.Gives.{label_of}
use Rattle.edit_model.proofs.Giving.{gives_left}
use Rattle.edit_parts.specs.Following.{unset_if_range_changed}
use Rattle.edit_doc.specs.declared.Doc.TheInside.{Inside}
use Rattle.edit_doc.specs.Fields.{comes_in}
use Rattle.edit_doc.specs.Held.{Holds, IfHeld}
use Rattle.edit_doc.specs.Marks.{place_labels}
use Rattle.edit_doc.proofs.Edited.{Done}
use Rattle.edit_doc.proofs.Moving.{not_moved, fits, place_markable, markable_after, nodes_fit, chars_fit, counted_moved, held_here, points_fit, up_to_end, placed, stands, move_done}
use Rattle.edit_doc.proofs.Settling.{points_now}
use Rattle.edit_doc.proofs.SeenNodes.{shows_of, held_seen, parent_seen, finds_parent, finds_next}
use Rattle.edit_doc.proofs.Doc.move_keeping.Goals as goal

up : (d : Inside) (node from : NodeRef) (o : Option NodeRef) → NamesHeld d.tree.nodes.arena o (parent_of d.tree.nodes.arena.trees node.label) → o ≡ Some from → parent_of d.tree.nodes.arena.trees node.label ≡ Some from.label
up d node from o h e = sym h.is ∙ ap label e

pub returns-in_default-clause-gives : goal.returns-in_default-clause-gives
returns-in_default-clause-gives c =
    let a = c.args in
    let none : parent_of c.self.inside.tree.nodes.arena.trees a.node.label ≡ None = sym c.parent.ensures.is ∙ by_option c.parent.result c.in_default.not-Some in
    gives_left (Move a.node.label a.parent.label (label_of a.before)) a.self.now.state a.self.now.state (not_moved a.self.now.state a.node.label a.parent.label (label_of a.before) None (parent_seen (shows_of c.self.inside c.valid.ensures a.self.now c.self.view_is) a.node c.requires.node_held ∙ none) refl) refl
  where
    by_option : (o : Option NodeRef) → ((r : NodeRef) → o ≡ Some r → ⊥) → label o ≡ None
    by_option None h = refl
    by_option (Some r) h = absurd (h r refl)

from_held : (d : Inside) (v : _) (o : Option NodeRef) (r : NodeRef) → IfHeld v o → o ≡ Some r → Holds v r
from_held d v o r h e = subst (IfHeld v) e h

pub may_go-requires-clause-from_held : goal.may_go-requires-clause-from_held
may_go-requires-clause-from_held c =
    let a = c.args in
    from_held c.self.inside a.self.now c.parent.result c.in-Some.from (finds_parent (shows_of c.self.inside c.valid.ensures a.self.now c.self.view_is) a.node c.requires.node_held c.parent.result c.parent.ensures).held c.in-Some.is

pub returns-then-not-may_go-clause-gives : goal.returns-then-not-may_go-clause-gives
returns-then-not-may_go-clause-gives c =
    let a = c.args in
    gives_left (Move a.node.label a.parent.label (label_of a.before)) a.self.now.state a.self.now.state
    (not_moved a.self.now.state a.node.label a.parent.label (label_of a.before) (Some c.in-Some.from.label) (parent_seen (shows_of c.self.inside c.valid.ensures a.self.now c.self.view_is) a.node c.requires.node_held ∙ up c.self.inside a.node c.in-Some.from c.parent.result c.parent.ensures c.in-Some.is) (sym c.may_go.ensures ∙ c.if-not-may_go.true)) refl

pub watch-watch-requires : goal.watch-watch-requires
watch-watch-requires c = (points_now c.self.inside c.valid.ensures c.self.invariant).selection

pub counts_moved-counts-requires-clause-nodes : goal.counts_moved-counts-requires-clause-nodes
counts_moved-counts-requires-clause-nodes c = let a = c.args in nodes_fit c.self.inside a.self.now c.self.view_is c.valid.ensures c.slotted.ensures c.requires.open c.self.invariant a.node c.in-Some.from a.parent a.before c.requires.node_held c.requires.parent_held c.requires.before_held (up c.self.inside a.node c.in-Some.from c.parent.result c.parent.ensures c.in-Some.is) (sym c.may_go.ensures ∙ c.if-not-may_go.false) (comes_in c.self.inside.tree.nodes.arena.trees a.node.label a.parent.label) refl

pub counts_moved-counts-requires-clause-chars : goal.counts_moved-counts-requires-clause-chars
counts_moved-counts-requires-clause-chars c = let a = c.args in chars_fit c.self.inside a.self.now c.self.view_is c.valid.ensures c.slotted.ensures c.requires.open c.self.invariant a.node c.in-Some.from a.parent a.before c.requires.node_held c.requires.parent_held c.requires.before_held (up c.self.inside a.node c.in-Some.from c.parent.result c.parent.ensures c.in-Some.is) (sym c.may_go.ensures ∙ c.if-not-may_go.false) (comes_in c.self.inside.tree.nodes.arena.trees a.node.label a.parent.label) refl

pub counts_moved-counts-requires-clause-stands : goal.counts_moved-counts-requires-clause-stands
counts_moved-counts-requires-clause-stands c = let a = c.args in stands c.self.inside a.self.now c.self.view_is c.valid.ensures c.slotted.ensures c.requires.open c.self.invariant a.node c.in-Some.from a.parent a.before c.requires.node_held c.requires.parent_held c.requires.before_held (up c.self.inside a.node c.in-Some.from c.parent.result c.parent.ensures c.in-Some.is) (sym c.may_go.ensures ∙ c.if-not-may_go.false)

pub change-requires-clause-fits : goal.change-requires-clause-fits
change-requires-clause-fits c = let a = c.args in fits c.self.inside a.self.now c.self.view_is c.valid.ensures c.slotted.ensures c.requires.open c.self.invariant a.node c.in-Some.from a.parent a.before c.requires.node_held c.requires.parent_held c.requires.before_held (up c.self.inside a.node c.in-Some.from c.parent.result c.parent.ensures c.in-Some.is) (sym c.may_go.ensures ∙ c.if-not-may_go.false)

pub change-requires-clause-counted : goal.change-requires-clause-counted
change-requires-clause-counted c =
    let a = c.args in
    counted_moved c.self.inside a.self.now c.self.view_is c.valid.ensures c.slotted.ensures c.requires.open c.self.invariant a.node c.in-Some.from a.parent a.before c.requires.node_held c.requires.parent_held c.requires.before_held (up c.self.inside a.node c.in-Some.from c.parent.result c.parent.ensures c.in-Some.is) (sym c.may_go.ensures ∙ c.if-not-may_go.false)
    c.counts_moved-counts.result c.counts_moved-counts.ensures.nodes c.counts_moved-counts.ensures.chars c.counts_moved-counts.ensures.depth

pub name_place-requires : goal.name_place-requires
name_place-requires c =
    let a = c.args in
    let d = c.self.inside in
    place_markable c.self.inside a.self.now c.self.view_is c.valid.ensures c.slotted.ensures c.requires.open c.self.invariant a.node c.in-Some.from a.parent a.before c.requires.node_held c.requires.parent_held c.requires.before_held (up c.self.inside a.node c.in-Some.from c.parent.result c.parent.ensures c.in-Some.is) (sym c.may_go.ensures ∙ c.if-not-may_go.false) a.node c.in-Some.from c.next-next.result c.requires.node_held
    (from_held d a.self.now c.parent.result c.in-Some.from (finds_parent (shows_of d c.valid.ensures a.self.now c.self.view_is) a.node c.requires.node_held c.parent.result c.parent.ensures).held c.in-Some.is)
    (finds_next (shows_of d c.valid.ensures a.self.now c.self.view_is) a.node c.requires.node_held c.next-next.result c.next-next.ensures).held

pub name_place-requires-2 : goal.name_place-requires-2
name_place-requires-2 c =
    let a = c.args in
    markable_after c.self.inside a.self.now c.self.view_is c.valid.ensures c.slotted.ensures c.requires.open c.self.invariant a.node c.in-Some.from a.parent a.before c.requires.node_held c.requires.parent_held c.requires.before_held (up c.self.inside a.node c.in-Some.from c.parent.result c.parent.ensures c.in-Some.is) (sym c.may_go.ensures ∙ c.if-not-may_go.false) c.name_place.new.self (place_labels a.node a.parent a.before) (place_labels a.node c.in-Some.from c.next-next.result) c.name_place.ensures
    (place_markable c.self.inside a.self.now c.self.view_is c.valid.ensures c.slotted.ensures c.requires.open c.self.invariant a.node c.in-Some.from a.parent a.before c.requires.node_held c.requires.parent_held c.requires.before_held (up c.self.inside a.node c.in-Some.from c.parent.result c.parent.ensures c.in-Some.is) (sym c.may_go.ensures ∙ c.if-not-may_go.false) a.node a.parent a.before c.requires.node_held c.requires.parent_held c.requires.before_held)

pub adjust_moved-requires-clause-held : goal.adjust_moved-requires-clause-held
adjust_moved-requires-clause-held c =
    let a = c.args in
    let same = held_here c.self.inside a.self.now c.self.view_is c.valid.ensures c.slotted.ensures c.requires.open c.self.invariant a.node c.in-Some.from a.parent a.before c.requires.node_held c.requires.parent_held c.requires.before_held (up c.self.inside a.node c.in-Some.from c.parent.result c.parent.ensures c.in-Some.is) (sym c.may_go.ensures ∙ c.if-not-may_go.false) c.change.new.self.arena c.in_ok-change.ensures.arena in
    ap (λ h. slice_index_or h a.node.slot None) (sym same) ∙ (held_seen c.self.inside a.self.now c.self.view_is a.node c.requires.node_held).slot

pub adjust_moved-requires-clause-fits : goal.adjust_moved-requires-clause-fits
adjust_moved-requires-clause-fits c = let a = c.args in points_fit c.self.inside a.self.now c.self.view_is c.valid.ensures c.slotted.ensures c.requires.open c.self.invariant a.node c.in-Some.from a.parent a.before c.requires.node_held c.requires.parent_held c.requires.before_held (up c.self.inside a.node c.in-Some.from c.parent.result c.parent.ensures c.in-Some.is) (sym c.may_go.ensures ∙ c.if-not-may_go.false) c.change.new.self.arena c.in_ok-change.ensures.arena c.moving_from-place.result c.moving_from-place.ensures

pub adjust_moved-requires-clause-last : goal.adjust_moved-requires-clause-last
adjust_moved-requires-clause-last c = let a = c.args in up_to_end c.self.inside a.self.now c.self.view_is c.valid.ensures c.slotted.ensures c.requires.open c.self.invariant a.node c.in-Some.from a.parent a.before c.requires.node_held c.requires.parent_held c.requires.before_held (up c.self.inside a.node c.in-Some.from c.parent.result c.parent.ensures c.in-Some.is) (sym c.may_go.ensures ∙ c.if-not-may_go.false) c.change.new.self.arena c.in_ok-change.ensures.arena c.moving_from-place.result c.moving_from-place.ensures

pub unset_if_range_changed-requires : goal.unset_if_range_changed-requires
unset_if_range_changed-requires c =
    let a = c.args in
    (placed c.self.inside a.self.now c.self.view_is c.valid.ensures c.slotted.ensures c.requires.open c.self.invariant a.node c.in-Some.from a.parent a.before c.requires.node_held c.requires.parent_held c.requires.before_held (up c.self.inside a.node c.in-Some.from c.parent.result c.parent.ensures c.in-Some.is) (sym c.may_go.ensures ∙ c.if-not-may_go.false) c.change.new.self.arena c.in_ok-change.ensures.arena c.adjust_moved.new.points c.moving_from-place.result c.moving_from-place.ensures c.adjust_moved.ensures.moved c.adjust_moved.ensures.none).selection

overrides_are : (c : goal.After-unset_if_range_changed) → c.unset_if_range_changed.new.self ≡ unset_if_range_changed c.self.inside.tree.nodes.arena.trees c.self.inside.tree.points c.change.new.self.arena.trees c.adjust_moved.new.points c.self.inside.tree.overrides
overrides_are c = c.unset_if_range_changed.ensures c.self.inside.tree.nodes.arena.trees c.self.inside.tree.points c.watch-watch.ensures

done : (c : goal.After-unset_if_range_changed) → Done c.self.inside c.args.self.now (Move c.args.node.label c.args.parent.label (label_of c.args.before)) c.change.new.self.arena c.adjust_moved.new.points c.unset_if_range_changed.new.self c.name_place-2.new.self c.change.new.history
done c =
    let a = c.args in
    move_done c.self.inside a.self.now c.self.view_is c.valid.ensures c.slotted.ensures c.requires.open c.self.invariant a.node c.in-Some.from a.parent a.before c.requires.node_held c.requires.parent_held c.requires.before_held (up c.self.inside a.node c.in-Some.from c.parent.result c.parent.ensures c.in-Some.is) (sym c.may_go.ensures ∙ c.if-not-may_go.false)
    c.change.new.self.arena c.in_ok-change.ensures.arena c.adjust_moved.new.points c.moving_from-place.result c.moving_from-place.ensures c.adjust_moved.ensures.moved c.adjust_moved.ensures.none c.unset_if_range_changed.new.self (overrides_are c)
    c.next-next.result c.next-next.ensures.is c.name_place.new.self c.name_place-2.new.self c.name_place.ensures c.name_place-2.ensures c.change.new.history c.in_ok-change.ensures.history

pub invariant_of-self-2 : goal.invariant_of-self-2
invariant_of-self-2 c = (done c).invariant

pub returns-clause-gives : goal.returns-clause-gives
returns-clause-gives c = (done c).gives

pub returns-clause-keeps : goal.returns-clause-keeps
returns-clause-keeps c = (done c).keeps
