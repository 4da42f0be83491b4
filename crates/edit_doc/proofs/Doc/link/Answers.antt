use Rattle.std.proofs.Common.{◌≡◌, sym, ap, ◌∙◌}
use Rattle.edit_model.specs.Edit.{Insert}
use Rattle.edit_model.specs.Gives.{label_of}
use Rattle.edit_parts.specs.Following.{unset_if_range_changed}
use Rattle.edit_doc.proofs.Edited.{Applied}
use Rattle.edit_doc.proofs.Inserting.{fits, nodes_fit, chars_fit, counted_linked, held_here, points_fit, placed, link_done}
use Rattle.edit_doc.proofs.Settling.{points_now}
use Rattle.edit_doc.proofs.SeenNodes.{held_seen}
use Rattle.edit_doc.proofs.Doc.link.Goals as goal

pub watch-watch-requires : goal.watch-watch-requires
watch-watch-requires c = (points_now c.self.inside c.valid.ensures c.self.invariant).selection

pub counts_with-counts-requires-clause-nodes : goal.counts_with-counts-requires-clause-nodes
counts_with-counts-requires-clause-nodes c =
    let a = c.args in
    nodes_fit c.self.inside a.self.now c.self.view_is c.valid.ensures c.slotted.ensures c.requires.open c.self.invariant a.node a.parent a.before c.requires.node_held c.requires.parent_held c.requires.before_held c.requires.possible
    c.is_in_document-enters.result c.is_in_document-enters.ensures

pub counts_with-counts-requires-clause-chars : goal.counts_with-counts-requires-clause-chars
counts_with-counts-requires-clause-chars c =
    let a = c.args in
    chars_fit c.self.inside a.self.now c.self.view_is c.valid.ensures c.slotted.ensures c.requires.open c.self.invariant a.node a.parent a.before c.requires.node_held c.requires.parent_held c.requires.before_held c.requires.possible
    c.is_in_document-enters.result c.is_in_document-enters.ensures

pub change-requires-clause-fits : goal.change-requires-clause-fits
change-requires-clause-fits c =
    let a = c.args in
    fits c.self.inside a.self.now c.self.view_is c.valid.ensures c.slotted.ensures c.requires.open c.self.invariant a.node a.parent a.before c.requires.node_held c.requires.parent_held c.requires.before_held c.requires.possible

pub change-requires-clause-counted : goal.change-requires-clause-counted
change-requires-clause-counted c =
    let a = c.args in
    counted_linked c.self.inside a.self.now c.self.view_is c.valid.ensures c.slotted.ensures c.requires.open c.self.invariant a.node a.parent a.before c.requires.node_held c.requires.parent_held c.requires.before_held c.requires.possible
    c.is_in_document-enters.result c.is_in_document-enters.ensures c.counts_with-counts.result c.counts_with-counts.ensures.nodes c.counts_with-counts.ensures.chars c.counts_with-counts.ensures.depth

pub adjust_inserted-requires-clause-held : goal.adjust_inserted-requires-clause-held
adjust_inserted-requires-clause-held c =
    let a = c.args in
    let same = held_here c.self.inside a.self.now c.self.view_is c.valid.ensures c.slotted.ensures c.requires.open c.self.invariant a.node a.parent a.before c.requires.node_held c.requires.parent_held c.requires.before_held c.requires.possible
    c.change.new.self.arena c.in_ok-change.ensures.arena in
    ap (λ h. Rattle.std.specs.Prelude.slice_index_or h a.node.slot Rattle.std.proofs.Common.None) (sym same) ∙ (held_seen c.self.inside a.self.now c.self.view_is a.node c.requires.node_held).slot

pub adjust_inserted-requires-clause-fits : goal.adjust_inserted-requires-clause-fits
adjust_inserted-requires-clause-fits c =
    let a = c.args in
    points_fit c.self.inside a.self.now c.self.view_is c.valid.ensures c.slotted.ensures c.requires.open c.self.invariant a.node a.parent a.before c.requires.node_held c.requires.parent_held c.requires.before_held c.requires.possible
    c.change.new.self.arena c.in_ok-change.ensures.arena

pub unset_if_range_changed-requires : goal.unset_if_range_changed-requires
unset_if_range_changed-requires c =
    let a = c.args in
    (placed c.self.inside a.self.now c.self.view_is c.valid.ensures c.slotted.ensures c.requires.open c.self.invariant a.node a.parent a.before c.requires.node_held c.requires.parent_held c.requires.before_held c.requires.possible
    c.change.new.self.arena c.in_ok-change.ensures.arena c.adjust_inserted.new.points c.adjust_inserted.ensures).selection

overrides_are : (c : goal.After-unset_if_range_changed) → c.unset_if_range_changed.new.self ≡ unset_if_range_changed c.self.inside.tree.nodes.arena.trees c.self.inside.tree.points c.change.new.self.arena.trees c.adjust_inserted.new.points c.self.inside.tree.overrides
overrides_are c = c.unset_if_range_changed.ensures c.self.inside.tree.nodes.arena.trees c.self.inside.tree.points c.watch-watch.ensures

done : (c : goal.After-unset_if_range_changed) → Applied c.self.inside c.args.self.now (Insert c.args.parent.label (label_of c.args.before) c.args.node.label) c.change.new.self.arena c.adjust_inserted.new.points c.unset_if_range_changed.new.self c.name_place.new.self c.change.new.history
done c =
    let a = c.args in
    link_done c.self.inside a.self.now c.self.view_is c.valid.ensures c.slotted.ensures c.requires.open c.self.invariant a.node a.parent a.before c.requires.node_held c.requires.parent_held c.requires.before_held c.requires.possible
    c.change.new.self.arena c.in_ok-change.ensures.arena c.adjust_inserted.new.points c.adjust_inserted.ensures c.unset_if_range_changed.new.self (overrides_are c)
    c.name_place.new.self c.name_place.ensures c.change.new.history c.in_ok-change.ensures.history

pub invariant_of-self-2 : goal.invariant_of-self-2
invariant_of-self-2 c = (done c).invariant

pub returns-clause-linked : goal.returns-clause-linked
returns-clause-linked c = (done c).state

pub returns-clause-keeps : goal.returns-clause-keeps
returns-clause-keeps c = (done c).keeps
