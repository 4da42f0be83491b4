use Rattle.std.proofs.Common.{◌≡◌, [], ◌∷◌, ◌++◌, IfSome, refl, ap, subst, ◌∙◌, arith}
use Rattle.std.specs.Prelude.{if◌then◌else◌}
use Rattle.step_edits.specs.EditSteps.declared.step.Step.TheVariants as step
use Rattle.edit_model.specs.Edit.{Remove}
use Rattle.edit_doc.proofs.Edited.{Applied}
use Rattle.edit_doc.proofs.Removed.{place_markable, up, fits, detached, trees, points_are, counted_unlinked, unlink_done}
use Rattle.edit_doc.proofs.Roomier.{room_made}
use Rattle.edit_doc.proofs.SeenNodes.{shows_of, finds_next, index_seen}
use Rattle.edit_doc.proofs.Settling.{points_now, placed_called, settled_items}
use Rattle.edit_doc.proofs.Doc.unlink.Goals as goal
use Rattle.edit_doc.specs.Live.{live}

pub invariant_of-self : goal.invariant_of-self
invariant_of-self c =
    let d = c.self.inside in
    room_made d.command c.reserve.new.self c.reserve.ensures.items (live d.tree) d.history c.self.invariant

pub watch-watch-requires : goal.watch-watch-requires
watch-watch-requires c = (points_now c.self.inside c.valid.ensures c.self.invariant).selection

pub invariant_of-self-in_err-change : goal.invariant_of-self-in_err-change
invariant_of-self-in_err-change c =
    let d = c.self.inside in
    let same = c.in_err-change.ensures.err in
    rw (same.0, same.1) (room_made d.command c.reserve.new.self c.reserve.ensures.items (live d.tree) d.history c.self.invariant)

pub removal_of-removal-requires-clause-known : goal.removal_of-removal-requires-clause-known
removal_of-removal-requires-clause-known c =
    let a = c.args in
    subst (λ index. IfSome a.known (λ i. i ≡ index)) (index_seen (shows_of c.self.inside c.valid.ensures a.self.now c.self.view_is) a.node c.requires.node_held) c.requires.known

pub name_place-requires : goal.name_place-requires
name_place-requires c =
    let a = c.args in
    let d = c.self.inside in
    let next = finds_next (shows_of d c.valid.ensures a.self.now c.self.view_is) a.node c.requires.node_held c.next-next.result c.next-next.ensures in
    place_markable d c.valid.ensures a.self.now c.self.view_is c.requires.open c.self.invariant a.node a.parent c.next-next.result c.requires.node_held c.requires.parent_held next.held

pub unset_if_range_changed-requires : goal.unset_if_range_changed-requires
unset_if_range_changed-requires c =
    let a = c.args in
    let d = c.self.inside in
    let v = a.self.now in
    let child = c.requires.child in
    let may = c.requires.possible in
    let x = fits d c.valid.ensures v c.self.view_is a.node c.requires.node_held a.parent child c.slotted.ensures c.requires.open c.self.invariant may in
    let l = detached d c.valid.ensures v c.self.view_is a.node c.requires.node_held a.parent child c.slotted.ensures c.requires.open c.self.invariant may in
    let t = trees d c.valid.ensures v c.self.view_is a.node c.requires.node_held a.parent child c.slotted.ensures c.requires.open c.self.invariant may in
    let p = points_are d c.valid.ensures v c.self.view_is a.node c.requires.node_held a.parent child c.slotted.ensures c.requires.open c.self.invariant may in
    let moved = c.adjust.ensures d.tree.nodes.arena.trees a.node.label a.parent.label c.removal_of-removal.ensures in
    (placed_called d v c.self.view_is c.valid.ensures c.requires.open c.self.invariant (Remove a.node.label) (step.Remove a.node) x l may t c.adjust.new.points c.change.new.self.arena (moved ∙ p) c.in_ok-change.ensures.arena).selection

done : (c : goal.After-unset_if_range_changed) → Applied c.self.inside c.args.self.now (Remove c.args.node.label) c.change.new.self.arena c.adjust.new.points c.unset_if_range_changed.new.self c.name_place.new.self c.change.new.history
done c =
    let a = c.args in
    let d = c.self.inside in
    let v = a.self.now in
    let child = c.requires.child in
    let may = c.requires.possible in
    let x = fits d c.valid.ensures v c.self.view_is a.node c.requires.node_held a.parent child c.slotted.ensures c.requires.open c.self.invariant may in
    let l = detached d c.valid.ensures v c.self.view_is a.node c.requires.node_held a.parent child c.slotted.ensures c.requires.open c.self.invariant may in
    let t = trees d c.valid.ensures v c.self.view_is a.node c.requires.node_held a.parent child c.slotted.ensures c.requires.open c.self.invariant may in
    let p = points_are d c.valid.ensures v c.self.view_is a.node c.requires.node_held a.parent child c.slotted.ensures c.requires.open c.self.invariant may in
    let moved = c.adjust.ensures d.tree.nodes.arena.trees a.node.label a.parent.label c.removal_of-removal.ensures in
    let e = settled_items d v c.self.view_is c.valid.ensures c.requires.open c.self.invariant (Remove a.node.label) (step.Remove a.node) x l may t
    c.unset_if_range_changed.new.self c.adjust.new.points c.change.new.self.arena c.watch-watch.result (moved ∙ p) c.in_ok-change.ensures.arena c.watch-watch.ensures c.unset_if_range_changed.ensures in
    let room = c.in_ok-reserve.ensures.ok in
    let put = c.push.ensures.succeeds (omega (arith, room)) in
    let pushed : c.push.new.self.items ≡ d.command.detached.items ++ a.node ∷ [] = c.push.ensures.items ∙ (ap (λ b. if b then (c.reserve.new.self.items ++ a.node ∷ []) else c.reserve.new.self.items) put ∙ ap (λ xs. xs ++ a.node ∷ []) c.reserve.ensures.items) in
    unlink_done d c.valid.ensures v c.self.view_is a.node c.requires.node_held a.parent child c.slotted.ensures c.requires.open c.self.invariant may
    c.adjust.new.points c.unset_if_range_changed.new.self (record d.command { detached = c.push.new.self }) c.name_place.new.self c.next-next.result c.next-next.ensures.is
    refl pushed c.name_place.ensures moved e
    c.change.new.self.arena c.change.new.history c.in_ok-change.ensures.arena c.in_ok-change.ensures.history

pub invariant_of-self-2 : goal.invariant_of-self-2
invariant_of-self-2 c = (done c).invariant

pub returns-clause-unlinked : goal.returns-clause-unlinked
returns-clause-unlinked c = (done c).state

pub returns-clause-keeps : goal.returns-clause-keeps
returns-clause-keeps c = (done c).keeps

pub counts_without-counts-requires-clause-child : goal.counts_without-counts-requires-clause-child
counts_without-counts-requires-clause-child c = up c.self.inside c.valid.ensures c.args.self.now c.self.view_is c.args.node c.requires.node_held c.args.parent c.requires.child

pub change-requires-clause-fits : goal.change-requires-clause-fits
change-requires-clause-fits c =
    let a = c.args in
    fits c.self.inside c.valid.ensures a.self.now c.self.view_is a.node c.requires.node_held a.parent c.requires.child c.slotted.ensures c.requires.open c.self.invariant c.requires.possible

pub change-requires-clause-counted : goal.change-requires-clause-counted
change-requires-clause-counted c =
    let a = c.args in
    counted_unlinked c.self.inside c.valid.ensures a.self.now c.self.view_is a.node c.requires.node_held a.parent c.requires.child c.slotted.ensures c.requires.open c.self.invariant c.requires.possible
    c.counts_without-counts.result c.counts_without-counts.ensures.nodes c.counts_without-counts.ensures.chars c.counts_without-counts.ensures.depth
