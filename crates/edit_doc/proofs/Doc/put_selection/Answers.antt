use Rattle.std.proofs.Common.{◌≡◌, ◌∙◌, IfSome, refl, ap, sym, subst}
use Rattle.edit_model.specs.Action.{with_selection}
use Rattle.edit_model.specs.Valid.{IsPlacedPair, IsPlaced}
use Rattle.edit_parts.specs.Following.{unset_if_range_changed}
use Rattle.edit_doc.specs.Whole.{Whole, with_state}
use Rattle.edit_doc.specs.History.{seen_trees}
use Rattle.edit_doc.proofs.Inner.{seen}
use Rattle.edit_doc.proofs.Chosen.{moved_to, scratch_at_rest}
use Rattle.edit_doc.proofs.PointSteps.{placed_then, settled_items, step_ok, step_is}
use Rattle.edit_doc.proofs.Settling.{points_now}
use Rattle.edit_doc.proofs.Doc.put_selection.Goals as goal

pub watch-watch-requires : goal.watch-watch-requires
watch-watch-requires c = (points_now c.self.inside c.valid.ensures c.self.invariant).selection

pub unset_if_range_changed-requires : goal.unset_if_range_changed-requires
unset_if_range_changed-requires c =
    let d = c.self.inside in
    let p = c.self.invariant.valid.placed in
    let pair = subst (λ (w : Whole). IfSome c.args.pair (IsPlacedPair w.state.trees)) (sym c.self.view_is) c.requires in
    rw c.set_selection.ensures (placed_then d c.valid.ensures c.self.invariant c.args.pair d.tree.points.scratch d.tree.points.marks (record { selection = pair; scratch = p.scratch; marks = p.marks })).selection

placed : (c : goal.After-unset_if_range_changed) → IsPlaced (seen_trees c.self.inside.history.log c.self.inside.command.start c.self.inside.tree.nodes.arena.trees) (moved_to c.self.inside.tree.points c.args.pair c.self.inside.tree.points.scratch c.self.inside.tree.points.marks)
placed c =
    let p = c.self.invariant.valid.placed in
    record { selection = subst (λ (w : Whole). IfSome c.args.pair (IsPlacedPair w.state.trees)) (sym c.self.view_is) c.requires; scratch = p.scratch; marks = p.marks }

written : (c : goal.After-unset_if_range_changed) → c.unset_if_range_changed.new.self ≡ unset_if_range_changed c.self.inside.tree.nodes.arena.trees c.self.inside.tree.points c.self.inside.tree.nodes.arena.trees (moved_to c.self.inside.tree.points c.args.pair c.self.inside.tree.points.scratch c.self.inside.tree.points.marks) c.self.inside.tree.overrides
written c =
    let d = c.self.inside in
    settled_items d c.valid.ensures c.self.invariant c.args.pair d.tree.points.scratch d.tree.points.marks (placed c) c.unset_if_range_changed.new.self c.set_selection.new.self c.watch-watch.result c.set_selection.ensures c.watch-watch.ensures c.unset_if_range_changed.ensures

pub invariant_of-self : goal.invariant_of-self
invariant_of-self c =
    let d = c.self.inside in
    rw (c.set_selection.ensures, written c) (step_ok d c.valid.ensures c.self.invariant c.args.pair d.tree.points.scratch d.tree.points.marks (placed c) (scratch_at_rest d c.self.invariant))

pub returns : goal.returns
returns c =
    let d = c.self.inside in
    rw (c.set_selection.ensures, written c) (step_is d c.valid.ensures c.self.invariant c.args.pair d.tree.points.scratch d.tree.points.marks (placed c) (seen d) refl ∙ ap (λ (v : Whole). with_state v (with_selection c.args.pair v.state)) c.self.view_is)
