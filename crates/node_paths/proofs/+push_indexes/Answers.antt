use Rattle.std.proofs.Common.{◌≡◌, ◌<◌, Some, sym, ap, ◌∙◌, arith, append_assoc}
use Rattle.node_arena.specs.DomModel.Forest.{parent_of, depth_of}
use Rattle.node_arena.proofs.DomModel.Within.{depth_of-parent}
use Rattle.node_arena.specs.Held.{label}
use Rattle.node_paths.proofs.Walking.{indexes_top, indexes_below, within_up_parent}
use Rattle.node_paths.proofs.+push_indexes.Goals as goal

pub push_indexes-requires : goal.push_indexes-requires
push_indexes-requires t c =
    let a = c.args.arena.now in
    let up : parent_of a.trees c.args.parent.label ≡ Some c.in-Some.above.label = sym c.parent.ensures.is ∙ ap label c.in-Some.is in
    let deep = depth_of-parent a.trees c.args.node.label c.args.parent.label c.valid.ensures.distinct c.requires.parent in
    let whole = c.decreases in
    let smaller : depth_of a.trees c.args.parent.label < t = omega (arith, deep, whole) in
    (smaller, (c.requires.parent_held, (rw c.in-Some.is at c.parent.ensures.held, (up, within_up_parent a c.valid.ensures c.args.node.label c.args.parent.label c.requires.parent c.requires.inner))))

pub returns-in-None : goal.returns-in-None
returns-in-None t c =
    let a = c.args.arena.now in
    let root = sym c.parent.ensures.is ∙ ap label c.in-None.is in
    let is = indexes_top a c.valid.ensures c.args.node.label c.args.parent.label c.requires.parent c.requires.inner root in
    record { ok = rw (is, ← c.index.ensures) c.push_decimal.ensures.ok }

pub returns-in_ok-push-in-Some : goal.returns-in_ok-push-in-Some
returns-in_ok-push-in-Some t c =
    let a = c.args.arena.now in
    let up = sym c.parent.ensures.is ∙ ap label c.in-Some.is in
    let is = indexes_below a c.valid.ensures c.args.node.label c.args.parent.label c.in-Some.above.label c.requires.parent c.requires.inner up in
    let e = c.in_ok-push_indexes-in-Some.ensures.ok in
    let p = c.in_ok-push-in-Some.ensures.items in
    record { ok = grind (arith, append_assoc, is, c.index-in-Some.ensures, c.push_decimal-in-Some.ensures.ok, e, p) }
