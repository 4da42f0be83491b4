use Rattle.std.proofs.Common.{sym, ap, ◌∙◌}
use Rattle.node_arena.specs.Held.{label}
use Rattle.node_paths.proofs.Walking.{text_below, text_root}
use Rattle.node_paths.proofs.push_path.Goals as goal

pub returns-in-Some : goal.returns-in-Some
returns-in-Some c =
    let up = sym c.parent.ensures.is ∙ ap label c.in-Some.is in
    record { ok = rw (text_below c.args.arena.now c.valid.ensures c.args.node.label c.in-Some.parent.label up c.requires.inner) c.push_indexes.ensures.ok }

pub returns-in_ok-push-in-None : goal.returns-in_ok-push-in-None
returns-in_ok-push-in-None c =
    let root = sym c.parent.ensures.is ∙ ap label c.in-None.is in
    record { ok = rw (text_root c.args.arena.now c.valid.ensures c.args.node.label root c.requires.inner) c.in_ok-push-in-None.ensures.items }
