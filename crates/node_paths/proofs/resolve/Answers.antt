use Rattle.node_paths.proofs.Walking.{way_down}
use Rattle.node_paths.proofs.resolve.Goals as goal

pub loop-index-init : goal.loop-index-init
loop-index-init c = record { held = c.document-at.ensures.held; way = way_down c.args.arena.now c.document-at.result.label c.valid.ensures c.document-at.ensures.label c.args.path.now }
