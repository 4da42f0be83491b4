use Rattle.std.proofs.Common.{rules}
use Rattle.undo_log.proofs.Watched.{undone_none}
use Rattle.undo_log.proofs.log.UndoLog.watch_undone.Goals as goal

pub returns-in_default-clause-seen : goal.returns-in_default-clause-seen
returns-in_default-clause-seen g c =
    undone_none g.T.Invertible.applied g.T.Invertible.inverse g.W.Watch.seen c.args.self.now.redo c.args.state.now c.args.watcher.now (search rules)
