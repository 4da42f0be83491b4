use Rattle.std.proofs.Common.{rules}
use Rattle.undo_log.proofs.Watched.{made_none, first_fits}
use Rattle.undo_log.proofs.log.UndoLog.watch_last.Goals as goal

pub returns-in_default-clause-seen : goal.returns-in_default-clause-seen
returns-in_default-clause-seen g c =
    made_none g.T.Invertible.applied g.T.Invertible.inverse g.W.Watch.seen c.args.kept c.args.self.now.undo c.args.state.now c.args.watcher.now (search rules)

pub show_made-requires-clause-fit : goal.show_made-requires-clause-fit
show_made-requires-clause-fit g c =
    first_fits g.T.Invertible.applied g.T.Invertible.fits c.args.kept c.args.self.now.undo _ c.args.state.now (search rules) c.requires.fit
