use Rattle.std.proofs.Common.{arith}
use Rattle.undo_log.proofs.Watched.{back_again}
use Rattle.undo_log.proofs.entry.Entry.show_undone.Goals as goal

pub take_back-requires-clause-fit : goal.take_back-requires-clause-fit
take_back-requires-clause-fit g c =
    (back_again g.T.Invertible.applied g.T.Invertible.inverse g.T.Invertible.fits
    g.met.T.Invertible.fits_again g.met.T.Invertible.state_again g.met.T.Invertible.step_again
    0 c.args.self.now c.take_forth.new.self c.args.state.now c.take_forth.new.state
    (omega arith) c.requires c.take_forth.ensures.entry c.take_forth.ensures.state).fit

pub returns-clause-entry : goal.returns-clause-entry
returns-clause-entry g c =
    rw c.take_back.ensures.entry
    (back_again g.T.Invertible.applied g.T.Invertible.inverse g.T.Invertible.fits
    g.met.T.Invertible.fits_again g.met.T.Invertible.state_again g.met.T.Invertible.step_again
    0 c.args.self.now c.take_forth.new.self c.args.state.now c.take_forth.new.state
    (omega arith) c.requires c.take_forth.ensures.entry c.take_forth.ensures.state).entry

pub returns-clause-state : goal.returns-clause-state
returns-clause-state g c =
    rw c.take_back.ensures.state
    (back_again g.T.Invertible.applied g.T.Invertible.inverse g.T.Invertible.fits
    g.met.T.Invertible.fits_again g.met.T.Invertible.state_again g.met.T.Invertible.step_again
    0 c.args.self.now c.take_forth.new.self c.args.state.now c.take_forth.new.state
    (omega arith) c.requires c.take_forth.ensures.entry c.take_forth.ensures.state).state
