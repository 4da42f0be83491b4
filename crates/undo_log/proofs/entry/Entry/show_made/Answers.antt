use Rattle.undo_log.proofs.Watched.{forth_again}
use Rattle.undo_log.proofs.entry.Entry.show_made.Goals as goal

pub take_forth-requires-clause-fit : goal.take_forth-requires-clause-fit
take_forth-requires-clause-fit g c =
    (forth_again g.T.Invertible.applied g.T.Invertible.inverse g.T.Invertible.fits
    g.met.T.Invertible.fits_again g.met.T.Invertible.state_again g.met.T.Invertible.step_again
    c.args.kept c.args.self.now c.take_back.new.self c.args.state.now c.take_back.new.state
    c.requires.within c.requires.fit c.take_back.ensures.entry c.take_back.ensures.state).fit

pub returns-clause-entry : goal.returns-clause-entry
returns-clause-entry g c =
    rw c.take_forth.ensures.entry
    (forth_again g.T.Invertible.applied g.T.Invertible.inverse g.T.Invertible.fits
    g.met.T.Invertible.fits_again g.met.T.Invertible.state_again g.met.T.Invertible.step_again
    c.args.kept c.args.self.now c.take_back.new.self c.args.state.now c.take_back.new.state
    c.requires.within c.requires.fit c.take_back.ensures.entry c.take_back.ensures.state).entry

pub returns-clause-state : goal.returns-clause-state
returns-clause-state g c =
    rw c.take_forth.ensures.state
    (forth_again g.T.Invertible.applied g.T.Invertible.inverse g.T.Invertible.fits
    g.met.T.Invertible.fits_again g.met.T.Invertible.state_again g.met.T.Invertible.step_again
    c.args.kept c.args.self.now c.take_back.new.self c.args.state.now c.take_back.new.state
    c.requires.within c.requires.fit c.take_back.ensures.entry c.take_back.ensures.state).state
