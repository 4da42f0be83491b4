use Rattle.std.proofs.Common.{◌≡◌, false, refl, sym, subst}
use Rattle.undo_log.specs.Log.{is_open}
use Rattle.undo_log.specs.States.{Follows}
use Rattle.base_trials.proofs.tests.logs.Session.new.Goals as goal

pub invariant_of-result : goal.invariant_of-result
invariant_of-result g c =
    subst
    (λ l. Follows g.T.Invertible.applied g.T.Invertible.fits l c.args.state × (false ≡ is_open l.open_entry))
    (sym c.in_ok-log.ensures)
    (c.starts.ensures.follows c.args.depth c.args.state, refl)
