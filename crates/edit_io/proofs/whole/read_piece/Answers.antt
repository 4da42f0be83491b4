use Rattle.std.proofs.lemmas.Result.{err_from_is_err_and}
use Rattle.edit_io.proofs.Told.{gives_kept}
use Rattle.edit_io.proofs.whole.read_piece.Goals as goal

pub returns-in_err-count-clause-given : goal.returns-in_err-count-clause-given
returns-in_err-count-clause-given g c = let p = err_from_is_err_and c.from_residual.result c.from_residual.ensures.1 in rw p.1 (gives_kept _ _ _ c.in_err-count.ensures.kept)
