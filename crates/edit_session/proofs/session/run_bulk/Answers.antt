use Rattle.std.proofs.Common.{length}
use Rattle.edit_session.specs.Block.{block_of}
use Rattle.edit_session.specs.Bulk.{bulk_text}
use Rattle.edit_session.specs.Words.{usual_limits}
use Rattle.edit_session.proofs.Runs.{follows_nothing, block_answered}
use Rattle.edit_session.proofs.session.run_bulk.Goals as goal

pub returns-in-Err : goal.returns-in-Err
returns-in-Err g c = follows_nothing _ _ _ (block_answered usual_limits (length (bulk_text c.args.count)) (block_of (bulk_text c.args.count)))
