use Rattle.replay_laws.proofs.Calls.{arena_page}
use Rattle.replay_laws.proofs.ReadingBack.{calls_read_back, labels_suffice}
use Rattle.replay_laws.proofs.laws.documents_read_back.Goals as goal

pub returns-clause-same : goal.returns-clause-same
returns-clause-same c = λ e. calls_read_back c.args.page.now e (arena_page c.args.page.now c.valid.ensures)

pub returns-clause-labels : goal.returns-clause-labels
returns-clause-labels c = λ e. labels_suffice c.args.page.now e (arena_page c.args.page.now c.valid.ensures)
