use Rattle.replay_laws.proofs.Calls.{arena_page}
use Rattle.replay_laws.proofs.Replaying.{begins_with_page, draws_new_labels, spells_entries}
use Rattle.replay_laws.proofs.laws.logs_begin_with_the_page.Goals as goal

pub returns-clause-begins : goal.returns-clause-begins
returns-clause-begins c = λ e. begins_with_page c.args.page.now e (arena_page c.args.page.now c.valid.ensures)

pub returns-clause-labels : goal.returns-clause-labels
returns-clause-labels c = λ e. draws_new_labels c.args.page.now e (arena_page c.args.page.now c.valid.ensures)

pub returns-clause-entries : goal.returns-clause-entries
returns-clause-entries c = λ e. spells_entries c.args.page.now e (arena_page c.args.page.now c.valid.ensures)
