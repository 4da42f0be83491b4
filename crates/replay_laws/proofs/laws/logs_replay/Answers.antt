use Rattle.replay_laws.proofs.Calls.{arena_page}
use Rattle.replay_laws.proofs.Replaying.{calls_replay}
use Rattle.replay_laws.proofs.laws.logs_replay.Goals as goal

pub returns : goal.returns
returns c = λ e. calls_replay c.args.page.now e (arena_page c.args.page.now c.valid.ensures)
