use Rattle.replay_laws.proofs.Calls.{arena_page}
use Rattle.replay_laws.proofs.Texts.{calls_text_replays}
use Rattle.replay_laws.proofs.laws.log_texts_replay.Goals as goal

pub returns : goal.returns
returns c = λ e. calls_text_replays c.args.page.now e (arena_page c.args.page.now c.valid.ensures)
