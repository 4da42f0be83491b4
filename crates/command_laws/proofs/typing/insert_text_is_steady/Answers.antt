use Rattle.command_laws.proofs.TypingRuns.{steady_insert_text}
use Rattle.command_laws.proofs.typing.insert_text_is_steady.Goals as goal

pub returns : goal.returns
returns c = steady_insert_text
