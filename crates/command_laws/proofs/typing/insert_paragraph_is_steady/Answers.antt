use Rattle.command_laws.proofs.TypingRuns.{steady_insert_paragraph}
use Rattle.command_laws.proofs.typing.insert_paragraph_is_steady.Goals as goal

pub returns : goal.returns
returns c = steady_insert_paragraph
