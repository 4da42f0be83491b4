use Rattle.making_laws.proofs.FormatRuns.{tame_remove_format}
use Rattle.making_laws.proofs.inline.remove_format_is_tame.Goals as goal

pub returns : goal.returns
returns c = tame_remove_format
