use Rattle.command_laws.proofs.Wrapping.{wrap_keeps}
use Rattle.command_laws.proofs.wraps.lists_wrap.Goals as goal

pub returns : goal.returns
returns c = λ criterion r front list rest o s plain makes is kids. wrap_keeps criterion r front list rest o s plain makes is kids
