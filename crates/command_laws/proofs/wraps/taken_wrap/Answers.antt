use Rattle.command_laws.proofs.Wrapping.{taken_keep}
use Rattle.command_laws.proofs.wraps.taken_wrap.Goals as goal

pub returns : goal.returns
returns c = λ criterion r front list rest o s plain makes is up kids. taken_keep criterion r plain makes s is o front list rest up kids
