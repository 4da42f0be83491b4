use Rattle.edit_session.proofs.Prefixes.{prefixes_answer}
use Rattle.edit_session.proofs.laws.prefixes_answer.Goals as goal

pub returns : goal.returns
returns c = prefixes_answer
