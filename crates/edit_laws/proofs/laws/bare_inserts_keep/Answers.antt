use Rattle.edit_laws.proofs.QuietActions.{bare_insert_acted}
use Rattle.edit_laws.proofs.laws.bare_inserts_keep.Goals as goal

pub returns : goal.returns
returns c = λ p b n s is bare. bare_insert_acted p b n s is bare
