use Rattle.edit_laws.proofs.SteadyRuns.{steady_tag_name}
use Rattle.edit_laws.proofs.steady.tag_names_steady.Goals as goal

pub returns : goal.returns
returns c = λ e name. steady_tag_name e name
