use Rattle.edit_model.proofs.OwnRoots.{islands_leave}
use Rattle.edit_model.proofs.laws.islands_leave.Goals as goal

pub returns : goal.returns
returns c = λ s t h keeping is hosted r leaves l island inside. islands_leave s h keeping is hosted l island inside r leaves
