use Rattle.edit_model.specs.Action.{acted}
use Rattle.edit_doc.proofs.Doc.unselect.Goals as goal

pub returns : goal.returns
unfolding acted
returns c = c.put_selection.ensures
