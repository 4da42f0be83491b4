use Rattle.edit_laws.proofs.Renaming.{tag_name_keeps}
use Rattle.edit_laws.proofs.compositions.tag_names_keep.Goals as goal

pub returns : goal.returns
returns c = λ e name s is bare plain. tag_name_keeps e name s is bare plain
