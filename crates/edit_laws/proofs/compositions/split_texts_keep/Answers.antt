use Rattle.edit_laws.proofs.Splitting.{split_keeps}
use Rattle.edit_laws.proofs.compositions.split_texts_keep.Goals as goal

pub returns : goal.returns
returns c = λ n at chars s is text editable. split_keeps n at chars s is text editable
