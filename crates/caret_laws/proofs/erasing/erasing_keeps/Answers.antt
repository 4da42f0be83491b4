use Rattle.edit_model.specs.Run.{final}
use Rattle.text_insertion.specs.Start.{erase}
use Rattle.caret_laws.proofs.Blanks.{caret_then}
use Rattle.caret_laws.proofs.CaretErasing.{erased}
use Rattle.caret_laws.proofs.erasing.erasing_keeps.Goals as goal

pub returns : goal.returns
returns c = λ m s p is room caret. (let k = erased m p s is room caret in let q = caret_then s (final (erase m) s) p k.blanked caret in (k.blanked.order, (q.place, q.caret)))
