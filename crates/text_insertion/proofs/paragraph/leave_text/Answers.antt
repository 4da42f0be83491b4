use Rattle.std.proofs.Common.{◌<◌, sym, ap, ◌∙◌, subst}
use Rattle.edit_model.specs.DomModel.Forest.{count_of}
use Rattle.edit_model.specs.Action.{acted}
use Rattle.edit_model.proofs.OutsideRuns.{trees-selected}
use Rattle.text_insertion.proofs.paragraph.leave_text.Goals as goal

pub returns-clause-there : goal.returns-clause-there
unfolding acted
returns-clause-there c =
    let caret = c.left_text-caret.result in
    let same = ap (λ w. w.state.trees) c.select.ensures.selected ∙ trees-selected caret caret c.args.doc.now.state in
    subst (λ f. 0 < count_of f caret.label) (sym same) c.left_text-caret.ensures.there
