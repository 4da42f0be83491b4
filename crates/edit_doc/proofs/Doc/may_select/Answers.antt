use Rattle.std.proofs.Common.{sym, ◌∙◌}
use Rattle.edit_doc.proofs.Placing.{select_is}
use Rattle.edit_doc.proofs.Doc.may_select.Goals as goal

pub returns : goal.returns
returns c = c.is_placed.ensures ∙ sym (select_is c.nodes.ensures c.args.at)
