use Rattle.std.proofs.Common.{◌∙◌}
use Rattle.edit_doc.proofs.Reading.{page_depth_is}
use Rattle.edit_doc.proofs.Doc.page_depth.Goals as goal

pub returns : goal.returns
returns c = c.page_depth.ensures ∙ page_depth_is c.nodes.ensures
