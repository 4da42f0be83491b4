use Rattle.std.proofs.Common.{◌∙◌}
use Rattle.edit_doc.proofs.Reading.{before_seen, point_here}
use Rattle.edit_doc.proofs.Doc.is_before.Goals as goal

pub comes_before-requires-clause-point_there : goal.comes_before-requires-clause-point_there
comes_before-requires-clause-point_there c = point_here c.nodes.ensures c.args.first c.requires.first

pub comes_before-requires-clause-other_there : goal.comes_before-requires-clause-other_there
comes_before-requires-clause-other_there c = point_here c.nodes.ensures c.args.second c.requires.second

pub returns : goal.returns
returns c = c.comes_before.ensures ∙ before_seen c.nodes.ensures c.args.first c.args.second c.requires.first c.requires.second
