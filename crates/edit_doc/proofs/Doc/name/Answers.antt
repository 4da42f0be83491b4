use Rattle.std.proofs.Common.{sym, ◌∙◌}
use Rattle.edit_doc.proofs.SeenNodes.{name_seen, is_element_seen}
use Rattle.edit_doc.proofs.Doc.name.Goals as goal

pub name-requires-clause-element : goal.name-requires-clause-element
name-requires-clause-element c = sym (is_element_seen c.nodes.ensures c.args.node c.requires.held) ∙ c.requires.element

pub returns : goal.returns
returns c = name_seen c.nodes.ensures c.args.node c.requires.held ∙ c.name.ensures
