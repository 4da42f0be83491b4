use Rattle.std.proofs.Common.{sym, ◌∙◌}
use Rattle.edit_doc.proofs.SeenNodes.{attributes_seen, is_element_seen}
use Rattle.edit_doc.proofs.Doc.attributes.Goals as goal

pub attributes-requires-clause-element : goal.attributes-requires-clause-element
attributes-requires-clause-element c = sym (is_element_seen c.nodes.ensures c.args.node c.requires.held) ∙ c.requires.element

pub returns : goal.returns
returns c = attributes_seen c.nodes.ensures c.args.node c.requires.held ∙ c.attributes.ensures
