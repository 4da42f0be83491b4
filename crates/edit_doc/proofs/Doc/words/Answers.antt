use Rattle.std.proofs.Common.{sym, ◌∙◌}
use Rattle.edit_doc.proofs.SeenNodes.{chars_seen, has_chars_seen}
use Rattle.edit_doc.proofs.Doc.words.Goals as goal

pub words-requires-clause-chars : goal.words-requires-clause-chars
words-requires-clause-chars c = sym (has_chars_seen c.nodes.ensures c.args.node c.requires.held) ∙ c.requires.chars

pub returns : goal.returns
returns c = chars_seen c.nodes.ensures c.args.node c.requires.held ∙ c.words.ensures
