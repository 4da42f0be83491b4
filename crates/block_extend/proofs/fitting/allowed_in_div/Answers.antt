use Rattle.std.proofs.Common.{sym, ◌∙◌, true}
use Rattle.std.specs.Prelude.{codes}
use Rattle.block_extend.proofs.Paragraphs.{paragraph_fits, paragraph_in_div}
use Rattle.block_extend.proofs.fitting.allowed_in_div.Goals as goal

pub returns-then-has_name : goal.returns-then-has_name
returns-then-has_name g c = sym (paragraph_fits (g.N.Nodes.trees c.args.nodes.now) c.args.node.label (codes "div") true paragraph_in_div (sym c.has_name.ensures ∙ c.if-has_name.true))
