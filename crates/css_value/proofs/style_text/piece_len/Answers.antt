use Rattle.std.proofs.Common.{sym, ◌∙◌}
use Rattle.css_value.proofs.PieceLengths.{cut-here, cut-nowhere}
use Rattle.css_value.proofs.style_text.piece_len.Goals as goal

pub returns-then-is_cut-clause-cut : goal.returns-then-is_cut-clause-cut
returns-then-is_cut-clause-cut c _ = cut-here c.loop-i.nesting c.args.text.now c.loop-i.i c.index-text-i.result c.loop-i-test.true c.index-text-i.is (sym c.is_cut.ensures ∙ c.if-is_cut.true) c.loop-i.invariant.left

pub returns-clause-whole : goal.returns-clause-whole
returns-clause-whole c _ = cut-nowhere c.loop-i.nesting c.args.text.now c.loop-i.i c.loop-i-test.false c.loop-i.invariant.left
