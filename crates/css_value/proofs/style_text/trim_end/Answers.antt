use Rattle.std.proofs.Common.{sym, ◌∙◌, arith}
use Rattle.css_value.proofs.PieceLengths.{trim-space, trim-stop}
use Rattle.css_value.proofs.style_text.trim_end.Goals as goal

pub loop-end-preserved : goal.loop-end-preserved
loop-end-preserved c = record {
  same = trim-space c.args.text.now c.loop-end.end c.index-text-end.result c.loop-end-test.true c.loop-end.invariant.within c.index-text-end.is (sym c.is_space.ensures ∙ c.if-not-is_space.false) ∙ c.loop-end.invariant.same;
  within = omega arith;
}

pub returns-then-not-is_space : goal.returns-then-not-is_space
returns-then-not-is_space c =
    trim-stop c.args.text.now c.loop-end.end c.index-text-end.result c.loop-end-test.true c.loop-end.invariant.within c.index-text-end.is (sym c.is_space.ensures ∙ c.if-not-is_space.true)
    ∙ c.loop-end.invariant.same
