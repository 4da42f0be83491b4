use Rattle.std.proofs.Common.{arith}
use Rattle.css_value.proofs.Decimals.{too-great}
use Rattle.css_value.proofs.sizes.number.Goals as goal

pub returns-then-value-most-clause-number : goal.returns-then-value-most-clause-number
returns-then-value-most-clause-number c = too-great c.args.most c.loop-c.c-index c.c-item.result c.loop-c.value c.args.text.now c.loop-c-test.true c.c-item.is c.loop-c.invariant.value (omega arith)
