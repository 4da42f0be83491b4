use Rattle.std.proofs.Common.{false}
use Rattle.step_text.specs.StepReading.{unescaped_gives, escapes, unescaped}
use Rattle.step_text.proofs.Loops.{Follows-more, Follows-end}
use Rattle.step_text.proofs.tag.unescape.Goals as goal

pub loop-b-preserved : goal.loop-b-preserved
loop-b-preserved c =
    Follows-more unescaped_gives escapes c.args.text.now c.loop-b.b-index c.loop-b.escaped c.escapes-escaped.result c.loop-b.bytes.items c.push_unescaped.new.bytes.items (unescaped false c.args.text.now)
    c.loop-b-test.true c.escapes-escaped.ensures c.in_ok-push_unescaped.ensures.ok c.loop-b.invariant

pub returns : goal.returns
returns c = Follows-end unescaped_gives escapes c.args.text.now c.loop-b.b-index c.loop-b.escaped c.loop-b.bytes.items (unescaped false c.args.text.now) c.loop-b-test.false c.loop-b.invariant
