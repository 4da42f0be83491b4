use Rattle.step_text.specs.StepReading.{referenced_gives, after, unreferenced}
use Rattle.step_text.proofs.Loops.{Follows-more, Follows-end}
use Rattle.step_text.proofs.tag.dereference.Goals as goal

pub loop-b-preserved : goal.loop-b-preserved
loop-b-preserved c =
    Follows-more referenced_gives after c.args.text.now c.loop-b.b-index c.loop-b.state c.after-state.result c.loop-b.bytes.items c.push_dereferenced.new.bytes.items (unreferenced c.args.text.now)
    c.loop-b-test.true c.after-state.ensures c.in_ok-push_dereferenced.ensures.ok c.loop-b.invariant

pub returns : goal.returns
returns c = Follows-end referenced_gives after c.args.text.now c.loop-b.b-index c.loop-b.state c.loop-b.bytes.items (unreferenced c.args.text.now) c.loop-b-test.false c.loop-b.invariant
