use Rattle.std.proofs.Common.{subst, sym}
use Rattle.step_text.specs.StepLine.{AreAttributes}
use Rattle.step_text.proofs.Loops.{set_are}
use Rattle.step_text.proofs.tag.add_attribute.Goals as goal

pub returns-clause-sound : goal.returns-clause-sound
returns-clause-sound c =
    subst AreAttributes (sym c.in_ok-insert.ensures.ok)
    (set_are c.args.attributes.now c.in_ok-name.name c.in_ok-value.value c.requires c.in_ok-name.ensures.sound c.in_ok-value.ensures.sound)
