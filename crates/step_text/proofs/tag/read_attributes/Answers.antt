use Rattle.std.proofs.Common.{subst, sym}
use Rattle.step_text.specs.StepLine.{AreAttributes}
use Rattle.step_text.specs.StepReading.{attributes_of}
use Rattle.step_text.proofs.Loops.{Gathers-first, Gathers-more, Gathers-bad, Gathers-open, Gathers-end, shorter, exit_reads}
use Rattle.step_text.proofs.tag.read_attributes.Goals as goal

pub loop-head-init : goal.loop-head-init
loop-head-init c = record {
  read = Gathers-first c.new-attributes.result c.args.text.now c.new-attributes.ensures;
  sound = subst AreAttributes (sym c.new-attributes.ensures) tt;
}

pub returns-in_default-cut-clause-read : goal.returns-in_default-cut-clause-read
returns-in_default-cut-clause-read c =
    Gathers-open c.loop-head.attributes c.in-Some.head.now c.loop-head.rest.now c.in-Some.after.now (attributes_of c.args.text.now) c.in-Some.ensures c.in_default-cut.ensures c.loop-head.invariant.read

pub returns-in_err-add_attribute-clause-read : goal.returns-in_err-add_attribute-clause-read
returns-in_err-add_attribute-clause-read c =
    exit_reads c.from_residual.result c.in_err-add_attribute.field-0.0 (attributes_of c.args.text.now) c.from_residual.ensures.1
    (Gathers-bad c.loop-head.attributes c.in-Some.head.now c.in-Some-cut.quoted.now c.in-Some-cut.more.now c.loop-head.rest.now c.in-Some.after.now (attributes_of c.args.text.now) c.in_err-add_attribute.field-0.0 c.in-Some.ensures c.in-Some-cut.ensures
    c.in_err-add_attribute.ensures.read c.loop-head.invariant.read)

pub loop-head-smaller : goal.loop-head-smaller
loop-head-smaller c = shorter c.in-Some.head.now c.in-Some-cut.quoted.now c.in-Some-cut.more.now c.loop-head.rest.now c.in-Some.after.now c.in-Some.ensures c.in-Some-cut.ensures

pub loop-head-preserved : goal.loop-head-preserved
loop-head-preserved c = record {
  read =
      Gathers-more c.loop-head.attributes c.add_attribute.new.attributes c.in-Some.head.now c.in-Some-cut.quoted.now c.in-Some-cut.more.now c.loop-head.rest.now c.in-Some.after.now (attributes_of c.args.text.now) c.in-Some.ensures c.in-Some-cut.ensures
      c.in_ok-add_attribute.ensures.read c.loop-head.invariant.read;
  sound = c.in_ok-add_attribute.ensures.sound;
}

pub returns-clause-read : goal.returns-clause-read
returns-clause-read c = Gathers-end c.loop-head.attributes c.loop-head.rest.now (attributes_of c.args.text.now) c.in_default.ensures c.loop-head.invariant.read
