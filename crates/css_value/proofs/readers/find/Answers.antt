use Rattle.css_value.proofs.NameValues.{last_value-all}
use Rattle.css_value.proofs.readers.find.Goals as goal

pub loop-stated-init : goal.loop-stated-init
loop-stated-init c = last_value-all c.args.text.now c.args.name.now
