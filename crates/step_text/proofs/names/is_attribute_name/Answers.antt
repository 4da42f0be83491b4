use Rattle.step_text.proofs.Bytes.{attribute_name_is, attribute_name_not}
use Rattle.step_text.proofs.names.is_attribute_name.Goals as goal

pub returns-in-Ok : goal.returns-in-Ok
returns-in-Ok c = attribute_name_is c.args.name.now c.in-Ok.text.now c.is_attribute_text.result c.in-Ok.ensures.cases.0 c.in-Ok.ensures.cases.1 c.is_attribute_text.ensures

pub returns-in-Err : goal.returns-in-Err
returns-in-Err c = attribute_name_not c.args.name.now c.in-Err.ensures.cases.0
