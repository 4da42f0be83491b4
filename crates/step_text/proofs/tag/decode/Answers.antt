use Rattle.step_text.proofs.Bytes.{decoded_is, decoded_not, decoded_scalars}
use Rattle.step_text.proofs.tag.decode.Goals as goal

pub returns-in_ok-from_text-in-Ok-clause-read : goal.returns-in_ok-from_text-in-Ok-clause-read
returns-in_ok-from_text-in-Ok-clause-read c = decoded_is c.args.bytes.now c.in-Ok.text.now c.in_ok-from_text-in-Ok.field-0 c.in-Ok.ensures.cases.0 c.in-Ok.ensures.cases.1 c.in_ok-from_text-in-Ok.ensures

pub returns-in_ok-from_text-in-Ok-clause-sound : goal.returns-in_ok-from_text-in-Ok-clause-sound
returns-in_ok-from_text-in-Ok-clause-sound c = decoded_scalars c.args.bytes.now c.in-Ok.text.now c.in_ok-from_text-in-Ok.field-0 c.in-Ok.ensures.cases.0 c.in-Ok.ensures.cases.1 c.in_ok-from_text-in-Ok.ensures

pub returns-in-Err-clause-read : goal.returns-in-Err-clause-read
returns-in-Err-clause-read c = decoded_not c.args.bytes.now c.in-Err.ensures.cases.0
