use Rattle.std.proofs.Common.{◌≡◌, true, ap, ◌∙◌}
use Rattle.script_read.specs.Acts.{is_number}
use Rattle.script_read.specs.Reading.{number_of}
use Rattle.script_read.proofs.Numbers.{parse_number, number_is_utf8}
use Rattle.script_read.proofs.parts.parse_digits.Goals as goal

pub returns-in-Ok : goal.returns-in-Ok
returns-in-Ok c =
    let same = c.in-Ok.ensures.cases.0 in
    let number : is_number c.in-Ok.digits.now ≡ true = ap is_number same ∙ c.requires in
    c.ok.ensures.value ∙ parse_number c.in-Ok.digits.now c.parse.result c.parse.ensures.value.0 number ∙ ap number_of same

pub returns-in-Err : goal.returns-in-Err
returns-in-Err c = absurd (c.in-Err.ensures.cases.0 (number_is_utf8 c.args.text.now c.requires))
