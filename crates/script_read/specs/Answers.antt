-- What readers answer, beside what is to be read. Memory may run out at any place.
use Rattle.std.specs.Prelude.{◌≡◌, Option, Some, None, Result, Ok, Err}
use Rattle.script_read.specs.declared.act.Act.{Act}
use Rattle.script_read.specs.declared.act.LineFault.{LineFault}
use Rattle.script_read.specs.declared.act.LineFault.TheVariants.{Syntax, UnknownAct, LongLine, Memory}
use Rattle.script_read.specs.Reading.{Line, Long, Unknown, Known}

-- a part answers no fault of whole lines
abbrev pub Fails : {X : Type 0} → LineFault → Option X → Type 0
Fails Syntax read = read ≡ None
Fails UnknownAct read = ⊥
Fails LongLine read = ⊥
Fails Memory read = Unit {0}

abbrev pub Reads : {X : Type 0} → Result X LineFault → Option X → Type 0
Reads (Ok x) read = read ≡ Some x
Reads (Err fault) read = Fails fault read

abbrev pub GivesAct : Result Act LineFault → Line → Type 0
GivesAct result Long = result ≡ Err LongLine
GivesAct result Unknown = result ≡ Err UnknownAct
GivesAct result (Known act) = Reads result act
