use Rattle.std.proofs.Common.{take}
use Rattle.page_read.specs.Reading.{reader_of, construction_of, IsHeld}
use Rattle.page_read.proofs.ReadLemmas.{HasRead}
use Rattle.page_read.proofs.read_page.Given as goal

-- the bytes so far are read
abbrev pub invariant-loop-at : goal.invariant-loop-at
invariant-loop-at l = record {
  read : HasRead l.cap (take l.at l.bytes) (reader_of l.reader) (construction_of l.reader);
  held : IsHeld l.reader l.cap;
}
