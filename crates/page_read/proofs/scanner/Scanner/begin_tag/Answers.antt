use Rattle.std.proofs.Common.{arith}
use Rattle.page_read.proofs.NameLemmas.{letter_small}
use Rattle.page_read.proofs.scanner.Scanner.begin_tag.Goals as goal

pub overflow_cast-lower : goal.overflow_cast-lower
overflow_cast-lower c = omega (arith, letter_small c.args.c c.requires.letter, c.lower.ensures)
