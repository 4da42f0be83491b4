use Rattle.std.proofs.Common.{arith, sym, ◌∙◌}
use Rattle.page_read.proofs.NameLemmas.{name_small}
use Rattle.page_read.proofs.scanner.Scanner.tag_name.Goals as goal

pub overflow_cast-lower : goal.overflow_cast-lower
overflow_cast-lower c = omega (arith, name_small c.args.c (sym c.is_name_char.ensures ∙ c.if-is_name_char.true), c.lower.ensures)
