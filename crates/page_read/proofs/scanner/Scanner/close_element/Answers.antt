use Rattle.std.proofs.Common.{ap, arith, length-append, length, ◌∷◌, []}
use Rattle.page_read.proofs.OpenLemmas.{each_pop}
use Rattle.page_read.proofs.scanner.Scanner.close_element.Goals as goal

pub returns-in-Some-clause-steady : goal.returns-in-Some-clause-steady
returns-in-Some-clause-steady c =
    let items = c.in-Some.ensures.items in
    let count = ap length items in
    record {
      levels = omega (arith, c.requires.steady.levels, count, length-append c.pop.new.self.items (c.in-Some.field-0 ∷ []));
      opens = each_pop c.args.self.now.arena c.args.self.now.opened.items c.pop.new.self.items c.in-Some.field-0 items c.requires.steady.opens;
      texts = c.requires.steady.texts;
      scalar = c.requires.steady.scalar;
      at = tt;
    }
