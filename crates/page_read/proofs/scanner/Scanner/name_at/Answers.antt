use Rattle.std.proofs.Common.{sym}
use Rattle.page_read.proofs.OpenLemmas.{top_name}
use Rattle.page_read.proofs.scanner.Scanner.name_at.Goals as goal

pub returns-in-Some-clause-left : goal.returns-in-Some-clause-left
returns-in-Some-clause-left c =
    let t = top_name c.args.self.now.opened.items c.in-Some.open.now (rw (← c.deref.ensures.value) (sym c.in-Some.ensures.value)) in
    rw t (rw (← c.deref-in-Some.ensures.value) c.byte_at.ensures.left)
