use Rattle.std.proofs.Common.{sym}
use Rattle.page_read.proofs.OpenLemmas.{last_open, document_open}
use Rattle.page_read.proofs.scanner.Scanner.innermost.Goals as goal

pub returns-in-Some-clause-here : goal.returns-in-Some-clause-here
returns-in-Some-clause-here c = last_open c.args.self.now.arena c.args.self.now.opened.items c.in-Some.open.now (rw (← c.deref.ensures.value) (sym c.in-Some.ensures.value)) c.requires

pub returns-in-None-clause-here : goal.returns-in-None-clause-here
returns-in-None-clause-here c = document_open c.args.self.now.arena c.document.result c.valid.ensures c.document.ensures.held c.document.ensures.label
