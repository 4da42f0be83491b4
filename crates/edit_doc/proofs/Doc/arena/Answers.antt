use Rattle.std.proofs.Common.{sym}
use Rattle.edit_doc.proofs.Reading.{document_is}
use Rattle.edit_doc.proofs.Doc.arena.Goals as goal

pub returns : goal.returns
returns c =
    let s = c.nodes.ensures in
    record { trees = s.part; document = document_is s; held = sym s.held; next = sym s.next; cap = sym s.cap }
