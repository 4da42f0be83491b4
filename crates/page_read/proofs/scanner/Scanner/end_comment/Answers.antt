use Rattle.std.proofs.Common.{ap}
use Rattle.page_read.specs.Steady.{taken}
use Rattle.page_read.proofs.OpenLemmas.{leaf_steady}
use Rattle.page_read.proofs.scanner.Scanner.end_comment.Goals as goal

pub returns-clause-steady : goal.returns-clause-steady
returns-clause-steady c =
    leaf_steady c.args.self.now c.append_remark.new.arena c.requires.steady (ap taken c.requires.state) c.in_ok-append_remark.ensures.opens
