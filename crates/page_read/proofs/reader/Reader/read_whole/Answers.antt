use Rattle.page_grammar.specs.Machine.{step}
use Rattle.page_read.specs.View.{machine_of}
use Rattle.page_read.proofs.ReadLemmas.{went_goes, whole_read}
use Rattle.page_read.proofs.reader.Reader.read_whole.Goals as goal

pub returns-clause-takes : goal.returns-clause-takes
returns-clause-takes c =
    let old = c.args.self.now.scanner in
    let o = step old.arena.cap (machine_of old) c.args.c in
    let goes = went_goes c.in_ok-feed.field-0 o old c.feed.new.self c.if-not-branch.false c.in_ok-feed.ensures.went in
    rw c.requires.decoded (whole_read o old c.feed.new.self goes)
