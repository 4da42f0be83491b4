use Rattle.page_grammar.proofs.Reading.{begins_reads, reads_begins}
use Rattle.page_grammar.proofs.reads_what_begins_a_page.Goals as goal

pub returns : goal.returns
returns _ = record { reads = begins_reads; begins = reads_begins }
