use Rattle.page_grammar.proofs.ReaderAnswers.{too_long, stopped, unclosed, ended}
use Rattle.page_grammar.proofs.a_reader_finds_the_reading.Goals as goal

pub returns : goal.returns
returns _ = record { too_long = too_long; stopped = stopped; unclosed = unclosed; ended = ended }
