use Rattle.page_laws.proofs.ReadBack.{page_back, reading_back}
use Rattle.page_laws.proofs.pages_are_read_back.Goals as goal

pub returns : goal.returns
returns c = record { page = page_back; reading = reading_back }
