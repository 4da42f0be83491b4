use Rattle.page_laws.proofs.ReadBack.{document_back, document_reading_back}
use Rattle.page_laws.proofs.documents_are_read_back.Goals as goal

pub returns : goal.returns
returns c = record { page = document_back; reading = document_reading_back }
