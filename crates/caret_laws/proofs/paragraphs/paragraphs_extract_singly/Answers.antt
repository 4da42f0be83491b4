use Rattle.caret_laws.proofs.WholeParagraphs.{whole_singly}
use Rattle.caret_laws.proofs.paragraphs.paragraphs_extract_singly.Goals as goal

pub returns : goal.returns
returns c = λ s t h is hosted inside r leaves.
    whole_singly s h (record { valid = is; hosted = hosted; inside = inside }) t (record { way = r; leaves = leaves })
