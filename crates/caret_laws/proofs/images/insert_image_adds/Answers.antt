use Rattle.caret_laws.proofs.PutImages.{image_added}
use Rattle.caret_laws.proofs.images.insert_image_adds.Goals as goal

pub returns : goal.returns
returns c = λ s h p a v is hosted inside room empty caret held.
    (let k = image_added s h (record { valid = is; hosted = hosted; inside = inside }) p a v room empty caret held in
    (k.label, k.adds, k.stands))
