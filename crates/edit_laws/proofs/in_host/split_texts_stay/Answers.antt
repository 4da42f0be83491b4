use Rattle.edit_model.specs.Compositions.{split_words}
use Rattle.edit_laws.proofs.HostRuns.{stays_split, in_host}
use Rattle.edit_laws.proofs.in_host.split_texts_stay.Goals as goal

pub returns : goal.returns
returns c = λ kept n at. in_host kept (split_words n at) (λ outer h. stays_split outer h kept n at)
