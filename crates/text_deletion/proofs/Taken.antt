-- The delete command answers true, whatever it does.
use Rattle.std.proofs.Common.{◌≡◌, true, refl}
use Rattle.edit_model.specs.State.{State}
use Rattle.edit_model.specs.Run.{value, ◌>>=◌, answer, look}
use Rattle.text_deletion.specs.Delete.{delete}

pub delete_answers_true : (s : State) → value delete s ≡ true
unfolding delete value look ◌>>=◌ answer
delete_answers_true s = refl
