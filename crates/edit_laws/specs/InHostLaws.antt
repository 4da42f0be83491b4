-- The certificate of runs that leave the selection in the host, closed under the ways in which runs
-- are composed.
use Rattle.std.specs.Prelude.{◌≡◌, ℕ, Bool, List, Option, if◌then◌else◌}
use Rattle.edit_model.specs.State.{State}
use Rattle.edit_model.specs.Action.{Action}
use Rattle.edit_model.specs.Compositions.{split_words}
use Rattle.edit_model.specs.Run.{Run, ◌>>=◌, act, answer, look, given, for_each, while_at_most}
use Rattle.edit_laws.specs.InHost.{IsCalm, StaysInHost}

abbrev pub CalmActsStay : Type 0 → Type 0
CalmActsStay A = (scratched : Bool) (a : Action) (tells : State → A) → IsCalm a → StaysInHost scratched (act a tells)

abbrev pub AnswersStay : Type 0 → Type 0
AnswersStay A = (scratched : Bool) (a : A) → StaysInHost scratched (answer a)

abbrev pub FollowsStay : Type 0 → Type 0 → Type 0
FollowsStay A B =
    (scratched : Bool) (m : Run A) (k : A → Run B) → StaysInHost scratched m → ((a : A) → StaysInHost scratched (k a))
    → StaysInHost scratched (m >>= k)

abbrev pub LooksStay : Type 0 → Type 0
LooksStay A =
    (scratched : Bool) (k : State → Run A) → ((s : State) → StaysInHost scratched (k s)) → StaysInHost scratched (look k)

abbrev pub ChoosesStay : Type 0 → Type 0
ChoosesStay A =
    (scratched : Bool) (b : Bool) (m n : Run A) → StaysInHost scratched m → StaysInHost scratched n → StaysInHost scratched (if b then m else n)

abbrev pub GivenStays : Type 0 → Type 0 → Type 0
GivenStays A B =
    (scratched : Bool) (o : Option A) (n : Run B) (f : A → Run B) → StaysInHost scratched n → ((a : A) → StaysInHost scratched (f a))
    → StaysInHost scratched (given o n f)

abbrev pub ForEachStays : Type 0 → Type 0
ForEachStays A =
    (scratched : Bool) (xs : List A) (f : A → Run (Unit {0})) → ((x : A) → StaysInHost scratched (f x))
    → StaysInHost scratched (for_each xs f)

abbrev pub WhileStays : Type 0 → Type 0
WhileStays A =
    (scratched : Bool) (bound : ℕ) (test : State → A → Bool) (body : A → Run A) (a : A)
    → ((a : A) → StaysInHost scratched (body a))
    → StaysInHost scratched (while_at_most bound test body a)

-- splitting a text sends points to a text that is made there
abbrev pub SplitTextsStay : Type 0
SplitTextsStay = (scratched : Bool) (n at : ℕ) → StaysInHost scratched (split_words n at)
