-- The certificate of runs that keep islands and the selection, closed under the ways in which runs
-- are composed.
use Rattle.std.specs.Prelude.{◌≡◌, ℕ, Bool, true, List, Option, if◌then◌else◌}
use Rattle.edit_model.specs.State.{State}
use Rattle.edit_model.specs.Action.{Action}
use Rattle.edit_model.specs.Confined.{is_editable_for}
use Rattle.edit_model.specs.Compositions.{attribute_list_of, set_tag_name, split_words}
use Rattle.edit_model.specs.Moves.{unwrap}
use Rattle.edit_model.specs.Valid.{IsValid}
use Rattle.edit_model.specs.Run.{Run, ◌>>=◌, act, answer, look, given, for_each, while_at_most, make_element}
use Rattle.edit_laws.specs.Steady.{IsSteady, Steady}

abbrev pub SteadyActs : Type 0 → Type 0
SteadyActs A = (a : Action) (tells : State → A) → IsSteady a → Steady (act a tells)

abbrev pub SteadyAnswers : Type 0 → Type 0
SteadyAnswers A = (a : A) → Steady (answer a)

abbrev pub SteadyFollows : Type 0 → Type 0 → Type 0
SteadyFollows A B =
    (m : Run A) (k : A → Run B) → Steady m → ((a : A) → Steady (k a)) → Steady (m >>= k)

abbrev pub SteadyLooks : Type 0 → Type 0
SteadyLooks A =
    (k : State → Run A) → ((s : State) → IsValid s → Steady (k s)) → Steady (look k)

abbrev pub SteadyChooses : Type 0 → Type 0
SteadyChooses A =
    (b : Bool) (m n : Run A) → Steady m → Steady n → Steady (if b then m else n)

abbrev pub SteadyGiven : Type 0 → Type 0 → Type 0
SteadyGiven A B =
    (o : Option A) (n : Run B) (f : A → Run B) → Steady n → ((a : A) → Steady (f a))
    → Steady (given o n f)

abbrev pub SteadyForEach : Type 0 → Type 0
SteadyForEach A =
    (xs : List A) (f : A → Run (Unit {0})) → ((x : A) → Steady (f x)) → Steady (for_each xs f)

abbrev pub SteadyWhile : Type 0 → Type 0
SteadyWhile A =
    (bound : ℕ) (test : State → A → Bool) (body : A → Run A) (a : A)
    → ((a : A) → Steady (body a))
    → Steady (while_at_most bound test body a)

-- an element made with the attributes of a node that is editable for the host
abbrev pub SteadyCopies : Type 0
SteadyCopies =
    (s : State) (e : ℕ) (name : List ℕ) → IsValid s → is_editable_for s e ≡ true
    → Steady (make_element name (attribute_list_of s.trees e))

abbrev pub UnwrapsSteady : Type 0
UnwrapsSteady = (e : ℕ) → Steady (unwrap e)

-- the compositions of edits that the standards name
abbrev pub TagNamesSteady : Type 0
TagNamesSteady = (e : ℕ) (name : List ℕ) → Steady (set_tag_name e name)

abbrev pub SplitTextsSteady : Type 0
SplitTextsSteady = (n at : ℕ) → Steady (split_words n at)
