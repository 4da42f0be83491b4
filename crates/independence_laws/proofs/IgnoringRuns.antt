-- How runs that ignore marks and the cap are composed, and the runs of one action.
use Rattle.std.proofs.Common.{◌≡◌, ℕ, zero, suc, Bool, true, false, List, [], ◌∷◌, Option, Some, None, if◌then◌else◌, refl, ap, ◌∙◌}
use Rattle.edit_model.specs.DomModel.declared.attributes.Attribute.{Attribute}
use Rattle.edit_model.specs.State.{State}
use Rattle.edit_model.specs.Action.{Action, Change, MakeElement, MakeWords}
use Rattle.edit_model.specs.Edit.{Edit, is_made_edit}
use Rattle.edit_model.specs.Run.{Run, final, value, ◌>>=◌, act, answer, look, given, for_each, while_at_most, edit, make_element, make_words, perform}
use Rattle.independence_laws.specs.Unmarked.{unmarked}
use Rattle.independence_laws.specs.Ignoring.{IgnoresMarks}
use Rattle.independence_laws.proofs.UnmarkedEdits.{made_edit_same, acted_same}

-- ---- the ways in which runs are composed

pub ignores_answer : {A : Type 0} (a : A) → IgnoresMarks (answer a)
unfolding answer final value
ignores_answer a = record { ends = λ s. refl; answers = λ s. refl }

pub ignores_bind : {A B : Type 0} (m : Run A) (k : A → Run B) → IgnoresMarks m → ((a : A) → IgnoresMarks (k a)) → IgnoresMarks (m >>= k)
unfolding ◌>>=◌ final value
ignores_bind m k h g = record {
  ends = λ s. ap (λ v. final (k v) (final m (unmarked s))) (h.answers s) ∙ (ap (final (k (value m s))) (h.ends s) ∙ (g (value m s)).ends (final m s));
  answers = λ s. ap (λ v. value (k v) (final m (unmarked s))) (h.answers s) ∙ (ap (value (k (value m s))) (h.ends s) ∙ (g (value m s)).answers (final m s));
}

-- what is looked at in a state is the same without marks and cap
pub ignores_look : {A : Type 0} (k : State → Run A) → ((s : State) → k (unmarked s) ≡ k s) → ((s : State) → IgnoresMarks (k s)) → IgnoresMarks (look k)
unfolding look final value
ignores_look k same h = record {
  ends = λ s. ap (λ m. final m (unmarked s)) (same s) ∙ (h s).ends s;
  answers = λ s. ap (λ m. value m (unmarked s)) (same s) ∙ (h s).answers s;
}

pub ignores_if : {A : Type 0} (b : Bool) (m n : Run A) → IgnoresMarks m → IgnoresMarks n → IgnoresMarks (if b then m else n)
ignores_if true m n h g = h
ignores_if false m n h g = g

pub ignores_given : {A B : Type 0} (o : Option A) (n : Run B) (f : A → Run B) → IgnoresMarks n → ((a : A) → IgnoresMarks (f a)) → IgnoresMarks (given o n f)
ignores_given None n f h g = h
ignores_given (Some a) n f h g = g a

pub ignores_each : {A : Type 0} (xs : List A) (f : A → Run (Unit {0})) → ((x : A) → IgnoresMarks (f x)) → IgnoresMarks (for_each xs f)
unfolding for_each
ignores_each [] f h = ignores_answer tt
ignores_each (x ∷ xs) f h = ignores_bind (f x) (λ _. for_each xs f) (h x) (λ _. ignores_each xs f h)

pub ignores_while : {A : Type 0} (n : ℕ) (test : State → A → Bool) (body : A → Run A) (a : A) → ((s : State) → test (unmarked s) ≡ test s) → ((a : A) → IgnoresMarks (body a)) → IgnoresMarks (while_at_most n test body a)
unfolding while_at_most
ignores_while zero test body a same h = ignores_answer a
ignores_while (suc n) test body a same h =
    ignores_look (λ s. if test s a then (body a >>= while_at_most n test body) else answer a)
    (λ s i. if same s i a then (body a >>= while_at_most n test body) else answer a)
    (λ s. ignores_if (test s a) (body a >>= while_at_most n test body) (answer a) (ignores_bind (body a) (while_at_most n test body) (h a) (λ b. ignores_while n test body b same h)) (ignores_answer a))

-- ---- the runs of one action

ignores_act : {A : Type 0} (a : Action) (tells : State → A) → ((s : State) → tells (unmarked s) ≡ tells s) → IgnoresMarks (act a tells)
unfolding act final value
ignores_act a tells same = record { ends = λ s. acted_same a s; answers = same }

pub ignores_edit : (e : Edit) → IgnoresMarks (edit e)
unfolding edit
ignores_edit e = ignores_act (Change e) (is_made_edit e) (made_edit_same e)

pub ignores_perform : (a : Action) → IgnoresMarks (perform a)
unfolding perform
ignores_perform a = ignores_act a (λ _. tt) (λ s. refl)

pub ignores_make : (name : List ℕ) (attributes : List Attribute) → IgnoresMarks (make_element name attributes)
unfolding make_element
ignores_make name attributes = ignores_act (MakeElement name attributes) (λ s. s.next) (λ s. refl)

pub ignores_words : (chars : List ℕ) → IgnoresMarks (make_words chars)
unfolding make_words
ignores_words chars = ignores_act (MakeWords chars) (λ s. s.next) (λ s. refl)

-- with these a run ignores marks and the cap by its parts
pub ruleset ignoring_parts = (ignores_answer, ignores_bind, ignores_look, ignores_if, ignores_given, ignores_each, ignores_while, ignores_edit, ignores_perform, ignores_make, ignores_words)
