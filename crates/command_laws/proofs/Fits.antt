-- Runs that keep the order and leave the states of contenteditable, by their parts: both certificates in one walk.
use Rattle.std.proofs.Common.{ℕ, Bool, if◌then◌else◌, List, Option}
use Rattle.edit_model.specs.State.{State}
use Rattle.edit_model.specs.Edit.{Remove, Set, Unset}
use Rattle.edit_model.specs.Action.{Action, Change}
use Rattle.edit_model.specs.Run.{Run, ◌>>=◌, answer, look, given, for_each, while_at_most, remove, set_attribute, unset_attribute, perform}
use Rattle.edit_laws.specs.Steady.{IsSteady, Steady}
use Rattle.edit_laws.specs.OrderPreserving.{OrderPreserving, IsQuiet}
use Rattle.edit_laws.proofs.SteadyRuns.{steady_answer, steady_bind, steady_look_at, steady_if, steady_given, steady_each, steady_while, steady_edit, steady_perform}
use Rattle.edit_laws.proofs.OrderPreserving.{order_preserving_answer, order_preserving_bind, order_preserving_look, order_preserving_if, order_preserving_given, order_preserving_each, order_preserving_while, order_preserving_remove, order_preserving_set, order_preserving_unset, order_preserving_perform}

pub record Fit {T : Type 0} (m : Run T) : Type 0 where
  pub order : OrderPreserving m
  pub states : Steady m

pub fit : {T : Type 0} {m : Run T} → OrderPreserving m → Steady m → Fit m
fit order states = record { order = order; states = states }

pub fit_answer : {A : Type 0} (a : A) → Fit (answer a)
fit_answer a = fit (order_preserving_answer a) (steady_answer a)

pub fit_bind : {A B : Type 0} (m : Run A) (k : A → Run B) → Fit m → ((a : A) → Fit (k a)) → Fit (m >>= k)
fit_bind m k p q = fit (order_preserving_bind m k p.order (λ a. (q a).order)) (steady_bind m k p.states (λ a. (q a).states))

pub fit_look : {A : Type 0} (k : State → Run A) → ((s : State) → Fit (k s)) → Fit (look k)
fit_look k p = fit (order_preserving_look k (λ s. (p s).order)) (steady_look_at k (λ s. (p s).states))

pub fit_if : {A : Type 0} (b : Bool) (m n : Run A) → Fit m → Fit n → Fit (if b then m else n)
fit_if b m n p q = fit (order_preserving_if b m n p.order q.order) (steady_if b m n p.states q.states)

pub fit_given : {A B : Type 0} (o : Option A) (n : Run B) (f : A → Run B) → Fit n → ((a : A) → Fit (f a)) → Fit (given o n f)
fit_given o n f p q = fit (order_preserving_given o n f p.order (λ a. (q a).order)) (steady_given o n f p.states (λ a. (q a).states))

pub fit_each : {A : Type 0} (xs : List A) (f : A → Run (Unit {0})) → ((x : A) → Fit (f x)) → Fit (for_each xs f)
fit_each xs f p = fit (order_preserving_each xs f (λ x. (p x).order)) (steady_each xs f (λ x. (p x).states))

pub fit_while : {A : Type 0} (bound : ℕ) (test : State → A → Bool) (body : A → Run A) (a : A) → ((a : A) → Fit (body a)) → Fit (while_at_most bound test body a)
fit_while bound test body a p = fit (order_preserving_while bound test body a (λ x. (p x).order)) (steady_while bound test body a (λ x. (p x).states))

-- ---- the runs of one edit

pub fit_remove : (n : ℕ) → Fit (remove n)
fit_remove n = fit (order_preserving_remove n) (steady_edit (Remove n) tt)

pub fit_set : (n : ℕ) (name value : List ℕ) → IsSteady (Change (Set n name value)) → Fit (set_attribute n name value)
fit_set n name value leaves = fit (order_preserving_set n name value) (steady_edit (Set n name value) leaves)

pub fit_unset : (n : ℕ) (name : List ℕ) → IsSteady (Change (Unset n name)) → Fit (unset_attribute n name)
fit_unset n name leaves = fit (order_preserving_unset n name) (steady_edit (Unset n name) leaves)

pub fit_perform : (a : Action) → IsQuiet a → IsSteady a → Fit (perform a)
fit_perform a quiet leaves = fit (order_preserving_perform a quiet) (steady_perform a leaves)

-- with these a run whose moves are fit is fit by its parts
pub ruleset fits = (fit_answer, fit_bind, fit_look, fit_if, fit_given, fit_each, fit_while, fit_remove, fit_set, fit_unset, fit_perform)
