-- Setting and unsetting a style keeps the order, the states of contenteditable, and the shape of the trees.
use Rattle.std.proofs.Common.{ℕ, Bool, true, false, if◌then◌else◌, List, [], ◌∷◌, Option, Some, None}
use Rattle.edit_model.specs.State.{State}
use Rattle.edit_model.specs.Valid.{IsValid}
use Rattle.edit_model.specs.Run.{Run, final, value, ◌>>=◌, answer, look, given, for_each, set_attribute, unset_attribute}
use Rattle.edit_model.proofs.Steps.{final-bind, final-answer, final-look, final-edit}
use Rattle.edit_laws.specs.Steady.{Steady}
use Rattle.edit_laws.specs.OrderPreserving.{OrderPreserving}
use Rattle.edit_laws.proofs.Nesting.{Shaped, shaped_refl, shaped_trans, shaped_set, shaped_unset}
use Rattle.edit_laws.proofs.SteadyRuns.{steady_parts}
use Rattle.edit_laws.proofs.OrderPreserving.{order_preserving}
use Rattle.inline_value.specs.Styling.{write_text, set_style, unset_style}
use Rattle.command_laws.proofs.SteadySplits.{valid_final}

-- ---- runs that leave the shape of the trees

pub record Shaping {T : Type 0} (m : Run T) : Type 0 where
  pub shapes : (s : State) → IsValid s → Shaped s (final m s)

pub shaping_answer : {A : Type 0} (a : A) → Shaping (answer a)
shaping_answer a = record { shapes = λ s is. rw (final-answer a s) (shaped_refl s) }

pub shaping_bind : {A B : Type 0} (m : Run A) (k : A → Run B) → Shaping m → ((a : A) → Shaping (k a)) → Shaping (m >>= k)
shaping_bind m k p q = record {
  shapes = λ s is. rw (final-bind m k s) (shaped_trans s (final m s) (final (k (value m s)) (final m s)) (p.shapes s is) ((q (value m s)).shapes (final m s) (valid_final m s is)));
}

pub shaping_look : {A : Type 0} (k : State → Run A) → ((s : State) → Shaping (k s)) → Shaping (look k)
shaping_look k p = record { shapes = λ s is. rw (final-look k s) ((p s).shapes s is) }

pub shaping_if : {A : Type 0} (b : Bool) (m n : Run A) → Shaping m → Shaping n → Shaping (if b then m else n)
shaping_if true m n p q = p
shaping_if false m n p q = q

pub shaping_given : {A B : Type 0} (o : Option A) (n : Run B) (f : A → Run B) → Shaping n → ((a : A) → Shaping (f a)) → Shaping (given o n f)
shaping_given None n f p q = p
shaping_given (Some a) n f p q = q a

pub shaping_set : (e : ℕ) (name value : List ℕ) → Shaping (set_attribute e name value)
shaping_set e name value = record { shapes = λ s is. rw final-edit (shaped_set e name value s is) }

pub shaping_unset : (e : ℕ) (name : List ℕ) → Shaping (unset_attribute e name)
shaping_unset e name = record { shapes = λ s is. rw final-edit (shaped_unset e name s is) }

pub shaping_each : {A : Type 0} (xs : List A) (f : A → Run (Unit {0})) → ((x : A) → Shaping (f x)) → Shaping (for_each xs f)
unfolding for_each
shaping_each [] f p = shaping_answer tt
shaping_each (x ∷ xs) f p = shaping_bind (f x) (λ _. for_each xs f) (p x) (λ _. shaping_each xs f p)

pub ruleset shaping = (shaping_answer, shaping_bind, shaping_look, shaping_if, shaping_given, shaping_each, shaping_set, shaping_unset)

-- ---- styles

order_preserving_text : (e : ℕ) (text : List ℕ) → OrderPreserving (write_text e text)
unfolding write_text
order_preserving_text e text = search order_preserving

pub order_preserving_set_style : (e : ℕ) (name value : List ℕ) → OrderPreserving (set_style e name value)
unfolding set_style
order_preserving_set_style e name value = search (order_preserving, order_preserving_text)

pub order_preserving_unset_style : (e : ℕ) (name : List ℕ) → OrderPreserving (unset_style e name)
unfolding unset_style
order_preserving_unset_style e name = search (order_preserving, order_preserving_text)

steady_text : (e : ℕ) (text : List ℕ) → Steady (write_text e text)
unfolding write_text
steady_text e text = search steady_parts

pub steady_set_style : (e : ℕ) (name value : List ℕ) → Steady (set_style e name value)
unfolding set_style
steady_set_style e name value = search (steady_parts, steady_text)

pub steady_unset_style : (e : ℕ) (name : List ℕ) → Steady (unset_style e name)
unfolding unset_style
steady_unset_style e name = search (steady_parts, steady_text)

shaping_text : (e : ℕ) (text : List ℕ) → Shaping (write_text e text)
unfolding write_text
shaping_text e text = search shaping

pub shaping_set_style : (e : ℕ) (name value : List ℕ) → Shaping (set_style e name value)
unfolding set_style
shaping_set_style e name value = search (shaping, shaping_text)

pub shaping_unset_style : (e : ℕ) (name : List ℕ) → Shaping (unset_style e name)
unfolding unset_style
shaping_unset_style e name = search (shaping, shaping_text)
