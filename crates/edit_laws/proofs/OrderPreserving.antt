-- Runs that keep the order, by their parts.
use Rattle.std.proofs.Common.{ℕ, zero, suc, Bool, true, false, if◌then◌else◌, List, [], ◌∷◌, Option, Some, None}
use Rattle.edit_model.specs.DomModel.declared.attributes.Attribute.{Attribute}
use Rattle.edit_model.specs.State.{State}
use Rattle.edit_model.specs.Edit.{Remove, Set, Unset, is_made_edit}
use Rattle.edit_model.specs.Action.{Action, Change, MakeElement, MakeWords}
use Rattle.edit_model.specs.Run.{Run, final, value, ◌>>=◌, act, answer, look, given, for_each, while_at_most, edit, remove, set_attribute, unset_attribute, make_element, make_words, perform}
use Rattle.edit_model.proofs.Steps.{final-bind, final-answer, final-look, final-act}
use Rattle.edit_laws.specs.OrderPreserving.{OrderPreserving, IsQuiet}
use Rattle.edit_laws.proofs.Subsequences.{keeps_refl, keeps_trans}
use Rattle.edit_laws.proofs.QuietActions.{keeping_final, quiet_keeps}

pub order_preserving_act : {A : Type 0} (a : Action) (tells : State → A) → IsQuiet a → OrderPreserving (act a tells)
order_preserving_act a tells quiet = record { keeps = λ s is. rw (final-act a tells s) (quiet_keeps a quiet s is) }

pub order_preserving_answer : {A : Type 0} (a : A) → OrderPreserving (answer a)
order_preserving_answer a = record { keeps = λ s is. rw (final-answer a s) (keeps_refl _) }

pub order_preserving_bind : {A B : Type 0} (m : Run A) (k : A → Run B) → OrderPreserving m → ((a : A) → OrderPreserving (k a)) → OrderPreserving (m >>= k)
order_preserving_bind m k p q = record {
  keeps = λ s is. rw (final-bind m k s) (keeps_trans (p.keeps s is) ((q (value m s)).keeps (final m s) (keeping_final m s is)));
}

pub order_preserving_look : {A : Type 0} (k : State → Run A) → ((s : State) → OrderPreserving (k s)) → OrderPreserving (look k)
order_preserving_look k p = record { keeps = λ s is. rw (final-look k s) ((p s).keeps s is) }

pub order_preserving_if : {A : Type 0} (b : Bool) (m n : Run A) → OrderPreserving m → OrderPreserving n → OrderPreserving (if b then m else n)
order_preserving_if true m n p q = p
order_preserving_if false m n p q = q

pub order_preserving_given : {A B : Type 0} (o : Option A) (n : Run B) (f : A → Run B) → OrderPreserving n → ((a : A) → OrderPreserving (f a)) → OrderPreserving (given o n f)
order_preserving_given None n f p q = p
order_preserving_given (Some a) n f p q = q a

pub order_preserving_each : {A : Type 0} (xs : List A) (f : A → Run (Unit {0})) → ((x : A) → OrderPreserving (f x)) → OrderPreserving (for_each xs f)
unfolding for_each
order_preserving_each [] f p = order_preserving_answer tt
order_preserving_each (x ∷ xs) f p = order_preserving_bind (f x) (λ _. for_each xs f) (p x) (λ _. order_preserving_each xs f p)

pub order_preserving_while : {A : Type 0} (bound : ℕ) (test : State → A → Bool) (body : A → Run A) (a : A) → ((a : A) → OrderPreserving (body a)) → OrderPreserving (while_at_most bound test body a)
unfolding while_at_most
order_preserving_while zero test body a p = order_preserving_answer a
order_preserving_while (suc n) test body a p =
    order_preserving_look (λ s. if test s a then (body a >>= while_at_most n test body) else answer a)
    (λ s. order_preserving_if (test s a) (body a >>= while_at_most n test body) (answer a) (order_preserving_bind (body a) (while_at_most n test body) (p a) (λ x. order_preserving_while n test body x p)) (order_preserving_answer a))

-- ---- the runs of one action

pub order_preserving_remove : (n : ℕ) → OrderPreserving (remove n)
unfolding edit
order_preserving_remove n = order_preserving_act (Change (Remove n)) (is_made_edit (Remove n)) tt

pub order_preserving_set : (n : ℕ) (name value : List ℕ) → OrderPreserving (set_attribute n name value)
unfolding edit
order_preserving_set n name value = order_preserving_act (Change (Set n name value)) (is_made_edit (Set n name value)) tt

pub order_preserving_unset : (n : ℕ) (name : List ℕ) → OrderPreserving (unset_attribute n name)
unfolding edit
order_preserving_unset n name = order_preserving_act (Change (Unset n name)) (is_made_edit (Unset n name)) tt

pub order_preserving_make_element : (name : List ℕ) (attributes : List Attribute) → OrderPreserving (make_element name attributes)
unfolding make_element
order_preserving_make_element name attributes = order_preserving_act (MakeElement name attributes) (λ s. s.next) tt

pub order_preserving_make_words : (chars : List ℕ) → OrderPreserving (make_words chars)
unfolding make_words
order_preserving_make_words chars = order_preserving_act (MakeWords chars) (λ s. s.next) tt

pub order_preserving_perform : (a : Action) → IsQuiet a → OrderPreserving (perform a)
unfolding perform
order_preserving_perform a quiet = order_preserving_act a (λ _. tt) quiet

-- with these an algorithm without moves and inserts is order-preserving by its parts alone
pub ruleset order_preserving = (order_preserving_answer, order_preserving_bind, order_preserving_look, order_preserving_if, order_preserving_given, order_preserving_each, order_preserving_while, order_preserving_remove, order_preserving_set, order_preserving_unset, order_preserving_make_element, order_preserving_make_words, order_preserving_perform)
