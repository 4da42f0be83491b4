-- Runs that leave the states of contenteditable and the selection, by their parts.
use Rattle.std.proofs.Common.{◌≡◌, ℕ, ◌+◌, Bool, true, false, ◌||◌, not, if◌then◌else◌, List, Option, Some, refl}
use Rattle.std.proofs.lemmas.Bool.{or_parts, not-false}
use Rattle.edit_model.specs.DomModel.Contents.{has_name}
use Rattle.edit_model.specs.DomModel.Forest.{parent_of, children_of}
use Rattle.edit_model.specs.State.{State}
use Rattle.edit_model.specs.Edit.{Edit}
use Rattle.edit_model.specs.Action.{Action, Change, MakeElement, Unselect, Send, Grow}
use Rattle.edit_model.specs.Confined.{is_editable_for}
use Rattle.edit_model.specs.Compositions.{attribute_list_of, points_sent, split_under, split_words, renamed, set_tag_name}
use Rattle.edit_model.specs.Moves.{move_each_last}
use Rattle.edit_model.specs.Laws.{LeavesStates, LeavesStatesOn}
use Rattle.edit_model.specs.Valid.{IsValid}
use Rattle.edit_model.specs.Run.{Reaches, here, onward, Run, ◌>>=◌, ◌>>◌, act, answer, done, look, given, for_each, while_at_most, edit, insert, remove, make_element, make_words, perform, send, grow}
use Rattle.edit_model.specs.DomModel.declared.attributes.Attribute.{Attribute}
use Rattle.edit_model.proofs.Each.{Each, EachOn, each_bind, each_answer, each_look, each_if, each_given, each_for_each, each_while, each_act, each_edit, each_make_element, each_make_words, each_perform, copy_stateless}
use Rattle.edit_laws.specs.Steady.{IsSteady, SteadyOn, Steady}

abbrev Steadying : Action → State → Type 0
Steadying a s = IsSteady a

each_on : {s t : State} (r : Reaches s t) → SteadyOn r → EachOn Steadying r
each_on here h = tt
each_on (onward q a) h = (each_on q h.0, h.1)

steady_on : {s t : State} (r : Reaches s t) → EachOn Steadying r → SteadyOn r
steady_on here h = tt
steady_on (onward q a) h = (steady_on q h.0, h.1)

pub steady : {A : Type 0} {m : Run A} → Each Steadying m → Steady m
steady {m = m} h = record { leaves = λ s is. steady_on (m.by_actions s) (h.on s is) }

pub each_of : {A : Type 0} {m : Run A} → Steady m → Each Steadying m
each_of {m = m} h = record { on = λ s is. each_on (m.by_actions s) (h.leaves s is) }

-- what is steady leaves the states of contenteditable
leaves_states : (a : Action) → IsSteady a → LeavesStates a
leaves_states (Change e) h = h
leaves_states (MakeElement name attributes) h = h
leaves_states Unselect h = tt
leaves_states _ h = h

pub states_on : {s t : State} (r : Reaches s t) → SteadyOn r → LeavesStatesOn r
states_on here h = tt
states_on (onward q a) h = (states_on q h.0, leaves_states a h.1)

pub steady_act : {A : Type 0} (a : Action) (tells : State → A) → IsSteady a → Steady (act a tells)
steady_act a tells h = steady (each_act Steadying a tells (λ s is. h))

pub steady_answer : {A : Type 0} (a : A) → Steady (answer a)
steady_answer a = steady (each_answer Steadying a)

pub steady_bind : {A B : Type 0} (m : Run A) (k : A → Run B) → Steady m → ((a : A) → Steady (k a)) → Steady (m >>= k)
steady_bind m k h g = steady (each_bind Steadying m k (each_of h) (λ a. each_of (g a)))

pub steady_look : {A : Type 0} (k : State → Run A) → ((s : State) → IsValid s → Steady (k s)) → Steady (look k)
steady_look k h = steady (each_look Steadying k (λ s is. each_of (h s is)))

-- the same where nothing is asked of the state
pub steady_look_at : {A : Type 0} (k : State → Run A) → ((s : State) → Steady (k s)) → Steady (look k)
steady_look_at k h = steady_look k (λ s _. h s)

pub steady_if : {A : Type 0} (b : Bool) (m n : Run A) → Steady m → Steady n → Steady (if b then m else n)
steady_if b m n h g = steady (each_if Steadying b m n (each_of h) (each_of g))

pub steady_given : {A B : Type 0} (o : Option A) (n : Run B) (f : A → Run B) → Steady n → ((a : A) → Steady (f a)) → Steady (given o n f)
steady_given o n f h g = steady (each_given Steadying o n f (each_of h) (λ a. each_of (g a)))

pub steady_each : {A : Type 0} (xs : List A) (f : A → Run (Unit {0})) → ((x : A) → Steady (f x)) → Steady (for_each xs f)
steady_each xs f h = steady (each_for_each Steadying xs f (λ x. each_of (h x)))

pub steady_while : {A : Type 0} (n : ℕ) (test : State → A → Bool) (body : A → Run A) (a : A) → ((a : A) → Steady (body a)) → Steady (while_at_most n test body a)
steady_while n test body a h = steady (each_while Steadying n test body a (λ x. each_of (h x)))

-- ---- the runs of one action

pub steady_edit : (e : Edit) → IsSteady (Change e) → Steady (edit e)
steady_edit e h = steady (each_edit Steadying e (λ s is. h))

pub steady_make_element : (name : List ℕ) (attributes : List Attribute) → IsSteady (MakeElement name attributes) → Steady (make_element name attributes)
steady_make_element name attributes h = steady (each_make_element Steadying name attributes (λ s is. h))

pub steady_make_words : (chars : List ℕ) → Steady (make_words chars)
steady_make_words chars = steady (each_make_words Steadying chars (λ s is. tt))

pub steady_perform : (a : Action) → IsSteady a → Steady (perform a)
steady_perform a h = steady (each_perform Steadying a (λ s is. h))

pub steady_copy : (s : State) (e : ℕ) (name : List ℕ) → IsValid s → is_editable_for s e ≡ true → Steady (make_element name (attribute_list_of s.trees e))
steady_copy s e name is editable = steady_make_element name (attribute_list_of s.trees e) (copy_stateless s e name is editable)

steady_each_last : (ns : List ℕ) (p : ℕ) → Steady (move_each_last ns p)
unfolding move_each_last
steady_each_last ns p = search (steady_each, steady_bind, steady_edit, steady_answer)

steady_rest : (p : ℕ) (s : State) (e x : ℕ) → Steady (insert p (Some e) x >>= (λ _. move_each_last (children_of s.trees e) x >>= (λ _. remove e >>= (λ _. answer x))))
steady_rest p s e x = search (steady_bind, steady_edit, steady_answer, steady_each_last)

pub steady_tag_name : (e : ℕ) (name : List ℕ) → Steady (set_tag_name e name)
unfolding set_tag_name renamed
steady_tag_name e name =
    steady_look _ (λ s is.
    steady_given (parent_of s.trees e) (answer e) _ (steady_answer e) (λ p. by_tests s is p (has_name s.trees e name || not (is_editable_for s e)) refl))
  where
    by_tests : (s : State) → IsValid s → (p : ℕ) → (b : Bool) → (has_name s.trees e name || not (is_editable_for s e)) ≡ b → Steady (if b then answer e else renamed p s e name)
    by_tests s is p true on = steady_answer e
    by_tests s is p false off =
        steady_bind (make_element name (attribute_list_of s.trees e)) _ (steady_copy s e name is (not-false (is_editable_for s e) (or_parts (has_name s.trees e name) (not (is_editable_for s e)) off).1))
        (λ x. steady_rest p s e x)

steady_sent : (p i n at tail : ℕ) (inserted : Bool) → Steady (points_sent p i n at tail inserted)
unfolding points_sent
steady_sent p i n at tail inserted =
    steady_if inserted (send n at tail >> grow (record { label = p; offset = i + 1 })) done
    (steady_bind (send n at tail) (λ _. grow (record { label = p; offset = i + 1 })) (steady_perform (Send n at tail) tt) (λ _. steady_perform (Grow (record { label = p; offset = i + 1 })) tt))
    (steady_answer tt)

steady_split_under : (p : ℕ) (s : State) (n at : ℕ) → Steady (split_under p s n at)
unfolding split_under
steady_split_under p s n at = search (steady_bind, steady_make_words, steady_edit, steady_answer, steady_sent)

pub steady_split : (n at : ℕ) → Steady (split_words n at)
unfolding split_words
steady_split n at = search (steady_look_at, steady_given, steady_answer, steady_split_under)

-- with these a run is steady by its parts alone
pub ruleset steady_parts = (steady_answer, steady_bind, steady_look_at, steady_if, steady_given, steady_each, steady_while, steady_edit, steady_make_words, steady_perform, steady_tag_name, steady_split)
