-- The laws of order.
use Rattle.std.specs.Prelude.{◌≡◌, ℕ, Bool, false, List, [], Option, if◌then◌else◌}
use Rattle.edit_model.specs.DomModel.declared.attributes.Attribute.{Attribute}
use Rattle.edit_model.specs.DomModel.Forest.{tree_of}
use Rattle.edit_model.specs.Kept.{leaves, is_thing}
use Rattle.edit_model.specs.State.{State}
use Rattle.edit_model.specs.Edit.{Insert}
use Rattle.edit_model.specs.Action.{Action, Change, acted}
use Rattle.edit_model.specs.Run.{Reaches, Run, ◌>>=◌, act, answer, look, given, for_each, while_at_most, insert, make_element}
use Rattle.edit_laws.specs.Order.{KeepsOrder, IsKeeping}
use Rattle.edit_laws.specs.OrderPreserving.{OrderPreserving, OrderPreservingWith, IsQuiet}

-- ---- states

-- every action leaves a state in which a command keeps contents such a state
abbrev pub KeepingStays : Type 0
KeepingStays = (s t : State) → Reaches s t → IsKeeping s → IsKeeping t

-- what is kept on the way and then again is kept
abbrev pub OrderFollows : Type 0
OrderFollows = (s t u : State) → KeepsOrder s t → KeepsOrder t u → KeepsOrder s u

-- ---- actions

-- an action that neither moves nor inserts a node, nor changes characters, keeps the order
abbrev pub QuietActionsKeep : Type 0
QuietActionsKeep = (a : Action) → IsQuiet a → (s : State) → IsKeeping s → KeepsOrder s (acted a s)

-- and so does the insertion of a tree that bears nothing
abbrev pub BareInsertsKeep : Type 0
BareInsertsKeep =
    (p : ℕ) (b : Option ℕ) (n : ℕ) (s : State) → IsKeeping s → leaves (tree_of s.trees n) ≡ []
    → KeepsOrder s (acted (Change (Insert p b n)) s)

-- ---- the certificate, closed under the ways in which runs are composed

abbrev pub OrderPreservingActs : Type 0 → Type 0
OrderPreservingActs A = (a : Action) (tells : State → A) → IsQuiet a → OrderPreserving (act a tells)

abbrev pub OrderPreservingAnswers : Type 0 → Type 0
OrderPreservingAnswers A = (a : A) → OrderPreserving (answer a)

abbrev pub OrderPreservingFollows : Type 0 → Type 0 → Type 0
OrderPreservingFollows A B =
    (m : Run A) (k : A → Run B) → OrderPreserving m → ((a : A) → OrderPreserving (k a))
    → OrderPreserving (m >>= k)

abbrev pub OrderPreservingLooks : Type 0 → Type 0
OrderPreservingLooks A =
    (k : State → Run A) → ((s : State) → OrderPreserving (k s)) → OrderPreserving (look k)

abbrev pub OrderPreservingChooses : Type 0 → Type 0
OrderPreservingChooses A = (b : Bool) (m n : Run A) → OrderPreserving m → OrderPreserving n
    → OrderPreserving (if b then m else n)

abbrev pub OrderPreservingGiven : Type 0 → Type 0 → Type 0
OrderPreservingGiven A B = (o : Option A) (n : Run B) (f : A → Run B) → OrderPreserving n
    → ((a : A) → OrderPreserving (f a)) → OrderPreserving (given o n f)

abbrev pub OrderPreservingForEach : Type 0 → Type 0
OrderPreservingForEach A =
    (xs : List A) (f : A → Run (Unit {0})) → ((x : A) → OrderPreserving (f x))
    → OrderPreserving (for_each xs f)

abbrev pub OrderPreservingWhile : Type 0 → Type 0
OrderPreservingWhile A =
    (bound : ℕ) (test : State → A → Bool) (body : A → Run A) (a : A)
    → ((a : A) → OrderPreserving (body a))
    → OrderPreserving (while_at_most bound test body a)

-- ---- new elements

-- a node whose tree bears nothing may be inserted anywhere
abbrev pub OrderPreservingWithInserts : Type 0
OrderPreservingWithInserts = (p : ℕ) (b : Option ℕ) (x : ℕ) → OrderPreservingWith x (insert p b x)

abbrev pub OrderPreservingWithFollows : Type 0 → Type 0 → Type 0
OrderPreservingWithFollows A B = (x : ℕ) (m : Run A) (k : A → Run B) → OrderPreservingWith x m
    → ((a : A) → OrderPreserving (k a)) → OrderPreservingWith x (m >>= k)

abbrev pub OrderPreservingWithLooks : Type 0 → Type 0
OrderPreservingWithLooks A =
    (x : ℕ) (k : State → Run A) → ((s : State) → OrderPreservingWith x (k s))
    → OrderPreservingWith x (look k)

abbrev pub OrderPreservingWithChooses : Type 0 → Type 0
OrderPreservingWithChooses A = (x : ℕ) (b : Bool) (m n : Run A) → OrderPreservingWith x m
    → OrderPreservingWith x n → OrderPreservingWith x (if b then m else n)

abbrev pub OrderPreservingWithGiven : Type 0 → Type 0 → Type 0
OrderPreservingWithGiven A B =
    (x : ℕ) (o : Option A) (n : Run B) (f : A → Run B) → OrderPreservingWith x n
    → ((a : A) → OrderPreservingWith x (f a)) → OrderPreservingWith x (given o n f)

-- a new element that is neither img nor hr bears nothing
abbrev pub OrderPreservingNewElements : Type 0 → Type 0
OrderPreservingNewElements A =
    (name : List ℕ) (attributes : List Attribute) (k : ℕ → Run A) → is_thing name ≡ false
    → ((x : ℕ) → OrderPreservingWith x (k x)) → OrderPreserving (make_element name attributes >>= k)
