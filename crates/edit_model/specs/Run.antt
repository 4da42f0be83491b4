-- An algorithm is a run: a function from a state to a state and an answer, together with a proof
-- that actions lead from the one state to the other. Labels are drawn in order and without a cap.
use Rattle.std.specs.Prelude.{ℕ, zero, suc, Bool, List, [], ◌∷◌, ◌++◌, Option, Some, None, if◌then◌else◌}
use Rattle.point_order.specs.DomModel.declared.attributes.Attribute.{Attribute}
use Rattle.point_order.specs.DomModel.declared.Content.{Content}
use Rattle.point_order.specs.DomModel.Change as forest
use Rattle.html_names.specs.declared.commands.Command.{Command}
use Rattle.point_order.specs.LiveRange.declared.places.Point.{Point}
use Rattle.point_order.specs.LiveRange.declared.places.Pair.{Pair}
use Rattle.edit_model.specs.declared.settings.Setting.{Setting}
use Rattle.edit_model.specs.declared.settings.Flags.{Flags}
use Rattle.edit_model.specs.State.{State}
use Rattle.edit_model.specs.Edit.{Edit, Insert, Remove, Move, Replace, Set, Unset, is_made_edit, change_of}
use Rattle.edit_model.specs.Action.{Action, Change, MakeElement, MakeWords, Select, Extend, Unselect, Grow, Send, Scratch, Override, Flag, Extract, words_content, element_content, stepped, tail_of, may_extract, acted}
use Rattle.edit_model.specs.Tail.{Step, Copy, Do}

-- ---- states that actions lead to

pub data Reaches : State → State → Type 0 where
  here : {s : State} → Reaches s s
  onward : {s t : State} → Reaches s t → (a : Action) → Reaches s (acted a t)

unfoldable pub reaches_trans : {s t u : State} → Reaches s t → Reaches t u → Reaches s u
reaches_trans p here = p
reaches_trans p (onward q a) = onward (reaches_trans p q) a

-- the edits of steps
abbrev pub edits_in : List Step → List Edit
edits_in [] = []
edits_in (Copy content ∷ xs) = edits_in xs
edits_in (Do e ∷ xs) = e ∷ edits_in xs

-- the edits that an action makes, in order: none or one, or those of a tail
abbrev pub edits_of : Action → State → List Edit
edits_of (Change e) s = if is_made_edit e s then e ∷ [] else []
edits_of (Extract from end target) s = if may_extract s from end target
    then edits_in (tail_of s from end target) else []
edits_of _ s = []

-- the edits made on the way, in order
unfoldable pub edits_on : {s t : State} → Reaches s t → List Edit
edits_on here = []
edits_on (onward {t = t} q a) = edits_on q ++ edits_of a t

-- the same as changes
abbrev pub changes_in : List Step → State → List forest.Change
changes_in [] s = []
changes_in (Copy content ∷ xs) s = changes_in xs (stepped (Copy content) s)
changes_in (Do e ∷ xs) s = change_of e s.trees ∷ changes_in xs (stepped (Do e) s)

abbrev pub changes_of : Action → State → List forest.Change
changes_of (Change e) s = if is_made_edit e s then change_of e s.trees ∷ [] else []
changes_of (Extract from end target) s = if may_extract s from end target
    then changes_in (tail_of s from end target) s else []
changes_of _ s = []

unfoldable pub changes_on : {s t : State} → Reaches s t → List forest.Change
changes_on here = []
changes_on (onward {t = t} q a) = changes_on q ++ changes_of a t

-- the nodes made on the way, by rising label, each with its content as made
abbrev pub nodes_in : List Step → State → List (ℕ × Content)
nodes_in [] s = []
nodes_in (Copy content ∷ xs) s = (s.next, content) ∷ nodes_in xs (stepped (Copy content) s)
nodes_in (Do e ∷ xs) s = nodes_in xs (stepped (Do e) s)

abbrev pub nodes_of : Action → State → List (ℕ × Content)
nodes_of (MakeElement name attributes) s = (s.next, element_content name attributes) ∷ []
nodes_of (MakeWords chars) s = (s.next, words_content chars) ∷ []
nodes_of (Extract from end target) s = if may_extract s from end target
    then nodes_in (tail_of s from end target) s else []
nodes_of _ s = []

unfoldable pub nodes_on : {s t : State} → Reaches s t → List (ℕ × Content)
nodes_on here = []
nodes_on (onward {t = t} q a) = nodes_on q ++ nodes_of a t

-- ---- runs

pub record Run (T : Type 0) : Type 0 where
  pub run : State → State × T
  pub by_actions : (s : State) → Reaches s (run s).0

-- the state that a run ends in, its answer, and the edits that it makes
unfoldable pub final : {T : Type 0} → Run T → State → State
final m s = (m.run s).0

unfoldable pub value : {T : Type 0} → Run T → State → T
value m s = (m.run s).1

unfoldable pub edit_list : {T : Type 0} → Run T → State → List Edit
edit_list m s = edits_on (m.by_actions s)

infixl 10 ◌>>=◌
unfoldable pub ◌>>=◌ : {A B : Type 0} → Run A → (A → Run B) → Run B
m >>= k = record {
  run = λ s. (k (m.run s).1).run (m.run s).0;
  by_actions = λ s. reaches_trans (m.by_actions s) ((k (m.run s).1).by_actions (m.run s).0);
}

-- one action, and the answer that it gives
unfoldable pub act : {A : Type 0} → Action → (State → A) → Run A
act a tells = record { run = λ s. (acted a s, tells s); by_actions = λ s. onward here a }

infixl 10 ◌>>◌
abbrev pub ◌>>◌ : {A B : Type 0} → Run A → Run B → Run B
m >> n = m >>= (λ _. n)

unfoldable pub answer : {A : Type 0} → A → Run A
answer a = record { run = λ s. (s, a); by_actions = λ s. here }

abbrev pub done : Run (Unit {0})
done = answer tt

-- goes on by what the state now is
unfoldable pub look : {A : Type 0} → (State → Run A) → Run A
look k = record { run = λ s. (k s).run s; by_actions = λ s. (k s).by_actions s }

-- goes on with what is there, or else as said
abbrev pub given : {A B : Type 0} → Option A → Run B → (A → Run B) → Run B
given None n f = n
given (Some a) n f = f a

-- each member in order
unfoldable pub for_each : {A : Type 0} → List A → (A → Run (Unit {0})) → Run (Unit {0})
for_each [] f = done
for_each (x ∷ xs) f = f x >> for_each xs f

-- while the test holds, at most so many turns
unfoldable pub while_at_most : {A : Type 0} → ℕ → (State → A → Bool) → (A → Run A) → A → Run A
while_at_most zero test body a = answer a
while_at_most (suc n) test body a =
    look (λ s. if test s a then (body a >>= while_at_most n test body) else answer a)

-- ---- the runs of one action: an edit answers whether it is made, and making a node answers its
-- label

unfoldable pub edit : Edit → Run Bool
edit e = act (Change e) (is_made_edit e)

abbrev pub insert : ℕ → Option ℕ → ℕ → Run Bool
insert p b n = edit (Insert p b n)

abbrev pub remove : ℕ → Run Bool
remove n = edit (Remove n)

abbrev pub move : ℕ → ℕ → Option ℕ → Run Bool
move n p b = edit (Move n p b)

abbrev pub replace : ℕ → ℕ → ℕ → List ℕ → Run Bool
replace n at count put = edit (Replace n at count put)

abbrev pub set_attribute : ℕ → List ℕ → List ℕ → Run Bool
set_attribute n name value = edit (Set n name value)

abbrev pub unset_attribute : ℕ → List ℕ → Run Bool
unset_attribute n name = edit (Unset n name)

unfoldable pub make_element : List ℕ → List Attribute → Run ℕ
make_element name attributes = act (MakeElement name attributes) (λ s. s.next)

unfoldable pub make_words : List ℕ → Run ℕ
make_words chars = act (MakeWords chars) (λ s. s.next)

unfoldable pub perform : Action → Run (Unit {0})
perform a = act a (λ _. tt)

abbrev pub select : Point → Point → Run (Unit {0})
select anchor focus = perform (Select anchor focus)

abbrev pub collapse : Point → Run (Unit {0})
collapse at = perform (Select at at)

abbrev pub extend : Point → Run (Unit {0})
extend focus = perform (Extend focus)

abbrev pub unselect : Run (Unit {0})
unselect = perform Unselect

abbrev pub grow : Point → Run (Unit {0})
grow at = perform (Grow at)

abbrev pub send : ℕ → ℕ → ℕ → Run (Unit {0})
send n at tail = perform (Send n at tail)

abbrev pub set_scratch : Pair → Run (Unit {0})
set_scratch pair = perform (Scratch pair)

abbrev pub set_setting : Command → Setting → Run (Unit {0})
set_setting c setting = perform (Override c setting)

abbrev pub set_flags : Flags → Run (Unit {0})
set_flags flags = perform (Flag flags)

-- what stands in `end` from a point on goes to the end of the target
abbrev pub extract_tail : Point → ℕ → ℕ → Run (Unit {0})
extract_tail from end target = perform (Extract from end target)
