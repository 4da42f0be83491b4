-- Pushing values down to the children of an ancestor (HTML Editing APIs, "push down values"). The
-- steps are those of docs/ALGORITHMS.md.
use Rattle.std.specs.Prelude.{ℕ, Bool, false, ◌==◌, ◌||◌, ◌&&◌, not, List, [], ◌∷◌, Option, Some, None, is_some, is_none, reverse, if◌then◌else◌}
use Rattle.std.specs.List.{list_any}
use Rattle.std.specs.Option.{option_map_or}
use Rattle.edit_model.specs.DomModel.Contents.{is_element_at}
use Rattle.edit_model.specs.DomModel.Forest.{is_label, parent_of, children_of, first_in, last_in}
use Rattle.edit_model.specs.HtmlNames.declared.commands.Command.{Command}
use Rattle.wrap_split.specs.CommandValue.Modifiable.{specifies_other}
use Rattle.wrap_split.specs.CommandValue.SpecifiedValues.{specified}
use Rattle.edit_model.specs.State.{State}
use Rattle.edit_model.specs.Confined.{is_editable_for}
use Rattle.edit_model.specs.Run.{Run, ◌>>◌, done, look, given, for_each}
use Rattle.inline_value.specs.Clearing.{clear_value}
use Rattle.inline_value.specs.Forcing.{has_alike, force, ancestors}

-- an editable element whose value isn't alike to v
abbrev pub is_other : State → Command → Option (List ℕ) → ℕ → Bool
is_other s command v e =
    is_editable_for s e && (is_element_at s.trees e && not (has_alike s e command v))

abbrev pub leading : (ℕ → Bool) → List ℕ → List ℕ
leading test [] = []
leading test (x ∷ xs) = if test x then x ∷ leading test xs else []

-- push down, step 2: the ancestors with another value, the nearest first
unfoldable pub others_above : State → Command → Option (List ℕ) → ℕ → List ℕ
others_above s command v n = leading (is_other s command v) (ancestors s.trees n)

abbrev pub has_element_above : State → ℕ → Bool
has_element_above s n = option_map_or (is_element_at s.trees) (parent_of s.trees n) false

-- push down, step 1: the parent is no element, or the node has the value
unfoldable pub needs_none : State → Command → Option (List ℕ) → ℕ → Bool
needs_none s command v n = not (has_element_above s n) || has_alike s n command v

-- push down, step 5: a child is passed over that is the node, is the next ancestor, or gives
-- another value
abbrev pub is_passed : State → Command → Option (List ℕ) → ℕ → Option ℕ → ℕ → Bool
is_passed s command w n next k =
    (k == n) || (is_label next k || specifies_other s.trees k command w)

-- push down, step 5: on any other child the value is forced
unfoldable pub push_to : Command → Option (List ℕ) → ℕ → Option ℕ → ℕ → Run (Unit {0})
push_to command w n next k =
    look λ s. if is_passed s command w n next k then done else force command w k

-- push down, step 5: the element e is cleared where it gives a value
unfoldable pub clear_level : Command → ℕ → Run (Unit {0})
clear_level command e = look λ s.
    if is_none (specified s.trees e command) then done else (clear_value command e >> done)

-- push down, step 5: one turn, with w already that of e
unfoldable pub push_level : Command → Option (List ℕ) → ℕ → Option ℕ → ℕ → Run (Unit {0})
push_level command w n next e = look λ s.
    clear_level command e >> for_each (children_of s.trees e) (push_to command w n next)

abbrev pub own_or : Option (List ℕ) → Option (List ℕ) → Option (List ℕ)
own_or None w = w
own_or (Some u) w = Some u

-- push down, step 5: the ancestors, the outermost first
unfoldable pub push_levels : Command → Option (List ℕ) → ℕ → List ℕ → Run (Unit {0})
push_levels command w n [] = done
push_levels command w n (e ∷ list) = look λ s.
    push_level command (own_or (specified s.trees e command) w) n (first_in list) e
    >> push_levels command (own_or (specified s.trees e command) w) n list

-- push down, step 4: the parent of the outermost ancestor hasn't the value
abbrev pub lacks_above : State → Command → Option (List ℕ) → ℕ → Bool
lacks_above s command v e =
    option_map_or (λ p. not (has_alike s p command v)) (parent_of s.trees e) false

-- push down, step 3: no value is given there, and one is wanted; step 4
unfoldable pub is_hopeless : State → Command → Option (List ℕ) → ℕ → Bool
is_hopeless s command v e =
    is_some v && (is_none (specified s.trees e command) || lacks_above s command v e)

-- push down, steps 3 to 5, where e is the outermost
unfoldable pub push_from : Command → Option (List ℕ) → ℕ → List ℕ → ℕ → Run (Unit {0})
push_from command v n list e = look λ s.
    if is_hopeless s command v e then done
    else push_levels command (specified s.trees e command) n (reverse list)

-- push down, step 2, and then from 3 on
unfoldable pub push_listed : Command → Option (List ℕ) → ℕ → List ℕ → Run (Unit {0})
push_listed command v n list = given (last_in list) done λ e. push_from command v n list e

-- an ancestor gives a value. No step asks this, and the code asks it first: where none does, steps
-- 1 to 5 change nothing, whatever the value
unfoldable pub is_given_above : State → Command → ℕ → Bool
is_given_above s command n =
    list_any (λ e. is_some (specified s.trees e command)) (ancestors s.trees n)

-- push down, step 1, and then from 2 on
unfoldable pub push_down : Command → Option (List ℕ) → ℕ → Run (Unit {0})
push_down command v n = look λ s.
    if needs_none s command v n then done else push_listed command v n (others_above s command v n)
