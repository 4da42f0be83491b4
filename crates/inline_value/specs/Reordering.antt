-- Reordering modifiable descendants (HTML Editing APIs, "reorder modifiable descendants"). The
-- steps are those of docs/ALGORITHMS.md.
use Rattle.std.specs.Prelude.{ℕ, Bool, ◌==◌, ◌||◌, ◌&&◌, not, List, Option, Some, None, is_none, if◌then◌else◌}
use Rattle.edit_model.specs.DomModel.declared.Content.{Content}
use Rattle.edit_model.specs.DomModel.Forest.{Forest, next_of, first_of, children_of}
use Rattle.edit_model.specs.HtmlNames.declared.commands.Command.{Command}
use Rattle.wrap_split.specs.CommandValue.Modifiable.{is_modifiable, is_simple_modifiable, meets_value}
use Rattle.wrap_split.specs.CommandValue.Equivalence.{equivalent}
use Rattle.wrap_split.specs.CommandValue.SpecifiedValues.{specified}
use Rattle.edit_model.specs.State.{State}
use Rattle.edit_model.specs.Moves.{insert_after, move_all_before, move_last}
use Rattle.edit_model.specs.Run.{Run, ◌>>◌, done, look, remove}
use Rattle.wrap_split.specs.Walks.{turn_bound, walk}

-- a simple modifiable element whose specified value is equivalent to v
unfoldable pub gives_value : Forest Content → ℕ → Command → List ℕ → Bool
gives_value f l command v =
    is_simple_modifiable f l && equivalent command (specified f l command) (Some v)

-- the first child, where it is the only one and modifiable
abbrev pub if_sole : Forest Content → Option ℕ → Option ℕ
if_sole f None = None
if_sole f (Some k) = if is_none (next_of f k) && is_modifiable f k then Some k else None

abbrev pub sole_child : Forest Content → ℕ → Option ℕ
sole_child f c = if_sole f (first_of f c)

-- reorder, step 2: the node that c gives way to
unfoldable pub reorder_step : Forest Content → Command → List ℕ → ℕ → Option ℕ
reorder_step f command v c =
    if is_modifiable f c && not (gives_value f c command v) then sole_child f c else None

-- reorder, steps 1 and 2
unfoldable pub reordered : State → Command → List ℕ → ℕ → ℕ
reordered s command v n = walk (reorder_step s.trees command v) (turn_bound s) n

-- reorder, steps 4 to 6: n comes to stand in c, and c where n stood
unfoldable pub swapped : ℕ → ℕ → Run (Unit {0})
swapped n c = look λ s. do
  move_all_before (children_of s.trees c) c
  remove c
  insert_after n c
  move_last c n

-- reorder, step 3, and then from 4 on
unfoldable pub reorder_with : Command → List ℕ → ℕ → ℕ → Run (Unit {0})
reorder_with command v n c = look λ s.
    if c == n || not (meets_value s.trees c command v) then done else swapped n c

-- reorder, steps 1 and 2, and then from 3 on
unfoldable pub reorder : Command → List ℕ → ℕ → Run (Unit {0})
reorder command v n = look λ s. reorder_with command v n (reordered s command v n)
