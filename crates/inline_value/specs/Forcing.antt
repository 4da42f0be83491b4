-- Forcing a value on a node (HTML Editing APIs, "force the value"). The steps are those of
-- docs/ALGORITHMS.md.
use Rattle.std.specs.Prelude.{ℕ, zero, suc, Bool, true, false, ◌||◌, ◌&&◌, not, List, [], ◌∷◌, codes, map, Option, Some, is_none, if◌then◌else◌}
use Rattle.edit_model.specs.DomModel.declared.Content.{Content}
use Rattle.edit_model.specs.DomModel.Contents.{has_name, is_element_at}
use Rattle.edit_model.specs.DomModel.Document.{node_count}
use Rattle.edit_model.specs.DomModel.Forest.{Forest, parent_of, prev_of, next_of, children_of}
use Rattle.edit_model.specs.HtmlNames.declared.commands.Command.{Command}
use Rattle.wrap_split.specs.NodeStyles.Allowed.{allowed_in_name}
use Rattle.wrap_split.specs.NodeStyles.Lineage.{Ancestor, lineage}
use Rattle.wrap_split.specs.CommandValue.EffectiveValues.{effective}
use Rattle.wrap_split.specs.CommandValue.Equivalence.{alike}
use Rattle.wrap_split.specs.CommandValue.Modifiable.{specifies_other}
use Rattle.wrap_split.specs.CommandValue.Subjects.{subject, relevant}
use Rattle.wrap_split.specs.CommandValue.declared.subject.Subject.{Subject}
use Rattle.wrap_split.specs.CommandValue.declared.subject.Subject.TheVariants.{Link, Line}
use Rattle.edit_model.specs.State.{State}
use Rattle.edit_model.specs.Confined.{is_editable_for}
use Rattle.edit_model.specs.Compositions.{set_tag_name}
use Rattle.edit_model.specs.Moves.{insert_before, move_before, move_last}
use Rattle.edit_model.specs.Run.{Run, ◌>>=◌, ◌>>◌, answer, done, look, given, for_each, remove, make_element}
use Rattle.wrap_split.specs.declared.rule.Blank.{Blank}
use Rattle.wrap_split.specs.declared.rule.Criterion.TheVariants.{SameValue}
use Rattle.wrap_split.specs.declared.rule.Recipe.TheVariants.{Nothing}
use Rattle.wrap_split.specs.Walks.{is_invisible}
use Rattle.wrap_split.specs.Wrap.{wrap}
use Rattle.inline_value.specs.Clearing.{property_name}
use Rattle.inline_value.specs.Reordering.{reorder}
use Rattle.inline_value.specs.Styling.{set_style}
use Rattle.inline_value.specs.Wrappers.{wrapper_for}

-- the node may stand in a span
abbrev pub is_phrase : State → ℕ → Bool
is_phrase s n = allowed_in_name s.trees n (codes "span")

-- the effective value is alike to this one
unfoldable pub has_alike : State → ℕ → Command → Option (List ℕ) → Bool
has_alike s n command v = alike command (effective s.trees n command) v

abbrev pub above : List Ancestor → List ℕ
above [] = []
above (k ∷ line) = map (λ j. j.label) line

-- the ancestors, the nearest first
unfoldable pub ancestors : Forest Content → ℕ → List ℕ
ancestors f n = above (lineage f n)

-- ---- force the value, step 2: a sibling that gives the value takes the node in

abbrev pub reorder_at : Command → List ℕ → Option ℕ → Run (Unit {0})
reorder_at command v at = given at done (reorder command v)

unfoldable pub reorder_prev : Command → List ℕ → ℕ → Run (Unit {0})
reorder_prev command v n = look λ s. reorder_at command v (prev_of s.trees n)

unfoldable pub reorder_next : Command → List ℕ → ℕ → Run (Unit {0})
reorder_next command v n = look λ s. reorder_at command v (next_of s.trees n)

unfoldable pub joined : Command → List ℕ → ℕ → Run (Unit {0})
joined command v n = do
  reorder_prev command v n
  reorder_next command v n
  wrap (SameValue command v) Nothing (n ∷ [])
  done

-- ---- force the value, step 5: what is made

-- force the value, step 5, line a: the links around the node become spans
unfoldable pub rename_link : ℕ → Run (Unit {0})
rename_link e = look λ s.
    if is_editable_for s e && has_name s.trees e (codes "a") then
    (set_tag_name e (codes "span") >> done) else done

-- force the value, step 5, line a: each of them, the nearest first
unfoldable pub rename_links : ℕ → Run (Unit {0})
rename_links n = look λ s. for_each (ancestors s.trees n) rename_link

-- force the value, step 5, line a: for createLink and unlink alone
abbrev pub clear_way : Subject → ℕ → Run (Unit {0})
clear_way Link n = rename_links n
clear_way _ n = done

-- force the value, step 5: an element with a name and attributes
abbrev pub make_blank : Blank → Run ℕ
make_blank b = make_element b.name b.attributes

-- force the value, step 5: line a, and then the element by lines a to e
unfoldable pub make_wrapper : Command → List ℕ → ℕ → Run ℕ
make_wrapper command v n =
    clear_way (subject command) n >> look λ s.
    make_blank (wrapper_for s.flags.css_styling command v)

-- ---- force the value, step 7: a new element that doesn't give the value gets a style

abbrev pub set_relevant : Command → List ℕ → ℕ → Run (Unit {0})
set_relevant command v p = given (relevant command) done λ q. set_style p (property_name q) v

abbrev pub style_by : Subject → Command → List ℕ → ℕ → Run (Unit {0})
style_by (Line line) command v p = set_style p (codes "text-decoration") v
style_by _ command v p = set_relevant command v p

unfoldable pub style_wrapper : Command → List ℕ → ℕ → Run (Unit {0})
style_wrapper command v p = look λ s.
    if has_alike s p command (Some v) then done else style_by (subject command) command v p

-- ---- the node itself; each answers whether its children are to be given the value

-- force the value, step 9: the node comes out again
unfoldable pub taken_back : ℕ → ℕ → Run Bool
taken_back n p = do
  move_before p n
  remove p
  answer true

-- an element that hasn't the value
abbrev pub lacks : State → ℕ → Command → List ℕ → Bool
lacks s n command v = is_element_at s.trees n && not (has_alike s n command (Some v))

-- force the value, step 9: an element that hasn't taken the value
unfoldable pub confirm_value : Command → List ℕ → ℕ → ℕ → Run Bool
confirm_value command v n p = look λ s. if lacks s n command v then taken_back n p else answer false

-- force the value, steps 6 to 9
unfoldable pub put_in : Command → List ℕ → ℕ → ℕ → Run Bool
put_in command v n p = do
  insert_before n p
  style_wrapper command v p
  move_last p n
  confirm_value command v n p

-- force the value, steps 5 to 9
unfoldable pub wrapped : Command → List ℕ → ℕ → Run Bool
wrapped command v n = make_wrapper command v n >>= put_in command v n

-- force the value, steps 3 and 4, and then from 5 on
unfoldable pub unless_alike : Command → List ℕ → ℕ → Run Bool
unless_alike command v n = look λ s.
    if is_invisible s n || has_alike s n command (Some v) then answer false
    else (if is_phrase s n then wrapped command v n else answer true)

-- force the value, step 2, and then from 3 on
unfoldable pub force_node : Command → List ℕ → ℕ → Run Bool
force_node command v n = look λ s.
    if is_phrase s n then (joined command v n >> unless_alike command v n)
    else unless_alike command v n

-- force the value, step 1, and then from 2 on
unfoldable pub force_self : Command → List ℕ → ℕ → Run Bool
force_self command v n =
    look λ s. if is_none (parent_of s.trees n) then answer false else force_node command v n

-- ---- and its children

-- force the value, steps 4 and 9: the children, of an editable node
unfoldable pub heirs : State → ℕ → List ℕ
heirs s n = if is_editable_for s n then children_of s.trees n else []

-- force the value, steps 4 and 9: one that gives another value is passed over
unfoldable pub force_child : (ℕ → Run (Unit {0})) → Command → List ℕ → ℕ → Run (Unit {0})
force_child again command v k =
    look λ s. if specifies_other s.trees k command (Some v) then done else again k

-- force the value, steps 4 and 9: on the children, where they are next
unfoldable pub force_heirs : (ℕ → Run (Unit {0})) → Command → List ℕ → ℕ → Bool → Run (Unit {0})
force_heirs again command v n wanted =
    if wanted then (look λ s. for_each (heirs s n) (force_child again command v)) else done

-- force the value, steps 1 to 9; `fuel` says how deep it may be nested
unfoldable pub forced : ℕ → Command → List ℕ → ℕ → Run (Unit {0})
forced zero command v n = done
forced (suc fuel) command v n =
    force_self command v n >>= force_heirs (forced fuel command v) command v n

-- force the value, steps 1 to 9, nested as deep as the document has nodes
unfoldable pub force_value : Command → List ℕ → ℕ → Run (Unit {0})
force_value command v n = look λ s. forced (node_count s.trees) command v n

-- force the value, step 1: a null value is forced on no node
unfoldable pub force : Command → Option (List ℕ) → ℕ → Run (Unit {0})
force command v n = given v done λ w. force_value command w n
