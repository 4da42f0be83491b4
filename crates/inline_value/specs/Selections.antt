-- Setting a value on the selection (HTML Editing APIs, "set the selection's value"). The steps are
-- those of docs/ALGORITHMS.md.
use Rattle.std.specs.Prelude.{ℕ, Bool, false, ◌==◌, ◌&&◌, not, List, [], filter, Option, Some, None, is_none, if◌then◌else◌}
use Rattle.std.specs.Option.{option_map_or}
use Rattle.edit_model.specs.DomModel.declared.Content.{Content}
use Rattle.edit_model.specs.DomModel.Contents.{is_element_at, length_of}
use Rattle.edit_model.specs.DomModel.Forest.{Forest}
use Rattle.edit_model.specs.HtmlNames.declared.commands.Command.{Command}
use Rattle.edit_model.specs.HtmlNames.declared.commands.Command.TheVariants as command
use Rattle.edit_model.specs.HtmlNames.ActivatedValues.{activated_values}
use Rattle.edit_model.specs.HtmlNames.ElementNames.{is_one_of}
use Rattle.edit_model.specs.LiveRange.declared.places.Pair.{Pair}
use Rattle.edit_model.specs.LiveRange.declared.places.Point.{Point}
use Rattle.edit_model.specs.PointOrder.PointOrder.{is_before}
use Rattle.wrap_split.specs.NodeTests.CollapsedWhitespace.{is_words}
use Rattle.wrap_split.specs.NodeTests.Ranges.{effective_nodes}
use Rattle.edit_model.specs.State.{State}
use Rattle.edit_model.specs.Confined.{is_editable_for}
use Rattle.edit_model.specs.Compositions.{split_words}
use Rattle.edit_model.specs.declared.settings.Setting.{Setting}
use Rattle.edit_model.specs.declared.settings.Setting.TheVariants.{On, Off, Text, Absent}
use Rattle.edit_model.specs.Run.{Run, ◌>>=◌, ◌>>◌, done, look, given, for_each, select, set_setting}
use Rattle.wrap_split.specs.EditActions.ActiveRange.{start_of, end_of}
use Rattle.inline_value.specs.Clearing.{clear_value}
use Rattle.inline_value.specs.Forcing.{is_phrase, force}
use Rattle.inline_value.specs.Pushing.{push_down}
use Rattle.edit_query.specs.Formattable.{first_formattable}

-- ---- split the ends: the texts at the ends of the active range

-- an editable text of which the point lies amid the characters
unfoldable pub is_amid : State → Point → Bool
is_amid s at =
    is_words s.trees at.label
    && (is_editable_for s at.label
    && (not (at.offset == 0) && not (at.offset == length_of s.trees at.label)))

-- the later of two points
abbrev pub at_least : Forest Content → Point → Point → Point
at_least f other at = if is_before f other at then at else other

-- split the ends, step 1: the start of the range set to a point (DOM Standard, "set the start"); an
-- end before it goes along
abbrev pub with_start : Forest Content → Pair → Point → Run (Unit {0})
with_start f pair at =
    if is_before f pair.focus pair.anchor then select (at_least f pair.anchor at) at
    else select at (at_least f pair.focus at)

-- split the ends, step 1: the start of the active range set to a point
unfoldable pub set_start : Point → Run (Unit {0})
set_start at = look λ s. given s.points.selection done λ pair. with_start s.trees pair at

-- split the ends, step 1
unfoldable pub start_text : ℕ → Run (Unit {0})
start_text tail = set_start (record { label = tail; offset = 0 })

-- split the ends, step 1, with the point where the range starts
unfoldable pub split_at_start : Point → Run (Unit {0})
split_at_start at =
    look λ s. if is_amid s at then (split_words at.label at.offset >>= start_text) else done

-- split the ends, step 2
unfoldable pub split_at_end : Point → Run (Unit {0})
split_at_end at = look λ s. if is_amid s at then (split_words at.label at.offset >> done) else done

-- split the ends, step 1: at the start of the active range
unfoldable pub split_start : Run (Unit {0})
split_start = look λ s. given s.points.selection done λ pair. split_at_start (start_of s.trees pair)

-- split the ends, step 2: at the end of the active range
unfoldable pub split_end : Run (Unit {0})
split_end = look λ s. given s.points.selection done λ pair. split_at_end (end_of s.trees pair)

-- split the ends, steps 1 and 2
unfoldable pub split_ends : Run (Unit {0})
split_ends = split_start >> split_end

-- ---- the nodes that the active range effectively contains

abbrev pub nodes_by : Forest Content → Option Pair → List ℕ
nodes_by f None = []
nodes_by f (Some pair) = effective_nodes f (start_of f pair) (end_of f pair)

unfoldable pub nodes_in_range : State → List ℕ
nodes_in_range s = nodes_by s.trees s.points.selection

-- those that are editable, and of these the elements
unfoldable pub editable_in_range : State → List ℕ
editable_in_range s = filter (is_editable_for s) (nodes_in_range s)

-- set the value, step 3: the elements among them
unfoldable pub elements_in_range : State → List ℕ
elements_in_range s = filter (is_element_at s.trees) (editable_in_range s)

-- ---- set the value, step 1: without a formattable node the overrides are set

abbrev pub state_setting : Command → Option (List ℕ) → Setting
state_setting command v =
    if option_map_or (is_one_of (activated_values command)) v false then On else Off

abbrev pub value_setting : Option (List ℕ) → Setting
value_setting None = Absent
value_setting (Some v) = Text v

abbrev pub override_for : Command → Option (List ℕ) → Option Setting
override_for command.Bold v = Some (state_setting command.Bold v)
override_for command.Italic v = Some (state_setting command.Italic v)
override_for command.Underline v = Some (state_setting command.Underline v)
override_for command.Strikethrough v = Some (state_setting command.Strikethrough v)
override_for command.Subscript v = Some (state_setting command.Subscript v)
override_for command.Superscript v = Some (state_setting command.Superscript v)
override_for command.CreateLink v = Some (value_setting v)
override_for command.FontName v = Some (value_setting v)
override_for command.FontSize v = Some (value_setting v)
override_for command.ForeColor v = Some (value_setting v)
override_for command.BackColor v = Some (value_setting v)
override_for command.HiliteColor v = Some (value_setting v)
override_for c v = if is_none v then Some Absent else None

-- set the value, step 1: the override of the script that excludes the command's goes
abbrev pub unset_rival : Command → Run (Unit {0})
unset_rival command.Subscript = set_setting command.Superscript Absent
unset_rival command.Superscript = set_setting command.Subscript Absent
unset_rival _ = done

-- set the value, step 1: the command's override, and that of its rival
unfoldable pub set_overrides : Command → Option (List ℕ) → Run (Unit {0})
set_overrides command v =
    given (override_for command v) done (set_setting command) >> unset_rival command

-- ---- set the value, steps 3 and 4

-- set the value, step 3: one element
unfoldable pub clear_one : Command → ℕ → Run (Unit {0})
clear_one command e = clear_value command e >> done

-- set the value, step 3: each element, in order
unfoldable pub clear_elements : Command → Run (Unit {0})
clear_elements command = look λ s. for_each (elements_in_range s) (clear_one command)

-- set the value, step 4: the value is forced on a node that may stand in a span
unfoldable pub force_phrase : Command → Option (List ℕ) → ℕ → Run (Unit {0})
force_phrase command v n = look λ s. if is_phrase s n then force command v n else done

-- set the value, step 4: one node
unfoldable pub give_node : Command → Option (List ℕ) → ℕ → Run (Unit {0})
give_node command v n = push_down command v n >> force_phrase command v n

-- set the value, step 4: each node, in order
unfoldable pub give_nodes : Command → Option (List ℕ) → Run (Unit {0})
give_nodes command v = look λ s. for_each (editable_in_range s) (give_node command v)

-- set the value, steps 2 to 4
unfoldable pub give_range : Command → Option (List ℕ) → Run (Unit {0})
give_range command v = do
  split_ends
  clear_elements command
  give_nodes command v

-- set the value, step 1, and then from 2 on
unfoldable pub set_value : Command → Option (List ℕ) → Run (Unit {0})
set_value command v = look λ s.
    if is_none (first_formattable s s.host) then set_overrides command v else give_range command v
