-- The command unlink (HTML Editing APIs, "the unlink command"): the links in the active range, and
-- around its ends, lose their href. The steps are those of docs/ALGORITHMS.md.
use Rattle.std.specs.Prelude.{ℕ, Bool, true, false, ◌||◌, ◌&&◌, List, [], Option, Some, None, filter}
use Rattle.std.specs.Option.{option_map_or}
use Rattle.edit_model.specs.DomModel.declared.Content.{Content}
use Rattle.edit_model.specs.DomModel.Forest.{Forest, content_of, preorder, tree_of}
use Rattle.edit_model.specs.HtmlNames.declared.commands.Command.TheVariants as command
use Rattle.edit_model.specs.LiveRange.declared.places.Pair.{Pair}
use Rattle.edit_model.specs.LiveRange.declared.places.Point.{Point}
use Rattle.edit_model.specs.PointOrder.PointOrder.{is_before, is_ancestor}
use Rattle.inline_value.specs.NodeTests.Ranges.{is_contained}
use Rattle.inline_value.specs.CommandValue.EffectiveValues as content
use Rattle.edit_model.specs.State.{State}
use Rattle.edit_model.specs.Run.{Run, ◌>>◌, answer, look, for_each}
use Rattle.inline_value.specs.EditActions.ActiveRange.{start_of, end_of}
use Rattle.inline_value.specs.Selections.{clear_one}

-- an a with the attribute href
unfoldable pub is_link : Forest Content → ℕ → Bool
is_link f l = option_map_or content.is_link (content_of f l) false

-- contained in the range, where that isn't collapsed, or an ancestor of the node of one of its ends
unfoldable pub is_touched : Forest Content → Point → Point → ℕ → Bool
is_touched f start end l =
    (is_before f start end && is_contained f start end l)
    || (is_ancestor f l start.label || is_ancestor f l end.label)

-- the links that a range touches, in tree order
unfoldable pub links_in : Forest Content → Point → Point → List ℕ
links_in f start end =
    filter (λ l. is_link f l && is_touched f start end l) (preorder (tree_of f 0))

abbrev pub links_of_pair : Forest Content → Pair → List ℕ
links_of_pair f pair = links_in f (start_of f pair) (end_of f pair)

-- unlink, step 1: those that the selection's range touches; without a selection there are none
abbrev pub links_by : Forest Content → Option Pair → List ℕ
links_by f None = []
links_by f (Some pair) = links_of_pair f pair

-- unlink, step 1
unfoldable pub links_touched : State → List ℕ
links_touched s = links_by s.trees s.points.selection

-- unlink, step 2: each loses its value
unfoldable pub clear_links : List ℕ → Run (Unit {0})
clear_links list = for_each list (clear_one command.Unlink)

-- unlink, steps 1 and 2
unfoldable pub unlink : Run Bool
unlink = look λ s. clear_links (links_touched s) >> answer true
