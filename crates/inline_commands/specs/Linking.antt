-- The command createLink (HTML Editing APIs, "the createLink command"). The steps are those of
-- docs/ALGORITHMS.md.
use Rattle.std.specs.Prelude.{ℕ, Bool, true, false, ◌&&◌, List, [], ◌∷◌, codes, filter, Some, if◌then◌else◌}
use Rattle.std.specs.List.{list_any}
use Rattle.edit_model.specs.DomModel.Forest.{preorder, tree_of}
use Rattle.edit_model.specs.HtmlNames.declared.commands.Command.TheVariants as command
use Rattle.edit_model.specs.PointOrder.PointOrder.{is_ancestor}
use Rattle.edit_model.specs.State.{State}
use Rattle.edit_model.specs.Confined.{is_editable_for}
use Rattle.edit_model.specs.Run.{Run, ◌>>=◌, ◌>>◌, answer, done, look, for_each, set_attribute}
use Rattle.inline_value.specs.Selections.{nodes_in_range, set_value}
use Rattle.inline_commands.specs.Unlink.{is_link}

-- an ancestor of some node that the active range effectively contains
unfoldable pub is_around : State → ℕ → Bool
is_around s l = list_any (is_ancestor s.trees l) (nodes_in_range s)

-- createLink, step 2: the links around what the active range effectively contains, in tree order
unfoldable pub links_around : State → List ℕ
links_around s = filter (λ l. is_link s.trees l && is_around s l) (preorder (tree_of s.trees 0))

-- createLink, step 2: an editable link gets the value as its href
unfoldable pub relink : List ℕ → ℕ → Run (Unit {0})
relink v e =
    look λ s. if is_editable_for s e then set_attribute e (codes "href") v >> done else done

-- createLink, step 2
unfoldable pub relink_range : List ℕ → Run (Unit {0})
relink_range v = look λ s. for_each (links_around s) (relink v)

-- createLink, steps 2 and 3
unfoldable pub link_range : List ℕ → Run Bool
link_range v = do
  relink_range v
  set_value command.CreateLink (Some v)
  answer true

-- createLink, step 1, and then from 2 on: the empty value is refused
abbrev pub link_to : List ℕ → Run Bool
link_to [] = answer false
link_to (c ∷ v) = link_range (c ∷ v)

-- createLink, steps 1 to 3
unfoldable pub create_link : List ℕ → Run Bool
create_link v = link_to v
