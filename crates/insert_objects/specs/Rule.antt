-- The insertHorizontalRule command (HTML Editing APIs, "the insertHorizontalRule command"). The
-- steps are those of docs/ALGORITHMS.md. It answers true.
use Rattle.std.specs.Prelude.{◌==◌, Bool, true, ◌&&◌, not, [], Option, None, codes, if◌then◌else◌}
use Rattle.edit_model.specs.DomModel.Contents.{length_of}
use Rattle.edit_model.specs.DomModel.Forest.{is_label}
use Rattle.edit_model.specs.LiveRange.declared.places.Pair.{Pair}
use Rattle.edit_model.specs.LiveRange.declared.places.Point.{Point}
use Rattle.edit_model.specs.State.{State}
use Rattle.edit_model.specs.Run.{Run, ◌>>=◌, ◌>>◌, answer, done, look, given, select}
use Rattle.inline_value.specs.EditActions.ActiveRange.{start_of, end_of}
use Rattle.inline_value.specs.WrapSplit.Walks.{turn_bound}
use Rattle.inline_value.specs.Ancestors.{fix_ancestors}
use Rattle.delete_core.specs.declared.deletion.TheConstants.Manner.{KEEP_BLOCKS}
use Rattle.delete_core.specs.Places.{before_node, after_node, walk_points}
use Rattle.text_insertion.specs.Start.{erase}
use Rattle.insert_objects.specs.Putting.{from_start_inside, collapse_after, put}

-- insertHorizontalRule, step 1: from the start of a node to before it, and from its end to after
-- it, up to the affected host
unfoldable pub out_of_start : State → Point → Option Point
out_of_start s p =
    if (p.offset == 0) && not (is_label s.host p.label) then before_node s.trees p.label else None

-- insertHorizontalRule, step 1: and from its end
unfoldable pub out_of_end : State → Point → Option Point
out_of_end s p =
    if (p.offset == length_of s.trees p.label) && not (is_label s.host p.label) then
    after_node s.trees p.label
    else None

-- insertHorizontalRule, step 1: as far out as it goes
unfoldable pub outermost_start : State → Point → Point
outermost_start s p = walk_points (out_of_start s) (turn_bound s) p

-- insertHorizontalRule, step 1: as far out as it goes, from the end
unfoldable pub outermost_end : State → Point → Point
outermost_end s p = walk_points (out_of_end s) (turn_bound s) p

-- insertHorizontalRule, step 1: what lies between the two is selected
abbrev pub select_widened : State → Pair → Run (Unit {0})
select_widened s pair =
    select (outermost_start s (start_of s.trees pair)) (outermost_end s (end_of s.trees pair))

-- insertHorizontalRule, step 1
unfoldable pub widen_range : Run (Unit {0})
widen_range = look λ s. given s.points.selection done (select_widened s)

-- step 3
unfoldable pub put_rule : Run Bool
put_rule = do
  n ← put (codes "hr") []
  fix_ancestors n
  collapse_after n
  answer true

-- steps 1 and 2, and then 3
unfoldable pub insert_horizontal_rule : Run Bool
insert_horizontal_rule = do
  widen_range
  erase KEEP_BLOCKS
  from_start_inside λ p. put_rule
