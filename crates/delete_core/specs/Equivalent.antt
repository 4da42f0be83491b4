-- Equivalent points (HTML Editing APIs, "next equivalent point", "previous equivalent point"):
-- points between which nothing but edges of inline nodes stands. The steps are those of
-- docs/ALGORITHMS.md.
use Rattle.std.specs.Prelude.{ℕ, ◌==◌, ◌||◌, Option, Some, None, if◌then◌else◌}
use Rattle.std.specs.Option.{option_map}
use Rattle.edit_model.specs.DomModel.declared.Content.{Content}
use Rattle.edit_model.specs.DomModel.Contents.{length_of}
use Rattle.edit_model.specs.DomModel.Forest.{Forest}
use Rattle.edit_model.specs.LiveRange.declared.places.Point.{Point}
use Rattle.inline_value.specs.NodeStyles.Blocks.{is_block}
use Rattle.inline_value.specs.NodeTests.BlockPoints.{child_before, child_at}
use Rattle.inline_value.specs.NodeStyles.TurnBound.{turn_bound}
use Rattle.delete_core.specs.Places.{start_in, end_in, before_node, after_node, walk_points}

-- next, step 3, and previous, step 3: an inline node whose length isn't 0
abbrev pub if_enterable : Forest Content → Option ℕ → Option ℕ
if_enterable f None = None
if_enterable f (Some k) = if is_block f k || (length_of f k == 0) then None else Some k

-- next, step 3
unfoldable pub into_after : Forest Content → Point → Option Point
into_after f p = option_map start_in (if_enterable f (child_at f p.label p.offset))

-- previous, step 3
unfoldable pub into_before : Forest Content → Point → Option Point
into_before f p = option_map (end_in f) (if_enterable f (child_before f p.label p.offset))

-- next, step 2, and previous, step 2
unfoldable pub out_after : Forest Content → ℕ → Option Point
out_after f l = if is_block f l then None else after_node f l

unfoldable pub out_before : Forest Content → ℕ → Option Point
out_before f l = if is_block f l then None else before_node f l

-- the next equivalent point, steps 1 to 4
unfoldable pub next_point : Forest Content → Point → Option Point
next_point f p =
    if length_of f p.label == 0 then None
    else (if p.offset == length_of f p.label then out_after f p.label else into_after f p)

-- the previous equivalent point, steps 1 to 4
unfoldable pub previous_point : Forest Content → Point → Option Point
previous_point f p =
    if length_of f p.label == 0 then None
    else (if p.offset == 0 then out_before f p.label else into_before f p)

-- the last equivalent point, and the first one
unfoldable pub last_equivalent : Forest Content → Point → Point
last_equivalent f p = walk_points (next_point f) (turn_bound f) p

unfoldable pub first_equivalent : Forest Content → Point → Point
first_equivalent f p = walk_points (previous_point f) (turn_bound f) p
