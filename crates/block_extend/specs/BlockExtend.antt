-- The block-extended range (HTML Editing APIs, "block-extend"): a range with its ends taken out to
-- where lines of blocks start and end. The steps are those of docs/ALGORITHMS.md.
use Rattle.std.specs.Prelude.{ℕ, zero, suc, ◌+◌, ◌-◌, ◌==◌, nat_lt, Bool, false, Option, Some, None, if◌then◌else◌, codes}
use Rattle.std.specs.Option.{option_map, option_and_then, unwrap_or}
use Rattle.node_paths.specs.DomModel.declared.Content.{Content}
use Rattle.node_paths.specs.DomModel.Contents.{length_of}
use Rattle.node_paths.specs.DomModel.Forest.{Forest, parent_of}
use Rattle.node_paths.specs.DomModel.Places.{index_of}
use Rattle.node_tests.specs.LiveRange.declared.places.Point.{Point}
use Rattle.node_tests.specs.NodeStyles.Lineage.{nearest_label}
use Rattle.node_tests.specs.NodeStyles.OwnStyles.{is_named}
use Rattle.node_tests.specs.BlockPoints.{is_block_start, is_block_end, is_block_boundary}
use Rattle.node_tests.specs.NodeStyles.TurnBound.{turn_bound}

-- ---- steps from place to place

-- the place in the parent of a node that is this many places after the one before the node
abbrev pub out_of : Forest Content → ℕ → ℕ → Option Point
out_of f l places =
    option_map (λ p. record { label = p; offset = index_of f l + places }) (parent_of f l)

-- the place before: at the start of a node, that before the node
unfoldable pub back : Forest Content → Point → Option Point
back f at = if at.offset == 0 then out_of f at.label 0
    else Some (record { label = at.label; offset = at.offset - 1 })

-- the place after: at the end of a node, that after the node
unfoldable pub forth : Forest Content → Point → Option Point
forth f at =
    if nat_lt at.offset (length_of f at.label) then Some (record {
      label = at.label;
      offset = at.offset + 1;
    }) else out_of f at.label 1

-- out of a node, from its start alone
unfoldable pub out_before : Forest Content → Point → Option Point
out_before f at = if at.offset == 0 then out_of f at.label 0 else None

-- out of a node, from its end alone
unfoldable pub out_after : Forest Content → Point → Option Point
out_after f at = if nat_lt at.offset (length_of f at.label) then None else out_of f at.label 1

-- where steps back and forth stop: at a block boundary point
abbrev pub is_boundary : Forest Content → Point → Bool
is_boundary f at = is_block_boundary f at.label at.offset

-- steps out of nodes stop nowhere
abbrev pub nowhere : Forest Content → Point → Bool
nowhere f at = false

abbrev pub led : Option Point → Point → (Point → Point) → Point
led None at on = at
led (Some next) at on = on next

-- from a place on, as long as a step leads on, until it comes to a place where steps stop; at most
-- so many turns
unfoldable pub walk : (Point → Option Point) → (Point → Bool) → ℕ → Point → Point
walk step stops zero at = at
walk step stops (suc n) at =
    led (step at) at λ next. if stops next then next else walk step stops n next

-- ---- the two ends

-- block-extend, steps 1 and 4: out of the innermost li that the node is or is in
unfoldable pub out_of_item : Forest Content → ℕ → Point → Point
out_of_item f places at = unwrap_or (option_and_then (λ l. out_of f l places)
    (nearest_label (is_named (codes "li")) f at.label)) at

-- block-extend, step 2: back to a block boundary point, but from a block start point
unfoldable pub to_block_start : Forest Content → Point → Point
to_block_start f at =
    if is_block_start f at.label at.offset then at
    else walk (back f) (is_boundary f) (turn_bound f) at

-- block-extend, step 3: out of each node whose start it is
unfoldable pub to_outer_start : Forest Content → Point → Point
to_outer_start f at = walk (out_before f) (nowhere f) (turn_bound f) at

-- block-extend, step 5: on to a block boundary point, but from a block end point
unfoldable pub to_block_end : Forest Content → Point → Point
to_block_end f at =
    if is_block_end f at.label at.offset then at
    else walk (forth f) (is_boundary f) (turn_bound f) at

-- block-extend, step 6: out of each node whose end it is
unfoldable pub to_outer_end : Forest Content → Point → Point
to_outer_end f at = walk (out_after f) (nowhere f) (turn_bound f) at

-- block-extend, steps 1 to 3
unfoldable pub extended_start : Forest Content → Point → Point
extended_start f at = to_outer_start f (to_block_start f (out_of_item f 0 at))

-- block-extend, steps 4 to 6
unfoldable pub extended_end : Forest Content → Point → Point
extended_end f at = to_outer_end f (to_block_end f (out_of_item f 1 at))

-- the start and the end of the block-extended range
unfoldable pub block_extend : Forest Content → Point → Point → Point × Point
block_extend f start end = (extended_start f start, extended_end f end)
