-- The solid neighbours of a br, and which brs break no line (HTML Editing APIs, "extraneous line
-- break", "collapsed line break").
use Rattle.std.specs.Prelude.{ℕ, Bool, true, false, not, ◌&&◌, List, [], ◌∷◌, Option, Some, None, if◌then◌else◌, codes}
use Rattle.std.specs.Option.{option_map_or, option_or, unwrap_or}
use Rattle.node_styles.specs.DomModel.declared.Content.{Content}
use Rattle.node_styles.specs.DomModel.Forest.{Forest, parent_of, children_of}
use Rattle.node_styles.specs.DomModel.Forest.Forest.{Nil, Tree}
use Rattle.node_styles.specs.Blocks.{is_block}
use Rattle.node_tests.specs.declared.neighbours.Neighbour.{Neighbour}
use Rattle.node_tests.specs.declared.neighbours.Neighbour.TheVariants.{BlockEdge, LineBreak, Solid}
use Rattle.node_tests.specs.declared.sides.Side.{Side}
use Rattle.node_tests.specs.declared.sides.Side.TheVariants.{Before, After}
use Rattle.node_tests.specs.Sides.{trees}
use Rattle.node_tests.specs.CollapsedWhitespace.{is_solid}
use Rattle.node_styles.specs.DomModel.Contents.{has_name, is_break}

-- what is met at a node: a block, a br, or Words that isn't whitespace or an image
unfoldable pub met : Forest Content → ℕ → Option Neighbour
met f l =
    if is_block f l then Some BlockEdge
    else (if is_break f l then Some LineBreak
    else (if is_solid f l then Some Solid
    else None))

-- of what is met in the front of trees and in the rest of them, what a walk to this side meets
-- first
abbrev pub nearer : Side → Option Neighbour → Option Neighbour → Option Neighbour
nearer Before front rest = option_or rest front
nearer After front rest = option_or front rest

-- what a walk to this side meets first in trees, where a node is met before what it holds; f is the
-- forest that the trees stand in
abbrev pub first_met : Side → Forest Content → Forest Content → Option Neighbour
first_met side f Nil = None
first_met side f (Tree l c ks rest) =
    nearer side (option_or (met f l) (first_met side f ks)) (first_met side f rest)

-- the solid neighbour on this side in the nearest block, whose start and end are block edges too
unfoldable pub neighbour_on : Side → Forest Content → ℕ → Neighbour
neighbour_on side f l = unwrap_or (first_met side f (trees side f l)) BlockEdge

abbrev pub is_block_edge : Neighbour → Bool
is_block_edge BlockEdge = true
is_block_edge _ = false

abbrev pub is_solid_neighbour : Neighbour → Bool
is_solid_neighbour Solid = true
is_solid_neighbour _ = false

abbrev pub is_sole : List ℕ → Bool
is_sole (x ∷ []) = true
is_sole _ = false

-- its parent is an li that has no other child
unfoldable pub is_sole_in_item : Forest Content → ℕ → Bool
is_sole_in_item f l =
    option_map_or (λ p. has_name f p (codes "li") && is_sole (children_of f p)) (parent_of f l)
    false

-- a br after text or an image and before a block edge, which shows no line of its own
unfoldable pub is_extraneous_break : Forest Content → ℕ → Bool
is_extraneous_break f l =
    is_break f l && is_block_edge (neighbour_on After f l)
    && is_solid_neighbour (neighbour_on Before f l)
    && not (is_sole_in_item f l)

-- a br after a block edge or a br, and before a block edge
unfoldable pub is_collapsed_break : Forest Content → ℕ → Bool
is_collapsed_break f l = is_break f l && not (is_solid_neighbour (neighbour_on Before f l))
    && is_block_edge (neighbour_on After f l)
