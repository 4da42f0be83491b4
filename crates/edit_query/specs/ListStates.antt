-- The list state of the active range (HTML Editing APIs, "selection's list state"): which kind of
-- list the lines of the block-extended range stand in. A kind is told by whether its lists are
-- ordered.
use Rattle.std.specs.Prelude.{ℕ, Bool, true, false, not, ◌&&◌, ◌||◌, List, [], ◌∷◌, Option, Some, None, codes, if◌then◌else◌}
use Rattle.std.specs.List.{list_all, list_any}
use Rattle.std.specs.Option.{option_map_or}
use Rattle.edit_model.specs.DomModel.declared.Content.{Content}
use Rattle.edit_model.specs.DomModel.Contents.{has_name}
use Rattle.edit_model.specs.DomModel.Editing.{is_editable}
use Rattle.edit_model.specs.DomModel.Forest.{Forest, parent_of}
use Rattle.edit_model.specs.LiveRange.declared.places.Pair.{Pair}
use Rattle.edit_model.specs.LiveRange.declared.places.Point.{Point}
use Rattle.command_value.specs.NodeStyles.Allowed.{allowed_in_name}
use Rattle.command_value.specs.NodeStyles.NameClasses.{is_indentation}
use Rattle.block_extend.specs.BlockExtend.{block_extend}
use Rattle.block_extend.specs.Descendants.{has_descendant}
use Rattle.block_extend.specs.Gather.{gathered}
use Rattle.edit_model.specs.State.{State}
use Rattle.edit_actions.specs.ActiveRange.{start_of, end_of}
use Rattle.edit_query.specs.declared.list_states.ListState.{ListState}
use Rattle.edit_query.specs.declared.list_states.ListState.TheVariants.{Nothing, Ordered, Unordered, Mixed, MixedOrdered, MixedUnordered}

-- the name of the lists of a kind
abbrev pub list_name : Bool → List ℕ
list_name ordered = if ordered then codes "ol" else codes "ul"

abbrev pub is_list_of : Bool → Forest Content → ℕ → Bool
is_list_of ordered f l = has_name f l (list_name ordered)

-- an ol or ul
unfoldable pub is_any_list : Forest Content → ℕ → Bool
is_any_list f l = is_list_of true f l || is_list_of false f l

-- ---- the list members of a range

-- an editable node that is no indentation element, and that is an ol or ul, or a child of one, or
-- may stand in an li
unfoldable pub is_member : Forest Content → ℕ → ℕ → Bool
is_member f host l =
    is_editable f host l
    && (not (is_indentation f l)
    && (is_any_list f l
    || (option_map_or (is_any_list f) (parent_of f l) false
    || allowed_in_name f l (codes "li"))))

-- those that the range contains and that have no ancestor among them, in tree order; without a host
-- nothing is editable
abbrev pub members_in : Forest Content → Option ℕ → Point × Point → List ℕ
members_in f None range = []
members_in f (Some host) range = gathered (is_member f host) f range.0 range.1

-- ---- how a node stands to the lists of a kind

-- its parent is such a list
unfoldable pub is_child_of : Bool → Forest Content → ℕ → Bool
is_child_of ordered f l = option_map_or (is_list_of ordered f) (parent_of f l) false

-- its parent is an li that is a child of such a list
unfoldable pub is_in_item_of : Bool → Forest Content → ℕ → Bool
is_in_item_of ordered f l =
    option_map_or (λ p. has_name f p (codes "li") && is_child_of ordered f p) (parent_of f l) false

-- it is such a list, a child of one, or the child of an li child of one
unfoldable pub belongs : Bool → Forest Content → ℕ → Bool
belongs ordered f l =
    is_list_of ordered f l || (is_child_of ordered f l || is_in_item_of ordered f l)

-- a descendant is such a list
unfoldable pub is_above_list : Bool → Forest Content → ℕ → Bool
is_above_list ordered f l = has_descendant (is_list_of ordered f) f l

-- it belongs to such a list, or one stands below it
unfoldable pub touches : Bool → Forest Content → ℕ → Bool
touches ordered f l = belongs ordered f l || is_above_list ordered f l

-- it belongs to such a list, and is no list of the other kind nor stands above one
unfoldable pub belongs_purely : Bool → Forest Content → ℕ → Bool
belongs_purely ordered f l =
    belongs ordered f l && not (is_list_of (not ordered) f l || is_above_list (not ordered) f l)

-- ---- the list state

-- where not all members belong purely to one kind: by whether one touches an ol, and whether one
-- touches a ul
abbrev pub mixed_state : Bool → Bool → ListState
mixed_state true true = Mixed
mixed_state true false = MixedOrdered
mixed_state false true = MixedUnordered
mixed_state false false = Nothing

abbrev pub touched_state : Forest Content → List ℕ → ListState
touched_state f ls = mixed_state (list_any (touches true f) ls) (list_any (touches false f) ls)

abbrev pub state_of_members : Forest Content → List ℕ → ListState
state_of_members f [] = Nothing
state_of_members f (l ∷ ls) =
    if list_all (belongs_purely true f) (l ∷ ls) then Ordered
    else (if list_all (belongs_purely false f) (l ∷ ls) then Unordered
    else touched_state f (l ∷ ls))

-- without a selection nothing is contained
abbrev pub state_by : Forest Content → Option ℕ → Option Pair → ListState
state_by f host None = Nothing
state_by f host (Some pair) =
    state_of_members f (members_in f host (block_extend f (start_of f pair) (end_of f pair)))

unfoldable pub list_state : State → Option ℕ → ListState
list_state s host = state_by s.trees host s.points.selection

-- ---- what it answers about the lists of a kind

-- the lines stand in such lists
abbrev pub is_list_state : Bool → ListState → Bool
is_list_state true Ordered = true
is_list_state false Unordered = true
is_list_state ordered _ = false

-- some of the lines stand in such lists, others don't
abbrev pub is_mixed_state : Bool → ListState → Bool
is_mixed_state ordered Mixed = true
is_mixed_state true MixedOrdered = true
is_mixed_state false MixedUnordered = true
is_mixed_state ordered _ = false
