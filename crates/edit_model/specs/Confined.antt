-- What a running command may change: only what lies inside its affected editing host, and what it
-- made itself.
use Rattle.std.specs.Prelude.{ℕ, ◌+◌, ◌^◌, Bool, true, false, ◌||◌, ◌&&◌, not, ◌==◌, nat_le, nat_lt, List, length, Option, Some, None, bytes_eq, is_none}
use Rattle.std.specs.Option.{option_map_or}
use Rattle.point_order.specs.DomModel.declared.Content.{Content}
use Rattle.point_order.specs.DomModel.declared.Content.TheVariants.{Words}
use Rattle.point_order.specs.DomModel.declared.attributes.Attribute.{Attribute}
use Rattle.point_order.specs.DomModel.AttributeList.{value_of}
use Rattle.point_order.specs.DomModel.Contents.{is_parent_at, attributes_of, length_of, is_break}
use Rattle.point_order.specs.DomModel.Editing.{is_editable}
pub use Rattle.point_order.specs.DomModel.Room.{spliced}
use Rattle.point_order.specs.DomModel.Forest.{Forest, is_label, count_of, tree_of, parent_of, next_of, content_of}
use Rattle.point_order.specs.LiveRange.declared.places.Point.{Point}
use Rattle.point_order.specs.PointOrder.{is_within, is_in_document, is_placed}
use Rattle.edit_model.specs.State.{State}
use Rattle.edit_model.specs.Kept.{has_no_kept_leaves}

-- ---- where a node stands

-- editable, with the affected host as its host
unfoldable pub is_editable_for : State → ℕ → Bool
is_editable_for s l = option_map_or (λ h. is_editable s.trees h l) s.host false

-- the affected host, or editable with it as its host
unfoldable pub is_inside : State → ℕ → Bool
is_inside s l = is_label s.host l || is_editable_for s l

-- the running command drew its label
unfoldable pub is_made : State → ℕ → Bool
is_made s l = nat_le s.start l

-- inside, or made by the running command
unfoldable pub is_open : State → ℕ → Bool
is_open s l = is_inside s l || is_made s l

-- editable, or made by the running command
unfoldable pub is_own : State → ℕ → Bool
is_own s l = is_editable_for s l || is_made s l

abbrev pub is_there : Forest Content → ℕ → Bool
is_there f l = nat_lt 0 (count_of f l)

-- b, if there is one, is a child of p other than n
abbrev pub is_place : Forest Content → ℕ → Option ℕ → ℕ → Bool
is_place f p None n = true
is_place f p (Some b) n = is_label (parent_of f b) p && not (b == n)

-- n stands under p already, before b
abbrev pub stands_so : Forest Content → ℕ → ℕ → ℕ → Option ℕ → Bool
stands_so f n o p None = o == p && is_none (next_of f n)
stands_so f n o p (Some b) = o == p && is_label (next_of f n) b

-- ---- which edits are made

-- n, which has no parent and isn't the document, goes into p, which is open and no part of it
unfoldable pub may_insert : State → ℕ → Option ℕ → ℕ → Bool
may_insert s p b n =
    is_there s.trees n && (not (n == 0) && (is_none (parent_of s.trees n)
    && (is_parent_at s.trees p
    && (not (is_within s.trees n p) && (is_place s.trees p b n && is_open s p)))))

-- n leaves its parent o, which is open; a keeping command removes nothing that is kept
abbrev pub may_leave : State → ℕ → Option ℕ → Bool
may_leave s n None = false
may_leave s n (Some o) =
    is_open s o && ((is_own s n || is_break s.trees n) && (not s.keeping || has_no_kept_leaves (tree_of s.trees n)))

unfoldable pub may_remove : State → ℕ → Bool
may_remove s n = may_leave s n (parent_of s.trees n)

-- n moves from its parent o to p, both open: not into itself, not from the document into a loose
-- tree, and not to where it stands
abbrev pub may_go : State → ℕ → Option ℕ → ℕ → Option ℕ → Bool
may_go s n None p b = false
may_go s n (Some o) p b =
    is_open s o && (is_open s p && (is_parent_at s.trees p && (not (is_within s.trees n p)
    && (is_place s.trees p b n && ((not (is_in_document s.trees n) || is_in_document s.trees p)
    && not (stands_so s.trees n o p b))))))

unfoldable pub may_move : State → ℕ → ℕ → Option ℕ → Bool
may_move s n p b = may_go s n (parent_of s.trees n) p b

-- the data of a text change, within its length, to other data of at most 4,294,967,295 characters
abbrev pub may_change : Option Content → ℕ → ℕ → List ℕ → Bool
may_change (Some (Words chars)) at count put =
    nat_le (at + count) (length chars) && (nat_lt (length (spliced chars at count put)) (2 ^ 32)
    && not (bytes_eq (spliced chars at count put) chars))
may_change _ at count put = false

unfoldable pub may_replace : State → ℕ → ℕ → ℕ → List ℕ → Bool
may_replace s n at count put = is_own s n && may_change (content_of s.trees n) at count put

abbrev pub has_value : List Attribute → List ℕ → List ℕ → Bool
has_value list name value = option_map_or (λ own. bytes_eq own value) (value_of list name) false

-- an attribute is set to another value, and unset where it is there
unfoldable pub may_set : State → ℕ → List ℕ → List ℕ → Bool
may_set s n name value = is_own s n && option_map_or (λ list. not (has_value list name value))
    (attributes_of s.trees n) false

unfoldable pub may_unset : State → ℕ → List ℕ → Bool
may_unset s n name =
    is_own s n && option_map_or (λ list. option_map_or (λ _. true) (value_of list name) false)
    (attributes_of s.trees n) false

-- ---- which selecting steps are made

-- a point at which kept points may stand
unfoldable pub may_select : State → Point → Bool
may_select s p = is_placed s.trees p

-- points at a place of an open node grow where a child stands after it
unfoldable pub may_grow : State → Point → Bool
may_grow s p = is_open s p.label && (is_in_document s.trees p.label && nat_lt p.offset (length_of s.trees p.label))

-- the points of a text, which is editable or made by the running command, past an offset go to
-- another text of the document that reaches as far
unfoldable pub may_send : State → ℕ → ℕ → ℕ → Bool
may_send s n at tail =
    is_own s n && (is_in_document s.trees tail && (not (n == tail)
    && nat_le (length_of s.trees n) (at + length_of s.trees tail)))
