-- The six elementary edits, and what each makes of a state.
use Rattle.std.specs.Prelude.{ℕ, ◌+◌, ◌-◌, Bool, List, [], ◌∷◌, ◌++◌, length, take, drop, Option, Some, None, if◌then◌else◌, unwrap_or}
use Rattle.point_order.specs.DomModel.declared.Content.{Content}
use Rattle.point_order.specs.DomModel.declared.Content.TheVariants.{Element, Words}
use Rattle.point_order.specs.DomModel.AttributeList.{set_in, unset_in}
use Rattle.point_order.specs.DomModel.Change.{Change}
use Rattle.point_order.specs.DomModel.Change as change
use Rattle.point_order.specs.DomModel.Contents.{chars_of, attributes_of}
use Rattle.point_order.specs.DomModel.Forest.{Forest, parent_of, children_of, preorder, tree_of, link, unlink}
use Rattle.point_order.specs.DomModel.Places.{place_in, index_of}
use Rattle.point_order.specs.DomModel.Revised.{revised}
use Rattle.point_order.specs.LiveRange.PointsEdit as range
use Rattle.point_order.specs.LiveRange.LivePoints.{LivePoints, mapped}
use Rattle.point_order.specs.LiveRange.ActiveRange.{range_changed}
use Rattle.point_order.specs.PointOrder.{is_before}
use Rattle.edit_model.specs.declared.settings.Setting.{Setting}
use Rattle.edit_model.specs.State.{State}
use Rattle.edit_model.specs.Overrides.{no_overrides}
use Rattle.edit_model.specs.Confined.{spliced, may_insert, may_remove, may_move, may_replace, may_set, may_unset}

-- Where `before` is None the place is the end of the parent. A node is inserted that has no parent,
-- a tree is removed and becomes loose, a node moves with the points in it; characters of a text are
-- replaced, an attribute is set or unset.
pub data Edit : Type 0 where
  Insert : (parent : ℕ) (before : Option ℕ) (node : ℕ) → Edit
  Remove : (node : ℕ) → Edit
  Move : (node parent : ℕ) (before : Option ℕ) → Edit
  Replace : (node at count : ℕ) (put : List ℕ) → Edit
  Set : (node : ℕ) (name value : List ℕ) → Edit
  Unset : (node : ℕ) (name : List ℕ) → Edit

-- ---- the trees after an edit that is made

-- the index that a node gets in p before b
unfoldable pub index_before : Forest Content → ℕ → Option ℕ → ℕ
index_before f p None = length (children_of f p)
index_before f p (Some b) = place_in (children_of f p) b

abbrev pub with_replaced : ℕ → ℕ → List ℕ → Content → Content
with_replaced at count put (Words chars) = Words (spliced chars at count put)
with_replaced at count put c = c

abbrev pub with_set : List ℕ → List ℕ → Content → Content
with_set name value (Element tag list) = Element tag (set_in list name value)
with_set name value c = c

abbrev pub with_unset : List ℕ → Content → Content
with_unset name (Element tag list) = Element tag (unset_in list name)
with_unset name c = c

unfoldable pub trees_after : Edit → Forest Content → Forest Content
trees_after (Insert p b n) f = link f p b n
trees_after (Remove n) f = unlink f n
trees_after (Move n p b) f = link (unlink f n) p b n
trees_after (Replace n at count put) f = revised f n (with_replaced at count put)
trees_after (Set n name value) f = revised f n (with_set name value)
trees_after (Unset n name) f = revised f n (with_unset name)

-- ---- the points after it

abbrev pub parent_or_0 : Forest Content → ℕ → ℕ
parent_or_0 f n = unwrap_or (parent_of f n) 0

unfoldable pub points_after : Edit → Forest Content → LivePoints → LivePoints
points_after (Insert p b n) f points = mapped (range.Insert p (index_before f p b)) points
points_after (Remove n) f points = mapped (range.Remove (preorder (tree_of f n)) (parent_or_0 f n)
    (index_of f n)) points
points_after (Move n p b) f points =
    mapped
    (range.Move
    (record { label = parent_or_0 f n; offset = index_of f n })
    (record { label = p; offset = index_before (unlink f n) p b }))
    points
points_after (Replace n at count put) f points =
    mapped (range.Replace n at count (length put)) points
points_after (Set n name value) f points = points
points_after (Unset n name) f points = points

-- ---- the state after it

-- overrides are unset where the active range has another start or end, or came or went
unfoldable pub overrides_after : State → Forest Content → LivePoints → List Setting
overrides_after s trees points =
    if range_changed (is_before s.trees) (is_before trees) s.points.selection points.selection then
    no_overrides
    else s.overrides

-- the state with other trees and points
unfoldable pub changed : State → Forest Content → LivePoints → State
changed s trees points =
    record s { trees = trees; points = points; overrides = overrides_after s trees points }

-- whether an edit is made: otherwise it is left out, and the state stays
unfoldable pub is_made_edit : Edit → State → Bool
is_made_edit (Insert p b n) s = may_insert s p b n
is_made_edit (Remove n) s = may_remove s n
is_made_edit (Move n p b) s = may_move s n p b
is_made_edit (Replace n at count put) s = may_replace s n at count put
is_made_edit (Set n name value) s = may_set s n name value
is_made_edit (Unset n name) s = may_unset s n name

-- the edit as a change
unfoldable pub change_of : Edit → Forest Content → Change
change_of (Insert p b n) f = change.Insert n p b
change_of (Remove n) f = change.Remove n
change_of (Move n p b) f = change.Move n p b
change_of (Replace n at count put) f =
    let chars : List ℕ = unwrap_or (chars_of f n) [] in
    change.Splice n at (length chars - (at + count)) (take count (drop at chars)) put
change_of (Set n name value) f =
    change.SetAttributes n (set_in (unwrap_or (attributes_of f n) []) name value)
change_of (Unset n name) f =
    change.SetAttributes n (unset_in (unwrap_or (attributes_of f n) []) name)

unfoldable pub with_change : Change → State → State
with_change x s = record s { edits = s.edits ++ x ∷ [] }

unfoldable pub edited : Edit → State → State
edited e s = if is_made_edit e s then with_change (change_of e s.trees)
    (changed s (trees_after e s.trees) (points_after e s.trees s.points)) else s
