-- What an edit of a tree does to a point in it (DOM, "live ranges"), and what the kept points
-- become.
use Rattle.std.specs.Prelude.{ℕ, ◌+◌, ◌-◌, ◌<◌, ◌^◌, Bool, ◌&&◌, ◌==◌, nat_lt, nat_le, List, [], ◌∷◌, if◌then◌else◌}
use Rattle.std.specs.List.{list_any}
use Rattle.live_range.specs.declared.places.Point.{Point}
use Rattle.live_range.specs.declared.places.Pair.{Pair}

-- an edit, as far as points are concerned. `tree` lists the labels of the tree that was removed
pub data PointsEdit : Type 0 where
  Insert : (parent index : ℕ) → PointsEdit
  Remove : (tree : List ℕ) (parent index : ℕ) → PointsEdit
  Move : (from to : Point) → PointsEdit
  Replace : (node at taken put : ℕ) → PointsEdit
  Split : (node at tail parent index : ℕ) → PointsEdit
  Grown : (at : Point) → PointsEdit

abbrev pub with_offset : Point → ℕ → Point
with_offset p offset = record { label = p.label; offset = offset }

-- an offset after a child was put in at the index
abbrev pub after_insert : ℕ → ℕ → ℕ
after_insert index offset = if nat_lt index offset then offset + 1 else offset

-- an offset after the child at the index was taken out
abbrev pub after_removal : ℕ → ℕ → ℕ
after_removal index offset = if nat_lt index offset then offset - 1 else offset

-- an offset after `taken` characters at `at` gave way to `put` others
abbrev pub after_replacement : ℕ → ℕ → ℕ → ℕ → ℕ
after_replacement at taken put offset =
    if nat_le offset at then offset
    else (if nat_le offset (at + taken) then at else (offset - taken) + put)

-- move, preserving ranges, step 2: a point of a node that lost the child at `from` to another node,
-- where it stands at `to`. The points at both sides of the child go along with it
abbrev pub after_loss : Point → Point → Point → Point
after_loss from to p =
    if p.offset == from.offset then to
    else (if p.offset == from.offset + 1 then with_offset to (to.offset + 1)
    else with_offset p (after_removal from.offset p.offset))

-- whether the label is listed
abbrev pub has_label : List ℕ → ℕ → Bool
has_label labels l = list_any (λ x. x == l) labels

-- the point after the edit; a move preserves ranges by the steps of docs/ALGORITHMS.md
abbrev pub adjusted : PointsEdit → Point → Point
adjusted (Insert parent index) p =
    if p.label == parent then with_offset p (after_insert index p.offset) else p
adjusted (Remove tree parent index) p =
    if has_label tree p.label then record { label = parent; offset = index }
    else (if p.label == parent then with_offset p (after_removal index p.offset) else p)
adjusted (Move from to) p =
    if from.label == to.label
    then (if p.label == from.label then with_offset p (after_insert to.offset
    (after_removal from.offset p.offset)) else p)
    else (if p.label == from.label then after_loss from to p
    else (if p.label == to.label then with_offset p (after_insert to.offset p.offset) else p))
adjusted (Replace node at taken put) p =
    if p.label == node then with_offset p (after_replacement at taken put p.offset) else p
adjusted (Split node at tail parent index) p =
    if p.label == node then
    (if nat_lt at p.offset then record { label = tail; offset = p.offset - at } else p)
    else (if p.label == parent then with_offset p (after_insert index p.offset) else p)
adjusted (Grown at) p =
    if (p.label == at.label) && (p.offset == at.offset) then with_offset p (p.offset + 1) else p

-- the labels of the nodes at which the edit moves points
abbrev pub named_nodes : PointsEdit → List ℕ
named_nodes (Insert parent index) = parent ∷ []
named_nodes (Remove tree parent index) = parent ∷ tree
named_nodes (Move from to) = from.label ∷ to.label ∷ []
named_nodes (Replace node at taken put) = node ∷ []
named_nodes (Split node at tail parent index) = node ∷ parent ∷ []
named_nodes (Grown at) = at.label ∷ []

abbrev pub adjusted_pair : PointsEdit → Pair → Pair
adjusted_pair e p = record { anchor = adjusted e p.anchor; focus = adjusted e p.focus }

-- an offset of the greatest size that a point can have, or less, stays so
abbrev pub PointFits : PointsEdit → Point → Type 0
PointFits e p = p.offset < 2 ^ 32 → (adjusted e p).offset < 2 ^ 32

abbrev pub PairFits : PointsEdit → Pair → Type 0
PairFits e p = PointFits e p.anchor × PointFits e p.focus
