-- What holds of every state that a document under edits comes into.
use Rattle.std.specs.Prelude.{◌≡◌, ℕ, ◌<◌, ◌≤◌, true, Some, None, IfSome, length}
use Rattle.std.specs.List.{All}
use Rattle.point_order.specs.DomModel.declared.Content.{Content}
use Rattle.point_order.specs.DomModel.Contents.{IsNode}
use Rattle.point_order.specs.DomModel.Forest.{Forest, Seen, seek, count_of, IsDistinct, RisesFrom, parent_of}
use Rattle.point_order.specs.LiveRange.declared.places.Pair.{Pair}
use Rattle.point_order.specs.LiveRange.LivePoints.{LivePoints}
use Rattle.point_order.specs.PointOrder.{is_placed}
use Rattle.edit_model.specs.State.{State}
use Rattle.edit_model.specs.History.{View}

-- labels are distinct and below the next one, the loose trees follow the document by rising labels,
-- and each node is one that can be
pub record IsForest (f : Forest Content) (next : ℕ) : Type 0 where
  pub distinct : IsDistinct f
  pub rising : RisesFrom 0 f
  pub below : (l : ℕ) → 0 < count_of f l → l < next
  pub document : 0 < count_of f 0
  pub root : parent_of f 0 ≡ None
  pub nodes : (l : ℕ) (seen : Seen Content) → seek None f l ≡ Some seen → IsNode l seen

-- both points stand in the document
pub record IsPlacedPair (f : Forest Content) (p : Pair) : Type 0 where
  pub anchor : is_placed f p.anchor ≡ true
  pub focus : is_placed f p.focus ≡ true

pub record IsPlaced (f : Forest Content) (points : LivePoints) : Type 0 where
  pub selection : IfSome points.selection (IsPlacedPair f)
  pub scratch : IfSome points.scratch (IsPlacedPair f)
  pub marks : All (λ m. IsPlacedPair f m.1) points.marks

pub record IsValid (s : State) : Type 0 where
  pub forest : IsForest s.trees s.next
  pub placed : IsPlaced s.trees s.points
  pub started : s.start ≤ s.next
  pub settings : length s.overrides ≡ 32

-- what holds of a view that the history keeps, where the labels are below this one
pub record IsView (v : View) (next : ℕ) : Type 0 where
  pub forest : IsForest v.document next
  pub selection : IfSome v.selection (IsPlacedPair v.document)
  pub marks : All (λ m. IsPlacedPair v.document m.1) v.marks
