-- The parts of actions, and the steps of a tail, keep a state valid.
use Rattle.std.proofs.Common.{◌≡◌, ◌≢◌, ℕ, ◌<◌, ◌^◌, Bool, true, false, if◌then◌else◌, List, [], ◌∷◌, length, IfSome, refl, arith}
use Rattle.std.proofs.lemmas.Bool.{and_parts}
use Rattle.point_order.specs.DomModel.declared.Content.{Content}
use Rattle.point_order.specs.DomModel.Change.{Change}
use Rattle.point_order.specs.DomModel.declared.Content.TheVariants.{Document}
use Rattle.point_order.specs.DomModel.AttributeList.{IsDistinctNames}
use Rattle.point_order.specs.DomModel.Contents.{attributes_in, char_length}
use Rattle.point_order.specs.DomModel.Forest.{Forest, with_leaf}
use Rattle.point_order.specs.LiveRange.declared.places.Point.{Point}
use Rattle.point_order.specs.LiveRange.LivePoints.{LivePoints}
use Rattle.point_order.specs.LiveRange.ActiveRange.{range_changed}
use Rattle.point_order.specs.PointOrder.{is_before}
use Rattle.edit_model.specs.declared.settings.Setting.{Setting}
use Rattle.edit_model.specs.State.{State}
use Rattle.edit_model.specs.Overrides.{no_overrides}
use Rattle.edit_model.specs.Edit.{Edit, is_made_edit, trees_after, points_after, overrides_after, changed, change_of, with_change}
use Rattle.edit_model.specs.Tail.{Step, Copy, Do, document_size}
use Rattle.edit_model.specs.Action.{made, applied, stepped, stepped_all, tail_of}
use Rattle.edit_model.specs.Possible.{freed, are_possible}
use Rattle.edit_model.specs.Valid.{IsForest, IsPlaced, IsValid}
use Rattle.edit_model.proofs.Forests.{forest-with_leaf}
use Rattle.edit_model.proofs.Points.{points_left, leaves-with_leaf}
use Rattle.edit_model.proofs.Made.{made_forest, made_placed}
use Rattle.edit_model.proofs.TailPlan.{AllOf, Fits, IsCopy, is_copy, tail_fits}

-- ---- overrides

none_length : length no_overrides ≡ 32
unfolding no_overrides
none_length = refl

after_length : (b : Bool) (list : List Setting) → length list ≡ 32 → length (if b then no_overrides else list) ≡ 32
after_length true list h = none_length
after_length false list h = h

overrides_length : (s : State) (trees : Forest Content) (points : LivePoints) → length s.overrides ≡ 32 → length (overrides_after s trees points) ≡ 32
unfolding overrides_after
overrides_length s trees points h = after_length (range_changed (is_before s.trees) (is_before trees) s.points.selection points.selection) s.overrides h

-- ---- the parts of actions

pub valid_changed : (s : State) (trees : Forest Content) (points : LivePoints) → IsValid s → IsForest trees s.next → IsPlaced trees points → IsValid (changed s trees points)
unfolding changed
valid_changed s trees points is forest placed = record { forest = forest; placed = placed; started = is.started; settings = overrides_length s trees points is.settings }

pub valid_with_change : (x : Change) (s : State) → IsValid s → IsValid (with_change x s)
unfolding with_change
valid_with_change x s is = record { forest = is.forest; placed = is.placed; started = is.started; settings = is.settings }

pub valid_made : (c : Content) (s : State) → c ≢ Document → char_length c < 2 ^ 32 → IfSome (attributes_in c) IsDistinctNames → IsValid s → IsValid (made c s)
unfolding made
valid_made c s other short names is = record {
  forest = forest-with_leaf s.trees s.next is.forest c other short names;
  placed = points_left s.trees (with_leaf s.trees s.next c) (leaves-with_leaf s.trees s.next is.forest c) s.points is.placed;
  started = (let h = is.started in omega (arith, h));
  settings = is.settings;
}

-- ---- the steps of a tail

pub valid_freed : (s : State) → IsValid s → IsValid (freed s)
valid_freed s is = record { forest = is.forest; placed = is.placed; started = omega arith; settings = is.settings }

pub valid_applied : (e : Edit) (s : State) → IsValid s → is_made_edit e (freed s) ≡ true → IsValid (applied e s)
unfolding applied
valid_applied e s is may =
    valid_with_change (change_of e s.trees) (changed s (trees_after e s.trees) (points_after e s.trees s.points)) (valid_changed s (trees_after e s.trees) (points_after e s.trees s.points) is (made_forest e (freed s) (valid_freed s is) may) (made_placed e (freed s) (valid_freed s is) may))

pub valid_copied : (c : Content) (s : State) → IsCopy c → IsValid s → IsValid (made c s)
valid_copied c s copy is = valid_made c s copy.0 copy.1 copy.2 is

pub valid_steps : (xs : List Step) (s : State) → AllOf (Fits IsCopy (λ _. Unit {0}) (λ _. Unit {0})) xs → are_possible xs s ≡ true → IsValid s → IsValid (stepped_all xs s)
unfolding stepped_all stepped are_possible
valid_steps [] s fit may is = is
valid_steps (Copy c ∷ xs) s fit may is = valid_steps xs (made c s) fit.1 may (valid_copied c s fit.0 is)
valid_steps (Do e ∷ xs) s fit may is =
    let parts = and_parts (is_made_edit e (freed s)) (are_possible xs (applied e s)) may in
    valid_steps xs (applied e s) fit.1 parts.1 (valid_applied e s is parts.0)

-- the steps make copies of elements, whatever else they do
pub plain_tail : (s : State) → IsValid s → (from : Point) (end target : ℕ) → AllOf (Fits IsCopy (λ _. Unit {0}) (λ _. Unit {0})) (tail_of s from end target)
unfolding tail_of
plain_tail s is from end target = tail_fits IsCopy (λ _. Unit {0}) (λ _. Unit {0}) s.trees is.forest.distinct s.next from (λ _. Unit {0}) (λ _ _ _ _ _. tt) (λ _ _ _ _. tt) (λ k _. is_copy s.trees is.forest.nodes k) (λ _ _. tt) (λ _ _. tt) (document_size s.trees) end target s.next tt tt (omega arith)
