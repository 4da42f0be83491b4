-- What is looked at before an edit, by which the points and the overrides follow it. No public
-- clause cites this module.
use Rattle.std.specs.Prelude.{◌≡◌, ◌≢◌, ℕ, ◌+◌, ◌≤◌, Bool, ◌&&◌, ◌||◌, ◌==◌, true, false, List, slice_get, take, Option, Some, None, IfSome, if◌then◌else◌}
use Rattle.std.specs.List.{All}
use Rattle.std.specs.Option.{option_map}
use Rattle.edit_model.specs.DomModel.declared.Content.{Content}
use Rattle.edit_model.specs.DomModel.Forest.{Forest, is_label, tree_of, preorder}
use Rattle.edit_model.specs.DomModel.Places.{index_of}
use Rattle.edit_model.specs.LiveRange.declared.places.Pair.{Pair}
use Rattle.edit_model.specs.LiveRange.declared.places.Point.{Point}
use Rattle.edit_model.specs.LiveRange.PointsEdit.{has_label}
use Rattle.edit_model.specs.LiveRange.LivePoints.{LivePoints, TellsAlike, labels_of}
use Rattle.edit_model.specs.LiveRange.ActiveRange.{range_start, range_end, range_changed}
use Rattle.edit_model.specs.PointOrder.PointOrder.{is_before}
use Rattle.edit_model.specs.declared.settings.Setting.{Setting}
use Rattle.edit_model.specs.Overrides.{no_overrides}
use Rattle.edit_parts.specs.declared.overrides.ActiveRange.{ActiveRange}
use Rattle.edit_parts.specs.declared.overrides.Watch.{Watch}
use Rattle.edit_parts.specs.declared.following.Removal.{Removal}

-- ---- overrides

abbrev pub range_in : Forest Content → Option Pair → Option ActiveRange
range_in f pair =
    option_map (λ p.
    record { start = range_start (is_before f) p; end = range_end (is_before f) p }) pair

-- the watch tells the active range, or no override is set
abbrev pub Watches : Forest Content → LivePoints → List Setting → Option Watch → Type 0
Watches f points overrides None = overrides ≡ no_overrides
Watches f points overrides (Some w) = w.range ≡ range_in f points.selection

-- the overrides after a step from one forest and its selection to another
abbrev pub unset_if_range_changed : Forest Content → LivePoints → Forest Content → LivePoints
    → List Setting → List Setting
unset_if_range_changed f points g after overrides =
    if range_changed (is_before f) (is_before g) points.selection after.selection then no_overrides
    else overrides

-- ---- points

-- Of each label at which a point stands the list tells whether it is in the tree of n; without a
-- place, none is, and none is the parent
pub record IsRemoval (f : Forest Content) (points : LivePoints) (n p : ℕ)
    (r : Removal) : Type 0 where
  pub few : r.count ≤ 36
  pub tells : TellsAlike points (take r.count r.gone) (preorder (tree_of f n))
  pub place : IfSome r.place (λ at. (at.label ≡ p) × (at.offset ≡ index_of f n))
  pub apart : r.place ≡ None → (l : ℕ) → has_label (labels_of points) l ≡ true
      → (has_label (preorder (tree_of f n)) l ≡ false) × (l ≢ p)

-- where n stands, or else no point stands at its parent nor at the other
abbrev pub IsFrom : Forest Content → LivePoints → ℕ → ℕ → ℕ → Option Point → Type 0
IsFrom f points n from to None =
    (has_label (labels_of points) from ≡ false) × (has_label (labels_of points) to ≡ false)
IsFrom f points n from to (Some at) = (at.label ≡ from) × (at.offset ≡ index_of f n)

-- whether a point stands at the node that may be given, or just before or after the child at another
-- place
abbrev pub is_touched : Point → Option ℕ → Point → Bool
is_touched child to p = is_label to p.label
    || ((p.label == child.label) && ((p.offset == child.offset) || (p.offset == child.offset + 1)))

abbrev pub is_pair_touched : Point → Option ℕ → Pair → Bool
is_pair_touched child to p = is_touched child to p.anchor || is_touched child to p.focus

-- no kept point stands at either
pub record AreApart (child : Point) (to : Option ℕ) (s : LivePoints) : Type 0 where
  pub selection : IfSome s.selection (λ p. is_pair_touched child to p ≡ false)
  pub scratch : IfSome s.scratch (λ p. is_pair_touched child to p ≡ false)
  pub marks : (k : ℕ) → IfSome (slice_get s.marks k) (λ m. is_pair_touched child to m.1 ≡ false)

-- a point of a node lies at an index, or before it
abbrev pub IsUpTo : ℕ → ℕ → Point → Type 0
IsUpTo node index p = p.label ≡ node → p.offset ≤ index

abbrev pub IsPairUpTo : ℕ → ℕ → Pair → Type 0
IsPairUpTo node index p = IsUpTo node index p.anchor × IsUpTo node index p.focus

-- each kept point of a node lies at an index, or before it
pub record AreUpTo (node index : ℕ) (s : LivePoints) : Type 0 where
  pub selection : IfSome s.selection (IsPairUpTo node index)
  pub scratch : IfSome s.scratch (IsPairUpTo node index)
  pub marks : All (λ m. IsPairUpTo node index m.1) s.marks
