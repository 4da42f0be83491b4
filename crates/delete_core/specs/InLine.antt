-- What a walk over whitespace knows where it stands: a node there is known to follow no line break,
-- or to precede none (HTML Editing APIs, "follows a line break", "precedes a line break").
use Rattle.std.specs.Prelude.{◌≡◌, ◌⊎◌, ℕ, false, Some}
use Rattle.edit_model.specs.DomModel.declared.Content.{Content}
use Rattle.edit_model.specs.DomModel.Forest.{Forest}
use Rattle.edit_model.specs.LiveRange.declared.places.Point.{Point}
use Rattle.inline_value.specs.NodeTests.LineBreaks.{follows_break, precedes_break}
use Rattle.delete_core.specs.Places.{start_in, end_in, before_node, after_node}

-- back: the point is the start of such a node, or just before it
pub record FollowsNone (f : Forest Content) (p : Point) : Type 0 where
  pub node : ℕ
  pub follows : follows_break f node ≡ false
  pub place : (p ≡ start_in node) ⊎ (before_node f node ≡ Some p)

-- on: the point is the end of such a node, or just after it
pub record PrecedesNone (f : Forest Content) (p : Point) : Type 0 where
  pub node : ℕ
  pub precedes : precedes_break f node ≡ false
  pub place : (p ≡ end_in f node) ⊎ (after_node f node ≡ Some p)
