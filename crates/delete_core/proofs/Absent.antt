-- What is told of a label that isn't there.
use Rattle.std.proofs.Common.{◌≡◌, ℕ, zero, suc, ◌<◌, List, [], Bool, true, false, Option, None, refl, ap, arith}
use Rattle.std.specs.Prelude.{slice_get, nat_lt}
use Rattle.edit_model.specs.DomModel.declared.Content.{Content}
use Rattle.edit_model.specs.DomModel.Contents.{length_of}
use Rattle.edit_model.specs.DomModel.Forest.{Forest, count_of, parent_of, content_of, children_of}
use Rattle.edit_model.proofs.DomModel.Stands.{seek_absent}
use Rattle.edit_model.specs.LiveRange.declared.places.Point.{Point}
use Rattle.inline_value.specs.NodeTests.BlockPoints.{child_before, child_at}
use Rattle.delete_core.specs.Whitespace.{text_of, char_at, char_before}

module _ (f : Forest Content) (l : ℕ) (none : count_of f l ≡ 0) where
  pub parent_absent : parent_of f l ≡ None
  parent_absent = rw (seek_absent None f l none) refl

  pub content_absent : content_of f l ≡ None
  content_absent = rw (seek_absent None f l none) refl

  pub children_absent : children_of f l ≡ []
  children_absent = rw (seek_absent None f l none) refl

  pub length_absent : length_of f l ≡ 0
  length_absent = rw content_absent refl

  pub child_at_absent : (o : ℕ) → child_at f l o ≡ None
  child_at_absent o = rw children_absent refl

  pub child_before_absent : (o : ℕ) → child_before f l o ≡ None
  child_before_absent zero = refl
  child_before_absent (suc o) = rw children_absent refl

  pub text_absent : text_of f l ≡ []
  unfolding text_of
  text_absent = rw content_absent refl

pub ruleset absent = (parent_absent, content_absent, children_absent, length_absent, child_at_absent, child_before_absent, text_absent)
