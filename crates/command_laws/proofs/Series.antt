-- The members of a series of the block commands stand side by side, in order.
use Rattle.std.proofs.Common.{◌≡◌, ℕ, Bool, true, List, [], ◌∷◌, take, Some, refl, add-one}
use Rattle.edit_model.specs.DomModel.Forest.{next_of}
use Rattle.edit_model.specs.State.{State}
use Rattle.edit_model.specs.Run.{final}
use Rattle.edit_model.proofs.Tests.{label_is}
use Rattle.edit_laws.specs.Order.{KeepsOrder, IsKeeping}
use Rattle.inline_value.specs.EditActions.Siblings.{first_parent}
use Rattle.inline_value.specs.WrapSplit.declared.rule.Criterion.{Criterion}
use Rattle.inline_value.specs.WrapSplit.declared.rule.Recipe.{Recipe}
use Rattle.inline_value.specs.WrapSplit.Wrap.{wrap}
use Rattle.inline_value.specs.BlockExtend.Series.{count_series, is_next}
use Rattle.block_commands.specs.FormatBlock.{is_next_on_line}
use Rattle.command_laws.specs.WrapLaws.{NamesNoThing, MakesNoThing}
use Rattle.command_laws.proofs.Criteria.{first_part}
use Rattle.command_laws.proofs.ListWalks.{consecutive_keeps, series_consecutive}
use Rattle.command_laws.proofs.Wrapping.{parentless}

pub next_is : (s : State) (x y : ℕ) → is_next s.trees x y ≡ true → next_of s.trees x ≡ Some y
unfolding is_next
next_is s x y h = label_is (next_of s.trees x) y h

pub next_on_line : (s : State) (x y : ℕ) → is_next_on_line s x y ≡ true → next_of s.trees x ≡ Some y
unfolding is_next_on_line
next_on_line s x y h = next_is s x y (first_part (is_next s.trees x y) _ h)

module _ (c : Criterion) (r : Recipe) (plain : NamesNoThing c) (makes : MakesNoThing r) (s : State) (is : IsKeeping s) (on : ℕ → ℕ → Bool) (follows : (x y : ℕ) → on x y ≡ true → next_of s.trees x ≡ Some y) where
  -- wrapping the first series of a list keeps the order
  pub series_keeps : (list : List ℕ) → KeepsOrder s (final (wrap c r (take (count_series on list) list)) s)
  unfolding first_parent
  series_keeps [] = parentless c r [] s refl
  series_keeps (x ∷ xs) = rw add-one (consecutive_keeps c r plain makes s is _ (series_consecutive s is.valid on follows x xs))
