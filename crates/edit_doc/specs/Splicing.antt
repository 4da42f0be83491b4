-- The step by which characters of a text give way to others.
use Rattle.std.specs.Prelude.{ℕ, ◌+◌, ◌-◌, List, [], length, take, drop, unwrap_or}
use Rattle.edit_model.specs.DomModel.declared.Content.{Content}
use Rattle.edit_model.specs.DomModel.Contents.{chars_in}
use Rattle.edit_model.specs.NodeArena.declared.NodeRef.{NodeRef}
use Rattle.step_edits.specs.EditSteps.declared.step.Step.{Step}
use Rattle.step_edits.specs.EditSteps.declared.step.Step.TheVariants as step

-- the characters that a content has, if it has any
abbrev pub own_chars : Content → List ℕ
own_chars c = unwrap_or (chars_in c) []

abbrev pub splice_step : NodeRef → ℕ → ℕ → List ℕ → Content → Step
splice_step n at count put c =
    step.Splice
    (record {
      node = n;
      at = at;
      rest = length (own_chars c) - (at + count);
      taken = take count (drop at (own_chars c));
      put = put;
    })
