-- What a question looks for at each node of a list. No public clause cites this module.
use Rattle.std.specs.Prelude.{ℕ, Bool}
use Rattle.edit_model.specs.DomModel.declared.Content.{Content}
use Rattle.edit_model.specs.DomModel.Forest.{Forest}
use Rattle.command_value.specs.EffectiveValues.{is_activated}
use Rattle.edit_query.specs.declared.listed.Feature.{Feature}
use Rattle.edit_query.specs.declared.listed.Feature.TheVariants.{On, Aligned}
use Rattle.edit_query.specs.Listed.{is_aligned}

abbrev pub has_feature : Feature → Forest Content → ℕ → Bool
has_feature (On c) = λ f l. is_activated f l c
has_feature (Aligned a) = λ f l. is_aligned f a l
