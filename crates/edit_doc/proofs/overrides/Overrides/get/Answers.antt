use Rattle.std.proofs.Common.{sym, subst, ◌∙◌, get_or, ◌<◌}
use Rattle.edit_model.specs.declared.settings.Setting.TheVariants.{Absent}
use Rattle.edit_model.specs.Overrides.{setting_of}
use Rattle.edit_doc.proofs.Chosen.{any_default}
use Rattle.edit_doc.proofs.overrides.Overrides.get.Goals as goal

pub returns : goal.returns
unfolding setting_of
returns c =
    c.index.ensures
    ∙ (any_default c.self.inside.list.items c.place_of.result c.index.result.now Absent (subst (λ n. c.place_of.result < n) (sym c.self.invariant.0) c.place_of.ensures.bound)
    ∙ (λ i. get_or (c.self.view_is i) (c.place_of.ensures.place i) Absent))
