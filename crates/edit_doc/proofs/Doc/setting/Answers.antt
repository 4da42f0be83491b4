use Rattle.std.proofs.Common.{ap, ◌∙◌}
use Rattle.edit_model.specs.Overrides.{setting_of}
use Rattle.edit_doc.specs.Whole.{Whole}
use Rattle.edit_doc.proofs.Doc.setting.Goals as goal

pub returns : goal.returns
returns c = c.get.ensures ∙ ap (λ (w : Whole). setting_of w.state.overrides c.args.command) c.self.view_is
