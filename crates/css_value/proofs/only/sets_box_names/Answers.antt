use Rattle.std.proofs.Common.{sym, ◌∙◌}
use Rattle.html_names.specs.BoxNames.{is_box_name}
use Rattle.css_value.proofs.Names.{all-names}
use Rattle.css_value.proofs.only.sets_box_names.Goals as goal

pub returns : goal.returns
returns c = c.all_box_names.ensures ∙ sym (all-names is_box_name c.args.text.now)
