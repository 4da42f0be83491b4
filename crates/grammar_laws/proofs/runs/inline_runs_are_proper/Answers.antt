use Rattle.grammar_laws.proofs.FormatRuns.{proper_remove_format}
use Rattle.grammar_laws.proofs.LinkingRuns.{proper_create_link, proper_unlink}
use Rattle.grammar_laws.proofs.TogglingRuns.{proper_apply_value, proper_toggle_script, proper_toggle_style}
use Rattle.grammar_laws.proofs.runs.inline_runs_are_proper.Goals as goal

pub returns : goal.returns
returns c = record {
  styles = proper_toggle_style;
  scripts = proper_toggle_script;
  values = proper_apply_value;
  links = proper_create_link;
  unlinks = proper_unlink;
  formats = proper_remove_format;
}
