use Rattle.grammar_laws.proofs.BlockRuns.{proper_format_block, proper_justify}
use Rattle.grammar_laws.proofs.IndentRuns.{proper_indent, proper_outdent}
use Rattle.grammar_laws.proofs.ListToggleRuns.{proper_toggle_lists}
use Rattle.grammar_laws.proofs.runs.block_runs_are_proper.Goals as goal

pub returns : goal.returns
returns c = record {
  formats = proper_format_block;
  justifies = proper_justify;
  indents = proper_indent;
  outdents = proper_outdent;
  lists = proper_toggle_lists;
}
