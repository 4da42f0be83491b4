use Rattle.grammar_laws.proofs.DeleteRuns.{proper_delete}
use Rattle.grammar_laws.proofs.ObjectRuns.{proper_insert_horizontal_rule, proper_insert_image, proper_insert_line_break}
use Rattle.grammar_laws.proofs.TypingRuns.{proper_insert_paragraph, proper_insert_text}
use Rattle.grammar_laws.proofs.runs.insertion_runs_are_proper.Goals as goal

pub returns : goal.returns
returns c = record {
  deletes = proper_delete;
  types = proper_insert_text;
  paragraphs = proper_insert_paragraph;
  breaks = proper_insert_line_break;
  rules = proper_insert_horizontal_rule;
  images = proper_insert_image;
}
