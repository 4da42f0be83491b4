-- Each reading of a transcript is what its grammar says.
use Rattle.std.proofs.Common.{refl, sym, subst}
use Rattle.page_read.proofs.PageGrammar.Telling.{reading_is, only_reading}
use Rattle.script_read.proofs.Lines.{means, one_meaning}
use Rattle.step_text.proofs.SoundSteps.{step_of_line}
use Rattle.step_text.specs.PageGrammar.Reading.{IsReading}
use Rattle.script_read.specs.Reading.{IsLine}
use Rattle.edit_session.specs.Words.{order_of}
use Rattle.edit_session.specs.Block.{block_in}
use Rattle.edit_session.specs.Grammars.{RestsOnGrammars}
use Rattle.edit_session.proofs.WordsLemmas.{grammar_of}
use Rattle.edit_session.proofs.BlockGrammar.{grammar_of as block_grammar}

pub rests : RestsOnGrammars
rests = record {
  orders = λ words order. grammar_of (order_of words) words refl order;
  blocks = λ lines block. block_grammar (block_in lines) lines refl block;
  pages = λ cap bytes reading. (λ e. subst (IsReading 200 cap bytes) e (reading_is 200 cap bytes), λ is. sym (only_reading 200 cap bytes reading is));
  acts = λ line meaning. (λ e. subst (IsLine line) e (means line), one_meaning line meaning);
  steps = step_of_line;
}
