use Rattle.std.proofs.Common.{map, string_bytes, arith}
use Rattle.std.proofs.lemmas.Grind.{common_steps}
use Rattle.edit_session.proofs.WordsLemmas.{grammar_of}
use Rattle.edit_session.proofs.words.read_words.Goals as goal

pub returns-in_err-options-in-len1-up-clause-grammar : goal.returns-in_err-options-in-len1-up-clause-grammar
returns-in_err-options-in-len1-up-clause-grammar c = grammar_of _ (map string_bytes c.args.words.now) (grind (arith, common_steps))

pub returns-in_ok-options-in-len1-up-clause-grammar : goal.returns-in_ok-options-in-len1-up-clause-grammar
returns-in_ok-options-in-len1-up-clause-grammar c = grammar_of _ (map string_bytes c.args.words.now) (grind (arith, common_steps))

pub returns-in-len1-up-2-clause-grammar : goal.returns-in-len1-up-2-clause-grammar
returns-in-len1-up-2-clause-grammar c = grammar_of _ (map string_bytes c.args.words.now) (grind (arith, common_steps))
