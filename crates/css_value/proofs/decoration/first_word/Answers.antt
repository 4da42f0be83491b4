use Rattle.std.proofs.Common.{sym, ◌∙◌}
use Rattle.css_value.proofs.Words.{words-none, first-word}
use Rattle.css_value.proofs.decoration.first_word.Goals as goal

pub returns-then-is_empty-clause-words : goal.returns-then-is_empty-clause-words
returns-then-is_empty-clause-words c =
    words-none c.args.text.now c.trim_start-rest.result.now c.trim_start-rest.ensures (sym c.is_empty.ensures ∙ c.if-is_empty.true)

pub returns-clause-words : goal.returns-clause-words
returns-clause-words c =
    (first-word c.args.text.now c.trim_start-rest.result.now c.split_word.result.0.now c.split_word.result.1.now c.trim_start-rest.ensures (sym c.is_empty.ensures ∙ c.if-is_empty.false) c.split_word.ensures.word c.split_word.ensures.rest).words_are

pub returns-clause-nonempty : goal.returns-clause-nonempty
returns-clause-nonempty c =
    (first-word c.args.text.now c.trim_start-rest.result.now c.split_word.result.0.now c.split_word.result.1.now c.trim_start-rest.ensures (sym c.is_empty.ensures ∙ c.if-is_empty.false) c.split_word.ensures.word c.split_word.ensures.rest).nonempty

pub returns-clause-shorter : goal.returns-clause-shorter
returns-clause-shorter c =
    (first-word c.args.text.now c.trim_start-rest.result.now c.split_word.result.0.now c.split_word.result.1.now c.trim_start-rest.ensures (sym c.is_empty.ensures ∙ c.if-is_empty.false) c.split_word.ensures.word c.split_word.ensures.rest).shorter
