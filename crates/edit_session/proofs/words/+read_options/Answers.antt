use Rattle.std.proofs.Common.{string_bytes, ◌∙◌}
use Rattle.std.proofs.lemmas.List.{take_rest}
use Rattle.edit_session.specs.Words.{given_in}
use Rattle.edit_session.proofs.WordsLemmas.{named_first, joined_first}
use Rattle.edit_session.proofs.words.+read_options.Goals as goal

pub returns-in_ok-read_setting-in-Some : goal.returns-in_ok-read_setting-in-Some
returns-in_ok-read_setting-in-Some t c =
    c.read_options.ensures
    ∙ named_first string_bytes (given_in c.args.options) (given_in c.in_ok-read_setting-in-Some.field-0) c.in-Some.setting c.args.words.now _ c.word-item-2.result c.text-item.result c.as_str-in-len2-up.result.now c.as_str-in-Some.result.now
    c.in-len2-up.len_at_least c.word-item-2.is c.text-item.is (take_rest c.args.words.now 2) c.as_str-in-len2-up.ensures.value c.as_str-in-Some.ensures.value c.in-Some.ensures c.in_ok-read_setting-in-Some.ensures

pub returns-in_ok-read_joined-in-None : goal.returns-in_ok-read_joined-in-None
returns-in_ok-read_joined-in-None t c =
    c.read_options-in-None.ensures
    ∙ joined_first string_bytes (given_in c.args.options) (given_in c.in_ok-read_joined-in-None.field-0) c.args.words.now _ c.word-item-2.result c.as_str-in-len2-up.result.now c.as_str-in-None.result.now
    c.in-len2-up.len_at_least c.word-item-2.is (take_rest c.args.words.now 1) c.as_str-in-len2-up.ensures.value c.as_str-in-None.ensures.value c.in-None.ensures c.in_ok-read_joined-in-None.ensures
