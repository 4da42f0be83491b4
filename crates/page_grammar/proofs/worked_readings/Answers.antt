use Rattle.std.proofs.Common.{refl}
use Rattle.page_grammar.specs.Chars.{is_space, lower, is_letter, is_digit, is_name_char, is_control, is_attribute_name_char, is_quote, is_referable, is_hex, digit_of}
use Rattle.page_grammar.specs.Names.{void_names, refused_names, is_void, is_refused}
use Rattle.page_grammar.proofs.worked_readings.Goals as goal

pub returns : goal.returns
unfolding is_space lower is_letter is_digit is_name_char is_control is_attribute_name_char is_quote void_names refused_names is_void is_refused is_referable is_hex digit_of
returns _ = record { nothing = refl; tree = refl; refused = refl }
