use Rattle.std.proofs.Common.{refl}
use Rattle.page_grammar.specs.Chars.{is_space, lower, is_letter, is_digit, is_name_char, is_control, is_attribute_name_char, is_quote, is_referable, is_hex, digit_of}
use Rattle.page_grammar.specs.Names.{void_names, refused_names, is_void, is_refused}
use Rattle.page_grammar.proofs.worked_faults.Goals as goal

pub returns : goal.returns
unfolding is_space lower is_letter is_digit is_name_char is_control is_attribute_name_char is_quote void_names refused_names is_void is_refused is_referable is_hex digit_of
returns _ = record { unclosed = refl; part = refl; reference = refl; short_comment = refl; half_character = refl; repeated = refl; bare = refl; quote = refl; stray = refl; other = refl; none_open = refl; copy = refl; zero = refl; large = refl; surrogate = refl; in_value = refl; script = refl; script_solidus = refl; solidus = refl; equals = refl; joined = refl; control = refl; digit = refl; wide_tag = refl; bad_byte = refl; bad_second = refl; deep_element = refl; deep_text = refl; deep_wide_text = refl; deep_comment = refl; deep_nothing = refl; not_deep = refl; full = refl; full_text = refl; page = refl; wide_page = refl; at_depth = refl; at_cap = refl }
