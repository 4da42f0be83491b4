-- Making whitespace canonical ignores marks and the cap.
use Rattle.std.proofs.Common.{ℕ, Bool, List}
use Rattle.edit_model.specs.LiveRange.declared.places.Point.{Point}
use Rattle.edit_model.specs.Confined.{is_inside, is_editable_for}
use Rattle.delete_core.specs.Whitespace.{scan_blank, scan_char, scan_turn, on_step, into_child_at, out_on, out_to_end, scan_blanks, first_scan, trim_char, ends_softly, trim_turn, trim_step, into_child_before, out_front, out_to_start, trimmed, trims, trimmed_if, put_space, lay_char, lay_out, lay_text, lay_turn, lay_all, lays, laid_between, spaces_for, canonicalize_from, canonicalize, start_of_blanks, back_step, out_back, over_blank}
use Rattle.independence_laws.specs.Ignoring.{IgnoresMarks}
use Rattle.independence_laws.proofs.IgnoringRuns.{ignoring_parts}

ignores_scan_blank : (fix : Bool) (a : _) (c : ℕ) → IgnoresMarks (scan_blank fix a c)
unfolding scan_blank
ignores_scan_blank fix a c = search ignoring_parts

ignores_scan_char : (fix : Bool) (a : _) → IgnoresMarks (scan_char fix a)
unfolding scan_char
ignores_scan_char fix a = search (ignoring_parts, ignores_scan_blank)

ignores_scan_turn : (fix : Bool) (a : _) → IgnoresMarks (scan_turn fix a)
unfolding scan_turn on_step into_child_at is_inside is_editable_for out_on out_to_end
ignores_scan_turn fix a = search (ignoring_parts, ignores_scan_char)

ignores_scan_blanks : (fix : Bool) (p : Point) → IgnoresMarks (scan_blanks fix p)
unfolding scan_blanks first_scan
ignores_scan_blanks fix p = search (ignoring_parts, ignores_scan_turn)

ignores_trim_char : (a : _) → IgnoresMarks (trim_char a)
unfolding trim_char ends_softly
ignores_trim_char a = search ignoring_parts

ignores_trim_turn : (a : _) → IgnoresMarks (trim_turn a)
unfolding trim_turn trim_step into_child_before is_inside is_editable_for out_front out_to_start
ignores_trim_turn a = search (ignoring_parts, ignores_trim_char)

ignores_trimmed : (p : Point) (a : _) → IgnoresMarks (trimmed p a)
unfolding trimmed trims
ignores_trimmed p a = search (ignoring_parts, ignores_trim_turn)

ignores_trimmed_if : (fix : Bool) (p : Point) (a : _) → IgnoresMarks (trimmed_if fix p a)
unfolding trimmed_if
ignores_trimmed_if fix p a = search (ignoring_parts, ignores_trimmed)

ignores_put_space : (p : Point) (c space : ℕ) → IgnoresMarks (put_space p c space)
unfolding put_space
ignores_put_space p c space = search ignoring_parts

ignores_lay_char : (spaces : List ℕ) (a : _) (c : ℕ) → IgnoresMarks (lay_char spaces a c)
unfolding lay_char
ignores_lay_char spaces a c = search (ignoring_parts, ignores_put_space)

ignores_lay_out : (a : _) → IgnoresMarks (lay_out a)
unfolding lay_out
ignores_lay_out a = search ignoring_parts

ignores_lay_text : (spaces : List ℕ) (a : _) → IgnoresMarks (lay_text spaces a)
unfolding lay_text
ignores_lay_text spaces a = search (ignoring_parts, ignores_lay_out, ignores_lay_char)

ignores_lay_turn : (spaces : List ℕ) (a : _) → IgnoresMarks (lay_turn spaces a)
unfolding lay_turn
ignores_lay_turn spaces a = search (ignoring_parts, ignores_lay_text)

ignores_lay_all : (spaces : List ℕ) (start end : Point) → IgnoresMarks (lay_all spaces start end)
unfolding lay_all lays
ignores_lay_all spaces start end = search (ignoring_parts, ignores_lay_turn)

ignores_laid_between : (p : Point) (a : _) → IgnoresMarks (laid_between p a)
unfolding laid_between spaces_for
ignores_laid_between p a = search (ignoring_parts, ignores_lay_all)

ignores_canonicalize_from : (fix : Bool) (p : Point) → IgnoresMarks (canonicalize_from fix p)
unfolding canonicalize_from
ignores_canonicalize_from fix p = search (ignoring_parts, ignores_scan_blanks, ignores_trimmed_if, ignores_laid_between)

pub ignores_canonicalize : (fix : Bool) (p : Point) → IgnoresMarks (canonicalize fix p)
unfolding canonicalize is_inside is_editable_for start_of_blanks back_step into_child_before out_back out_to_start over_blank
ignores_canonicalize fix p = search (ignoring_parts, ignores_canonicalize_from)
