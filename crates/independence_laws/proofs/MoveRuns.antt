-- Moves, and the compositions of edits that standards name, ignore marks and the cap.
use Rattle.std.proofs.Common.{ℕ, Bool, List}
use Rattle.edit_model.specs.Moves.{insert_before, insert_after, make_break, move_before, move_after, move_first, move_all_before, move_all_after, move_all_first, move_each_last, unwrap}
use Rattle.edit_model.specs.Compositions.{points_sent, split_words, split_under, set_tag_name, renamed}
use Rattle.edit_model.specs.Confined.{is_editable_for}
use Rattle.independence_laws.specs.Ignoring.{IgnoresMarks}
use Rattle.independence_laws.proofs.IgnoringRuns.{ignoring_parts}

-- ---- insertions and moves

pub ignores_insert_before : (o n : ℕ) → IgnoresMarks (insert_before o n)
unfolding insert_before
ignores_insert_before o n = search ignoring_parts

pub ignores_insert_after : (o n : ℕ) → IgnoresMarks (insert_after o n)
unfolding insert_after
ignores_insert_after o n = search ignoring_parts

pub ignores_make_break : IgnoresMarks make_break
unfolding make_break
ignores_make_break = search ignoring_parts

pub ignores_move_before : (o n : ℕ) → IgnoresMarks (move_before o n)
unfolding move_before
ignores_move_before o n = search ignoring_parts

pub ignores_move_after : (o n : ℕ) → IgnoresMarks (move_after o n)
unfolding move_after
ignores_move_after o n = search ignoring_parts

pub ignores_move_first : (p n : ℕ) → IgnoresMarks (move_first p n)
unfolding move_first
ignores_move_first p n = search ignoring_parts

pub ignores_move_all_before : (list : List ℕ) (o : ℕ) → IgnoresMarks (move_all_before list o)
unfolding move_all_before
ignores_move_all_before list o = search (ignoring_parts, ignores_move_before)

pub ignores_move_all_after : (list : List ℕ) (o : ℕ) → IgnoresMarks (move_all_after list o)
unfolding move_all_after
ignores_move_all_after list o = search (ignoring_parts, ignores_move_after)

pub ignores_move_all_first : (list : List ℕ) (p : ℕ) → IgnoresMarks (move_all_first list p)
unfolding move_all_first
ignores_move_all_first list p = search (ignoring_parts, ignores_move_first)

pub ignores_move_each_last : (list : List ℕ) (p : ℕ) → IgnoresMarks (move_each_last list p)
unfolding move_each_last
ignores_move_each_last list p = search ignoring_parts

pub ignores_unwrap : (e : ℕ) → IgnoresMarks (unwrap e)
unfolding unwrap
ignores_unwrap e = search (ignoring_parts, ignores_move_all_before)

-- ---- splitting a text, and setting a tag name

ignores_points_sent : (p i n at tail : ℕ) (inserted : Bool) → IgnoresMarks (points_sent p i n at tail inserted)
unfolding points_sent
ignores_points_sent p i n at tail inserted = search ignoring_parts

pub ignores_split_words : (n at : ℕ) → IgnoresMarks (split_words n at)
unfolding split_words split_under
ignores_split_words n at = search (ignoring_parts, ignores_points_sent) depth 8

pub ignores_set_tag_name : (e : ℕ) (name : List ℕ) → IgnoresMarks (set_tag_name e name)
unfolding set_tag_name is_editable_for renamed
ignores_set_tag_name e name = search (ignoring_parts, ignores_move_each_last) depth 9
