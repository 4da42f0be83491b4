-- Moves, and the compositions of edits that standards name, are the same whether the command keeps contents or not, where nothing is
-- taken out that is kept.
use Rattle.std.proofs.Common.{ℕ, List}
use Rattle.edit_model.specs.Moves.{insert_before, insert_after, make_break, move_before, move_after, move_first, move_all_before, move_all_after, move_all_first, move_each_last, unwrap}
use Rattle.edit_model.specs.Compositions.{set_tag_name, renamed}
use Rattle.edit_model.specs.Confined.{is_editable_for}
use Rattle.caret_laws.proofs.SparingRuns.{Alike, alike_parts}

-- ---- insertions and moves

pub alike_insert_before : (o n : ℕ) → Alike (insert_before o n)
unfolding insert_before
alike_insert_before o n = search alike_parts

pub alike_insert_after : (o n : ℕ) → Alike (insert_after o n)
unfolding insert_after
alike_insert_after o n = search alike_parts

pub alike_make_break : Alike make_break
unfolding make_break
alike_make_break = search alike_parts

pub alike_move_before : (o n : ℕ) → Alike (move_before o n)
unfolding move_before
alike_move_before o n = search alike_parts

pub alike_move_after : (o n : ℕ) → Alike (move_after o n)
unfolding move_after
alike_move_after o n = search alike_parts

pub alike_move_first : (p n : ℕ) → Alike (move_first p n)
unfolding move_first
alike_move_first p n = search alike_parts

pub alike_move_all_before : (list : List ℕ) (o : ℕ) → Alike (move_all_before list o)
unfolding move_all_before
alike_move_all_before list o = search (alike_parts, alike_move_before)

pub alike_move_all_after : (list : List ℕ) (o : ℕ) → Alike (move_all_after list o)
unfolding move_all_after
alike_move_all_after list o = search (alike_parts, alike_move_after)

pub alike_move_all_first : (list : List ℕ) (p : ℕ) → Alike (move_all_first list p)
unfolding move_all_first
alike_move_all_first list p = search (alike_parts, alike_move_first)

pub alike_move_each_last : (list : List ℕ) (p : ℕ) → Alike (move_each_last list p)
unfolding move_each_last
alike_move_each_last list p = search alike_parts

pub alike_unwrap : (e : ℕ) → Alike (unwrap e)
unfolding unwrap
alike_unwrap e = search (alike_parts, alike_move_all_before)

-- ---- setting a tag name

pub alike_set_tag_name : (e : ℕ) (name : List ℕ) → Alike (set_tag_name e name)
unfolding set_tag_name is_editable_for renamed
alike_set_tag_name e name = search (alike_parts, alike_move_each_last) depth 9
