-- Moves, and insertions of nodes that are there, leave the states of contenteditable.
use Rattle.std.proofs.Common.{ℕ, List, refl}
use Rattle.edit_model.specs.Moves.{insert_before, insert_after, move_before, move_after, move_first, move_all_before, move_all_after, move_all_first, move_each_last, make_break}
use Rattle.edit_laws.specs.Steady.{Steady}
use Rattle.edit_laws.proofs.SteadyRuns.{steady_parts, steady_make_element}

pub steady_insert_before : (o n : ℕ) → Steady (insert_before o n)
unfolding insert_before
steady_insert_before o n = search steady_parts

pub steady_insert_after : (o n : ℕ) → Steady (insert_after o n)
unfolding insert_after
steady_insert_after o n = search steady_parts

pub steady_move_before : (o n : ℕ) → Steady (move_before o n)
unfolding move_before
steady_move_before o n = search steady_parts

pub steady_move_after : (o n : ℕ) → Steady (move_after o n)
unfolding move_after
steady_move_after o n = search steady_parts

pub steady_move_first : (p n : ℕ) → Steady (move_first p n)
unfolding move_first
steady_move_first p n = search steady_parts

pub steady_all_before : (list : List ℕ) (o : ℕ) → Steady (move_all_before list o)
unfolding move_all_before
steady_all_before list o = search (steady_parts, steady_move_before)

pub steady_all_after : (list : List ℕ) (o : ℕ) → Steady (move_all_after list o)
unfolding move_all_after
steady_all_after list o = search (steady_parts, steady_move_after)

pub steady_all_first : (list : List ℕ) (p : ℕ) → Steady (move_all_first list p)
unfolding move_all_first
steady_all_first list p = search (steady_parts, steady_move_first)

pub steady_each_last : (list : List ℕ) (p : ℕ) → Steady (move_each_last list p)
unfolding move_each_last
steady_each_last list p = search steady_parts

pub steady_break : Steady make_break
unfolding make_break
steady_break = steady_make_element _ _ refl

pub ruleset steady_moves = (steady_insert_before, steady_insert_after, steady_move_before, steady_all_before, steady_all_after, steady_all_first, steady_each_last, steady_break)
