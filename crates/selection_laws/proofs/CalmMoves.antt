-- Moves, and setting a tag name, place no point by themselves.
use Rattle.edit_model.specs.Compositions.{renamed, set_tag_name}
use Rattle.edit_model.specs.Moves.{insert_after, insert_before, make_break, move_after, move_all_after, move_all_before, move_all_first, move_before, move_each_last, move_first, unwrap}
use Rattle.edit_laws.proofs.HostRuns.{Calm, calm_parts}

pub calm_insert_before : (o : _) (n : _) → Calm (insert_before o n)
unfolding insert_before
calm_insert_before o n = search calm_parts

pub calm_insert_after : (o : _) (n : _) → Calm (insert_after o n)
unfolding insert_after
calm_insert_after o n = search calm_parts

pub calm_make_break : Calm make_break
unfolding make_break
calm_make_break = search calm_parts

pub calm_move_before : (o : _) (n : _) → Calm (move_before o n)
unfolding move_before
calm_move_before o n = search calm_parts

pub calm_move_after : (o : _) (n : _) → Calm (move_after o n)
unfolding move_after
calm_move_after o n = search calm_parts

pub calm_move_first : (p : _) (n : _) → Calm (move_first p n)
unfolding move_first
calm_move_first p n = search calm_parts

pub calm_move_all_before : (list : _) (o : _) → Calm (move_all_before list o)
unfolding move_all_before
calm_move_all_before list o = search (calm_parts, calm_move_before)

pub calm_move_all_after : (list : _) (o : _) → Calm (move_all_after list o)
unfolding move_all_after
calm_move_all_after list o = search (calm_parts, calm_move_after)

pub calm_move_all_first : (list : _) (p : _) → Calm (move_all_first list p)
unfolding move_all_first
calm_move_all_first list p = search (calm_parts, calm_move_first)

pub calm_move_each_last : (list : _) (p : _) → Calm (move_each_last list p)
unfolding move_each_last
calm_move_each_last list p = search calm_parts

pub calm_unwrap : (e : _) → Calm (unwrap e)
unfolding unwrap
calm_unwrap e = search (calm_parts, calm_move_all_before)

pub calm_renamed : (p : _) (s : _) (e : _) (name : _) → Calm (renamed p s e name)
unfolding renamed
calm_renamed p s e name = search (calm_parts, calm_move_each_last) depth 10

pub calm_set_tag_name : (e : _) (name : _) → Calm (set_tag_name e name)
unfolding set_tag_name
calm_set_tag_name e name = search (calm_parts, calm_renamed)
