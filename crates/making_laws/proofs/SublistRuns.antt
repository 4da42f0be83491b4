-- Normalizing sublists is tame.
use Rattle.std.proofs.Common.{ℕ, [], Option}
use Rattle.std.specs.Prelude.{codes}
use Rattle.edit_model.specs.Run.{make_element}
use Rattle.list_indent.specs.Sublists.{make_follower, follower_of, handed_on, part_last, normalize_sublists}
use Rattle.making_laws.specs.Tame.{Tame}
use Rattle.making_laws.proofs.TameRuns.{made_li, tame_make, tame_move_after, tame_move_first, tame_moves, tame_parts}

tame_new : Tame (make_element (codes "li") [])
tame_new = tame_make (codes "li") [] made_li tt

tame_follower : (item : ℕ) (follower : Option ℕ) → Tame (follower_of item follower)
unfolding follower_of make_follower
tame_follower item follower = search (tame_parts, tame_moves, tame_new)

tame_handed : (c n : ℕ) → Tame (handed_on c n)
unfolding handed_on
tame_handed c n = search (tame_parts, tame_move_first)

tame_last : (item : ℕ) (follower : Option ℕ) → Tame (part_last item follower)
unfolding part_last
tame_last item follower = search (tame_parts, tame_move_after, tame_follower, tame_handed) depth 9

pub tame_normalize : (n : ℕ) → Tame (normalize_sublists n)
unfolding normalize_sublists
tame_normalize n = search (tame_parts, tame_last) depth 9
