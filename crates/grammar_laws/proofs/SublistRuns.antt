-- Normalizing sublists keeps to the grammar.
use Rattle.std.proofs.Common.{ℕ, [], Option}
use Rattle.std.specs.Prelude.{codes}
use Rattle.edit_model.specs.Run.{make_element}
use Rattle.list_indent.specs.Sublists.{make_follower, follower_of, handed_on, part_last, normalize_sublists}
use Rattle.grammar_laws.specs.Runs.{Proper}
use Rattle.grammar_laws.proofs.Lists.{list_none}
use Rattle.making_laws.proofs.TameRuns.{made_li}
use Rattle.grammar_laws.proofs.ProperRuns.{proper_make, proper_move_after, proper_move_first, proper_moves, proper_parts}

proper_new : Proper (make_element (codes "li") [])
proper_new = proper_make (codes "li") [] made_li list_none

proper_follower : (item : ℕ) (follower : Option ℕ) → Proper (follower_of item follower)
unfolding follower_of make_follower
proper_follower item follower = search (proper_parts, proper_moves, proper_new)

proper_handed : (c n : ℕ) → Proper (handed_on c n)
unfolding handed_on
proper_handed c n = search (proper_parts, proper_move_first)

proper_last : (item : ℕ) (follower : Option ℕ) → Proper (part_last item follower)
unfolding part_last
proper_last item follower = search (proper_parts, proper_move_after, proper_follower, proper_handed) depth 9

pub proper_normalize : (n : ℕ) → Proper (normalize_sublists n)
unfolding normalize_sublists
proper_normalize n = search (proper_parts, proper_last) depth 9
