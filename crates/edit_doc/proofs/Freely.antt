-- An edit that a command may make is one that the trees allow.
use Rattle.std.proofs.Common.{◌≡◌, ℕ, true, true≢false, Bool, ◌||◌, not, eqb, Option, Some, None, refl, sym}
use Rattle.std.specs.Prelude.{is_none}
use Rattle.std.proofs.lemmas.Bool.{and_parts}
use Rattle.edit_model.specs.DomModel.Contents.{is_parent_at, is_break}
use Rattle.edit_model.specs.DomModel.Forest.{parent_of}
use Rattle.edit_model.specs.PointOrder.PointOrder.{is_within}
use Rattle.edit_model.specs.State.{State}
use Rattle.edit_model.specs.Confined.{is_open, is_own, is_there, is_place, may_leave, may_go, may_insert, may_remove, may_move, may_replace, may_set, may_unset}
use Rattle.edit_model.specs.Edit.{Edit, Insert, Remove, Move, Replace, Set, Unset, is_made_edit}
use Rattle.edit_model.specs.Possible.{freed}
use Rattle.edit_model.proofs.TailPossible.{both, freed_open, freed_own}

own_or : (s : State) (n : ℕ) (b : Bool) → (is_own (freed s) n || b) ≡ true
own_or s n b = rw (freed_own s n) refl

freed_insert : (s : State) (p : ℕ) (b : Option ℕ) (n : ℕ) → may_insert s p b n ≡ true → may_insert (freed s) p b n ≡ true
unfolding may_insert
freed_insert s p b n h =
    let f = s.trees in
    let h1 = and_parts (is_there f n) _ h in
    let h2 = and_parts (not (eqb n 0)) _ h1.1 in
    let h3 = and_parts (is_none (parent_of f n)) _ h2.1 in
    let h4 = and_parts (is_parent_at f p) _ h3.1 in
    let h5 = and_parts (not (is_within f n p)) _ h4.1 in
    let h6 = and_parts (is_place f p b n) (is_open s p) h5.1 in
    both h1.0 (both h2.0 (both h3.0 (both h4.0 (both h5.0 (both h6.0 (freed_open s p))))))

freed_leave : (s : State) (n : ℕ) (o : Option ℕ) → may_leave s n o ≡ true → may_leave (freed s) n o ≡ true
freed_leave s n None h = absurd (true≢false (sym h))
freed_leave s n (Some p) h =
    let h1 = and_parts (is_open s p) _ h in
    both (freed_open s p) (both (own_or s n (is_break s.trees n)) (and_parts (is_own s n || is_break s.trees n) _ h1.1).1)

freed_go : (s : State) (n : ℕ) (o : Option ℕ) (p : ℕ) (b : Option ℕ) → may_go s n o p b ≡ true → may_go (freed s) n o p b ≡ true
freed_go s n None p b h = absurd (true≢false (sym h))
freed_go s n (Some o) p b h =
    let h1 = and_parts (is_open s o) _ h in
    both (freed_open s o) (both (freed_open s p) (and_parts (is_open s p) _ h1.1).1)

pub freed_edit : (e : Edit) (s : State) → is_made_edit e s ≡ true → is_made_edit e (freed s) ≡ true
unfolding is_made_edit may_remove may_move may_replace may_set may_unset
freed_edit (Insert p b n) s h = freed_insert s p b n h
freed_edit (Remove n) s h = freed_leave s n (parent_of s.trees n) h
freed_edit (Move n p b) s h = freed_go s n (parent_of s.trees n) p b h
freed_edit (Replace n at count put) s h = both (freed_own s n) (and_parts (is_own s n) _ h).1
freed_edit (Set n name value) s h = both (freed_own s n) (and_parts (is_own s n) _ h).1
freed_edit (Unset n name) s h = both (freed_own s n) (and_parts (is_own s n) _ h).1
