-- Insertions and moves by name, and loops of moves: the nodes of a list come to stand in its order
-- where they go.
use Rattle.std.specs.Prelude.{ℕ, List, [], Some, None, reverse, codes}
use Rattle.point_order.specs.DomModel.Forest.{parent_of, next_of, first_of, children_of}
use Rattle.edit_model.specs.Run.{Run, ◌>>◌, done, look, given, for_each, insert, move, remove, make_element}

-- n comes just before o, or just after it
unfoldable pub insert_before : ℕ → ℕ → Run (Unit {0})
insert_before o n = look λ s. given (parent_of s.trees o) done λ p. insert p (Some o) n >> done

unfoldable pub insert_after : ℕ → ℕ → Run (Unit {0})
insert_after o n =
    look λ s. given (parent_of s.trees o) done λ p. insert p (next_of s.trees o) n >> done

unfoldable pub make_break : Run ℕ
make_break = make_element (codes "br") []

-- n goes just before o, or just after it
unfoldable pub move_before : ℕ → ℕ → Run (Unit {0})
move_before o n = look λ s. given (parent_of s.trees o) done λ p. move n p (Some o) >> done

unfoldable pub move_after : ℕ → ℕ → Run (Unit {0})
move_after o n =
    look λ s. given (parent_of s.trees o) done λ p. move n p (next_of s.trees o) >> done

-- n becomes the first child of p, or the last one
unfoldable pub move_first : ℕ → ℕ → Run (Unit {0})
move_first p n = look λ s. move n p (first_of s.trees p) >> done

abbrev pub move_last : ℕ → ℕ → Run (Unit {0})
move_last p n = move n p None >> done

-- the nodes of a list go there: where each comes to stand behind the ones that went before, in
-- order, else in reverse order
unfoldable pub move_all_before : List ℕ → ℕ → Run (Unit {0})
move_all_before list o = for_each list (move_before o)

unfoldable pub move_all_after : List ℕ → ℕ → Run (Unit {0})
move_all_after list o = for_each (reverse list) (move_after o)

unfoldable pub move_all_first : List ℕ → ℕ → Run (Unit {0})
move_all_first list p = for_each (reverse list) (move_first p)

unfoldable pub move_each_last : List ℕ → ℕ → Run (Unit {0})
move_each_last list p = for_each list (move_last p)

-- the children of e go to just before it, and e goes
unfoldable pub unwrap : ℕ → Run (Unit {0})
unwrap e = look λ s. move_all_before (children_of s.trees e) e >> (remove e >> done)
