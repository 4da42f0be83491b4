-- Wrapping a list of siblings (HTML Editing APIs, "wrap"). The steps are those of
-- docs/ALGORITHMS.md.
use Rattle.std.specs.Prelude.{ℕ, zero, suc, Bool, true, false, ◌&&◌, not, List, [], ◌∷◌, ◌++◌, Option, Some, None, if◌then◌else◌, is_none}
use Rattle.edit_model.specs.DomModel.Forest.{either, parent_of, prev_of, next_of, children_of, first_of, last_of, first_in, last_in}
use Rattle.edit_model.specs.DomModel.Places.{index_of}
use Rattle.command_value.specs.NodeStyles.Blocks.{is_block}
use Rattle.edit_model.specs.PointOrder.PointOrder.{is_earlier}
use Rattle.edit_model.specs.State.{State}
use Rattle.edit_model.specs.Confined.{is_editable_for}
use Rattle.edit_model.specs.DomModel.Contents.{is_break}
use Rattle.edit_model.specs.Moves.{move_all_first, move_each_last, insert_before, make_break}
use Rattle.edit_model.specs.Run.{Run, ◌>>=◌, ◌>>◌, answer, done, look, given, insert, remove, grow}
use Rattle.wrap_split.specs.declared.rule.Criterion.{Criterion}
use Rattle.wrap_split.specs.declared.rule.Recipe.{Recipe}
use Rattle.wrap_split.specs.Walks.{turn_bound, is_invisible}
use Rattle.edit_actions.specs.Siblings.{first_parent, members}
use Rattle.wrap_split.specs.Breaks.{breaks_from}
use Rattle.wrap_split.specs.Target.{if_fits, target}

-- ---- the list that is wrapped

-- wrap, step 2: every member is invisible, and none is a br
unfoldable pub all_hidden : State → List ℕ → Bool
all_hidden s [] = true
all_hidden s (x ∷ xs) = (is_invisible s x && not (is_break s.trees x)) && all_hidden s xs

abbrev pub if_break : State → Option ℕ → Option ℕ
if_break s None = None
if_break s (Some b) = if is_break s.trees b then Some b else None

-- wrap, step 3: the br after an inline node that is no br
unfoldable pub break_next : State → ℕ → Option ℕ
break_next s z = if not (is_block s.trees z) && not (is_break s.trees z) then
    if_break s (next_of s.trees z) else None

abbrev pub if_hidden : State → Option ℕ → Option ℕ
if_hidden s None = None
if_hidden s (Some q) = if is_invisible s q then Some q else None

abbrev pub list_on : Option ℕ → List ℕ → (ℕ → List ℕ) → List ℕ
list_on None list on = list
list_on (Some q) list on = on q

-- wrap, step 4: the invisible nodes before a come before the list, one a turn; and those after z
unfoldable pub extended_front : State → ℕ → ℕ → List ℕ → List ℕ
extended_front s zero a list = list
extended_front s (suc n) a list =
    list_on (if_hidden s (prev_of s.trees a)) list λ q. extended_front s n q (q ∷ list)

-- wrap, step 4: the invisible nodes after z, one a turn
unfoldable pub hidden_after : State → ℕ → ℕ → List ℕ
hidden_after s zero z = []
hidden_after s (suc n) z = list_on (if_hidden s (next_of s.trees z)) [] λ q. q ∷ hidden_after s n q

abbrev pub one_of : Option ℕ → List ℕ
one_of None = []
one_of (Some b) = b ∷ []

-- wrap, step 3: the list with that br
unfoldable pub with_break : State → List ℕ → ℕ → List ℕ
with_break s list z = list ++ one_of (break_next s z)

-- wrap, step 4: the list with the invisible nodes before it
unfoldable pub extended : State → List ℕ → ℕ → List ℕ
extended s list a = extended_front s (turn_bound s) a list

-- wrap, step 4: the list with the invisible nodes after its last member
unfoldable pub extended_back : State → List ℕ → List ℕ
extended_back s list = list_on (last_in list) list λ z. list ++ hidden_after s (turn_bound s) z

-- wrap, steps 3 and 4: with the br after it, and the invisible nodes on both sides
unfoldable pub widened : State → List ℕ → ℕ → ℕ → List ℕ
widened s list a z = extended_back s (extended s (with_break s list z) a)

-- ---- moving it into p

unfoldable pub first_visible : State → List ℕ → Option ℕ
first_visible s [] = None
first_visible s (x ∷ xs) = if is_invisible s x then first_visible s xs else Some x

unfoldable pub last_visible : State → List ℕ → Option ℕ
last_visible s [] = None
last_visible s (x ∷ xs) = either (last_visible s xs) (if is_invisible s x then None else Some x)

-- there, and inline
abbrev pub is_inline : State → Option ℕ → Bool
is_inline s None = false
is_inline s (Some x) = not (is_block s.trees x)

-- there, and no br
abbrev pub is_other : State → Option ℕ → Bool
is_other s None = false
is_other s (Some x) = not (is_break s.trees x)

-- wrap, steps 8 and 11: a new br at the end of p
unfoldable pub append_break : ℕ → Run (Unit {0})
append_break p = make_break >>= λ x. insert p None x >> done

-- wrap, step 9: a new br as the first child of p
unfoldable pub prepend_break : ℕ → Run (Unit {0})
prepend_break p = make_break >>= λ x. look λ s. insert p (first_of s.trees p) x >> done

-- wrap, steps 8 and 11: whether a br has to part what p ends with from what comes after it there
unfoldable pub needs_br : State → ℕ → Option ℕ → Option ℕ → Bool
needs_br s p before after =
    is_block s.trees p
    && (is_inline s before && (is_inline s after && is_other s (last_of s.trees p)))

-- wrap, step 9: and what p begins with from the list that comes before it there
unfoldable pub joins_front : State → ℕ → List ℕ → Bool
joins_front s p list =
    is_block s.trees p
    && (is_inline s (first_visible s (children_of s.trees p))
    && (is_inline s (last_visible s list) && is_other s (last_in list)))

-- wrap, steps 8 and 11
unfoldable pub separate_with_br : ℕ → Option ℕ → Option ℕ → Run (Unit {0})
separate_with_br p before after =
    look λ s. if needs_br s p before after then append_break p else done

-- wrap, step 8
unfoldable pub append_all : ℕ → List ℕ → Run (Unit {0})
append_all p list = look λ s.
    separate_with_br p (last_visible s (children_of s.trees p)) (first_visible s list)
    >> move_each_last list p

-- wrap, step 9
unfoldable pub parted_front : ℕ → List ℕ → Run (Unit {0})
parted_front p list = look λ s. if joins_front s p list then prepend_break p else done

-- wrap, step 9
unfoldable pub prepend_all : ℕ → List ℕ → Run (Unit {0})
prepend_all p list = parted_front p list >> move_all_first list p

-- wrap, steps 8 and 9: a is the first member
unfoldable pub moved_in : ℕ → List ℕ → ℕ → Run (Unit {0})
moved_in p list a =
    look λ s. if is_earlier s.trees p a then append_all p list else prepend_all p list

-- ---- the whole

-- wrap, step 6: the points at the place of p come after it
unfoldable pub grow_at : ℕ → Run (Unit {0})
grow_at p = look λ s. given (parent_of s.trees p) done λ q.
    grow (record { label = q; offset = index_of s.trees p })

-- wrap, step 6: a p without a parent is put before a; points there then come after it
unfoldable pub insert_if_loose : ℕ → ℕ → Run (Unit {0})
insert_if_loose p a =
    look λ s. if is_none (parent_of s.trees p) then (insert_before a p >> grow_at p) else done

-- wrap, step 10
unfoldable pub drop_empty : ℕ → Run (Unit {0})
drop_empty o =
    look λ s. if is_editable_for s o && is_none (first_of s.trees o) then remove o >> done else done

-- wrap, step 10, with the first member's former parent, if there was one
unfoldable pub drop_parent : Option ℕ → Run (Unit {0})
drop_parent o = given o done drop_empty

-- wrap, step 11: the children of q go to the end of p, in order
unfoldable pub move_children : ℕ → ℕ → Run (Unit {0})
move_children p q = look λ s. move_each_last (children_of s.trees q) p

-- wrap, step 11: the children of q, the sibling after p, go to the end of p, and q goes
unfoldable pub merged : ℕ → ℕ → Run (Unit {0})
merged p q = look λ s. do
  separate_with_br p (last_of s.trees p) (first_of s.trees q)
  move_children p q
  remove q
  done

-- wrap, step 11
unfoldable pub merge_next : Criterion → ℕ → Run (Unit {0})
merge_next c p = look λ s. given (if_fits c s (next_of s.trees p)) done (merged p)

-- wrap, steps 8 to 12, where o was the parent of the first member
unfoldable pub filled_from : Criterion → ℕ → List ℕ → ℕ → Option ℕ → Run (Option ℕ)
filled_from c p list a o = do
  moved_in p list a
  drop_parent o
  merge_next c p
  breaks_from p
  answer (Some p)

-- wrap, steps 6 and 7, and then from 8 on
unfoldable pub filled : Criterion → ℕ → List ℕ → ℕ → Run (Option ℕ)
filled c p list a = insert_if_loose p a >> look λ s. filled_from c p list a (parent_of s.trees a)

-- wrap, from step 6 on, where step 5 gave a node; otherwise the answer is none
unfoldable pub into_target : Criterion → List ℕ → ℕ → Option ℕ → Run (Option ℕ)
into_target c list a p = given p (answer None) λ q. filled c q list a

-- wrap, step 5, and then from 6 on
unfoldable pub wrap_ends : Criterion → Recipe → List ℕ → ℕ → ℕ → Run (Option ℕ)
wrap_ends c r list a z = target c r a z >>= into_target c list a

-- wrap, from step 5 on, with the first and the last member of the widened list
unfoldable pub wrap_list : Criterion → Recipe → List ℕ → Run (Option ℕ)
wrap_list c r list =
    given (first_in list) (answer None) λ a. given (last_in list) (answer None) λ z.
    wrap_ends c r list a z

-- wrap, steps 2 to 4, and then from 5 on
unfoldable pub wrap_members : Criterion → Recipe → List ℕ → Run (Option ℕ)
wrap_members c r list = look λ s.
    given (first_in list) (answer None) λ a. given (last_in list) (answer None) λ z.
    if all_hidden s list then answer None else wrap_list c r (widened s list a z)

-- wrap, step 1: of the list, those that have a parent, and the same parent as the first of them,
-- are taken
unfoldable pub wrap : Criterion → Recipe → List ℕ → Run (Option ℕ)
wrap c r list =
    look λ s. given (first_parent s list) (answer None) λ o. wrap_members c r (members s o list)
