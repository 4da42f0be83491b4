-- Splitting the parent of a list leaves the states of contenteditable: the parent is copied only where it is editable.
use Rattle.std.proofs.Common.{◌≡◌, ℕ, Bool, true, false, ◌&&◌, ◌||◌, not, if◌then◌else◌, List, is_none, refl, sym, ap, ◌∙◌, true≢false}
use Rattle.std.specs.Prelude.{codes}
use Rattle.edit_model.specs.DomModel.Forest.{first_in, parent_of, children_of}
use Rattle.inline_value.specs.NodeTests.LineBreaks.{follows_break, precedes_break}
use Rattle.edit_model.specs.State.{State}
use Rattle.edit_model.specs.Compositions.{tag_of, attribute_list_of}
use Rattle.edit_model.specs.Confined.{is_editable_for}
use Rattle.edit_model.specs.Valid.{IsValid}
use Rattle.edit_model.specs.Moves.{insert_before, move_all_before, move_each_last}
use Rattle.edit_model.specs.Run.{Reaches, here, onward, reaches_trans, Run, final, value, ◌>>=◌, ◌>>◌, done, look, make_element, unset_attribute}
use Rattle.edit_model.proofs.ValidRuns.{valid_along}
use Rattle.edit_model.proofs.Steps.{final-answer, final-look}
use Rattle.edit_laws.specs.Steady.{SteadyOn, Steady}
use Rattle.edit_laws.proofs.SteadyRuns.{steady_parts, steady_answer, steady_bind, steady_copy}
use Rattle.inline_value.specs.EditActions.Siblings.{starts_in, ends_in, has, until}
use Rattle.inline_value.specs.WrapSplit.Breaks.{breaks_before, breaks_at_end, breaks_from}
use Rattle.inline_value.specs.WrapSplit.Split.{break_before, break_after, clear_before, copied, copy_front, drop_first_break, close, tidy_after, split_end, split_rest, split_marked, is_void_thing, split_at, split_members, split_parent, split_around, remove_keeping_children}
use Rattle.command_laws.proofs.Cleared.{cleared}
use Rattle.command_laws.proofs.SteadyMoves.{steady_moves}

-- ---- a run from a state

abbrev pub At : {T : Type 0} → State → Run T → Type 0
At s m = SteadyOn (m.by_actions s)

leaves_trans : {s t u : State} (p : Reaches s t) (q : Reaches t u) → SteadyOn p → SteadyOn q → SteadyOn (reaches_trans p q)
unfolding reaches_trans
leaves_trans p here h k = h
leaves_trans p (onward q a) h k = (leaves_trans p q h k.0, k.1)

pub at_bind : {A B : Type 0} (m : Run A) (k : A → Run B) (s : State) → At s m → At (final m s) (k (value m s)) → At s (m >>= k)
unfolding ◌>>=◌ final value
at_bind m k s h g = leaves_trans (m.by_actions s) ((k (m.run s).1).by_actions (m.run s).0) h g

pub at_look : {A : Type 0} (k : State → Run A) (s : State) → At s (k s) → At s (look k)
unfolding look
at_look k s h = h

pub valid_final : {T : Type 0} (m : Run T) (s : State) → IsValid s → IsValid (final m s)
unfolding final
valid_final m s is = valid_along (m.by_actions s) is

-- ---- line breaks

pub steady_breaks_before : (n : ℕ) → Steady (breaks_before n)
unfolding breaks_before
steady_breaks_before n = search steady_parts depth 9

pub steady_breaks_at_end : (n : ℕ) → Steady (breaks_at_end n)
unfolding breaks_at_end
steady_breaks_at_end n = search steady_parts depth 9

pub steady_breaks_from : (n : ℕ) → Steady (breaks_from n)
unfolding breaks_from
steady_breaks_from n = search (steady_parts, steady_breaks_before, steady_breaks_at_end)

-- ---- the parts that copy nothing

steady_break_before : (wanted : Bool) (a : ℕ) → Steady (break_before wanted a)
unfolding break_before
steady_break_before wanted a = search (steady_parts, steady_moves)

steady_break_after : (wanted : Bool) (z : ℕ) → Steady (break_after wanted z)
unfolding break_after
steady_break_after wanted z = search (steady_parts, steady_moves)

steady_clear_before : (o : ℕ) (list : List ℕ) → Steady (clear_before o list)
unfolding clear_before
steady_clear_before o list = search (steady_parts, steady_breaks_before)

steady_drop_first : (o z : ℕ) → Steady (drop_first_break o z)
unfolding drop_first_break
steady_drop_first o z = search steady_parts depth 9

steady_close : (o z : ℕ) (wanted : Bool) → Steady (close o z wanted)
unfolding close
steady_close o z wanted = search (steady_parts, steady_break_after, steady_breaks_before)

steady_tidy : (z : ℕ) → Steady (tidy_after z)
unfolding tidy_after
steady_tidy z = search (steady_parts, steady_breaks_at_end)

steady_end : (o : ℕ) (list : List ℕ) (z : ℕ) (wanted : Bool) → Steady (split_end o list z wanted)
unfolding split_end
steady_end o list z wanted = search (steady_parts, steady_moves, steady_break_after, steady_breaks_at_end)

tail : (o : ℕ) (list : List ℕ) (a z : ℕ) (before after : Bool) → Run (Unit {0})
tail o list a z before after = do
  move_all_before list o
  break_before before a
  drop_first_break o z
  close o z after
  tidy_after z

steady_tail : (o : ℕ) (list : List ℕ) (a z : ℕ) (before after : Bool) → Steady (tail o list a z before after)
unfolding tail
steady_tail o list a z before after = search (steady_parts, steady_moves, steady_break_before, steady_drop_first, steady_close, steady_tidy)

-- ---- the copy

copied_at : (o a : ℕ) (s : State) → IsValid s → is_editable_for s o ≡ true → At s (copied o a)
unfolding copied
copied_at o a s is editable = at_look _ s (run.leaves s is)
  where
    steady_rest : (x : ℕ) → Steady (unset_attribute o (codes "id") >> (insert_before o x >> move_each_last (until a (children_of s.trees o)) x))
    steady_rest x = search (steady_parts, steady_moves)

    run : Steady (make_element (tag_of s.trees o) (attribute_list_of s.trees o) >>= (λ x. unset_attribute o (codes "id") >> (insert_before o x >> move_each_last (until a (children_of s.trees o)) x)))
    run = steady_bind (make_element (tag_of s.trees o) (attribute_list_of s.trees o)) _ (steady_copy s o (tag_of s.trees o) is editable) steady_rest

front_at : (o : ℕ) (list : List ℕ) (a : ℕ) (s : State) → IsValid s → (starts_in s o list ≡ false → is_editable_for s o ≡ true) → At s (copy_front o list a)
unfolding copy_front
front_at o list a s is ready = at_look _ s (by_start (starts_in s o list) refl)
  where
    by_start : (v : Bool) → starts_in s o list ≡ v → At s (if v then done else copied o a)
    by_start true e = (steady_answer tt).leaves s is
    by_start false e = copied_at o a s is (ready e)

rest_at : (o : ℕ) (list : List ℕ) (a z : ℕ) (before after : Bool) (s : State) → IsValid s → (starts_in s o list ≡ false → is_editable_for s o ≡ true) → At s (split_rest o list a z before after)
unfolding split_rest tail
rest_at o list a z before after s is ready =
    at_bind (copy_front o list a) (λ _. tail o list a z before after) s (front_at o list a s is ready)
    ((steady_tail o list a z before after).leaves (final (copy_front o list a) s) (valid_final (copy_front o list a) s is))

marked_at : (o : ℕ) (list : List ℕ) (a z : ℕ) (s : State) → IsValid s → (starts_in s o list ≡ false → is_editable_for s o ≡ true) → At s (split_marked o list a z)
unfolding split_marked
marked_at o list a z s is ready =
    at_look _ s (by_ends (not (starts_in s o list) && ends_in s o list) (starts_in s o list && follows_break s.trees o) (ends_in s o list && precedes_break s.trees o))
  where
    by_ends : (v before after : Bool) → At s (if v then split_end o list z after else split_rest o list a z before after)
    by_ends true before after = (steady_end o list z after).leaves s is
    by_ends false before after = rest_at o list a z before after s is ready

-- after the line breaks before o are gone, it is copied only if it wasn't touched
still_editable : (o : ℕ) (list : List ℕ) (s : State) → IsValid s → is_editable_for s o ≡ true → starts_in (final (clear_before o list) s) o list ≡ false → is_editable_for (final (clear_before o list) s) o ≡ true
unfolding clear_before starts_in
still_editable o list s is editable = by_start (starts_in s o list) refl
  where
    same : (xs ys : List ℕ) → ys ≡ xs → has list (first_in xs) ≡ true → has list (first_in ys) ≡ true
    same xs ys e h = ap (λ l. has list (first_in l)) e ∙ h

    still : starts_in s o list ≡ true → starts_in (final (breaks_before o) s) o list ≡ true
    still e = same (children_of s.trees o) (children_of (final (breaks_before o) s).trees o) (cleared o s is).children e

    by_start : (v : Bool) → starts_in s o list ≡ v
        → starts_in (final (look λ t. if starts_in t o list then breaks_before o else done) s) o list ≡ false → is_editable_for (final (look λ t. if starts_in t o list then breaks_before o else done) s) o ≡ true
    by_start false e = rw (final-look, e, final-answer) (λ _. editable)
    by_start true e = rw (final-look, e) (λ none. absurd (true≢false (sym (still e) ∙ none)))

steady_at : (o : ℕ) (list : List ℕ) (a z : ℕ) → Steady (split_at o list a z)
unfolding split_at
steady_at o list a z = record { leaves = λ s is. at_look _ s (by_test s is (is_editable_for s o) (is_none (parent_of s.trees o) || is_void_thing s o) refl) }
  where
    by_test : (s : State) → IsValid s → (v w : Bool) → is_editable_for s o ≡ v → At s (if not v || w then done else (clear_before o list >> split_marked o list a z))
    by_test s is false w e = (steady_answer tt).leaves s is
    by_test s is true true e = (steady_answer tt).leaves s is
    by_test s is true false e =
        at_bind (clear_before o list) (λ _. split_marked o list a z) s ((steady_clear_before o list).leaves s is)
        (marked_at o list a z (final (clear_before o list) s) (valid_final (clear_before o list) s is) (still_editable o list s is e))

-- ---- of a list

steady_members : (o : ℕ) (list : List ℕ) → Steady (split_members o list)
unfolding split_members
steady_members o list = search (steady_parts, steady_at)

pub steady_split : (list : List ℕ) → Steady (split_parent list)
unfolding split_parent
steady_split list = search (steady_parts, steady_members)

pub steady_split_around : (n : ℕ) → Steady (split_around n)
unfolding split_around
steady_split_around n = search (steady_parts, steady_split)

pub steady_keeping_children : (n : ℕ) → Steady (remove_keeping_children n)
unfolding remove_keeping_children
steady_keeping_children n = search (steady_parts, steady_split)
