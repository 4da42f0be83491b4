-- The children of a bare node come before it, and it goes: the order is kept.
use Rattle.std.proofs.Common.{ℕ, List, [], sym}
use Rattle.std.proofs.lemmas.List.{append-nil}
use Rattle.edit_model.specs.DomModel.Forest.{children_of}
use Rattle.edit_model.specs.State.{State}
use Rattle.edit_model.specs.Run.{Run, final, ◌>>=◌, ◌>>◌, done, remove}
use Rattle.edit_model.specs.Moves.{move_before, move_all_before, unwrap}
use Rattle.edit_model.proofs.Steps.{final-bind, final-look}
use Rattle.edit_laws.specs.Order.{KeepsOrder, IsKeeping}
use Rattle.edit_laws.specs.MoveLaws.{IsBare}
use Rattle.edit_laws.specs.OrderPreserving.{OrderPreserving}
use Rattle.edit_laws.specs.Steady.{Steady}
use Rattle.edit_laws.proofs.Subsequences.{keeps_trans}
use Rattle.edit_laws.proofs.QuietActions.{keeping_final}
use Rattle.edit_laws.proofs.MoveLaws.{go_before}
use Rattle.edit_laws.proofs.OrderPreserving.{order_preserving_bind, order_preserving_answer, order_preserving_remove}
use Rattle.edit_laws.proofs.SteadyRuns.{steady_parts, steady_each}

-- a run that is known at a state, and an order-preserving one after it
then_order_preserving : {A B : Type 0} (m : Run A) (n : Run B) (s : State) → IsKeeping s → KeepsOrder s (final m s) → OrderPreserving n → KeepsOrder s (final (m >>= (λ _. n)) s)
then_order_preserving m n s is k t = rw final-bind (keeps_trans k (t.keeps (final m s) (keeping_final m s is)))

goes : (e : ℕ) → OrderPreserving (remove e >> done)
goes e = order_preserving_bind (remove e) (λ _. done) (order_preserving_remove e) (λ _. order_preserving_answer tt)

pub unwrap_keeps : (e : ℕ) (s : State) → IsKeeping s → IsBare s e → KeepsOrder s (final (unwrap e) s)
unfolding unwrap
unwrap_keeps e s is bare =
    rw final-look
    (then_order_preserving (move_all_before (children_of s.trees e) e) (remove e >> done) s is
    (go_before s is (children_of s.trees e) [] e (sym (append-nil (children_of s.trees e))) bare) (goes e))

steady_move_before : (o n : ℕ) → Steady (move_before o n)
unfolding move_before
steady_move_before o n = search steady_parts

steady_all_before : (list : List ℕ) (o : ℕ) → Steady (move_all_before list o)
unfolding move_all_before
steady_all_before list o = search (steady_each, steady_move_before)

pub steady_unwrap : (e : ℕ) → Steady (unwrap e)
unfolding unwrap
steady_unwrap e = search (steady_parts, steady_all_before)
