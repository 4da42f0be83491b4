-- The parts of splitting a parent that move nothing.
use Rattle.std.proofs.Common.{ℕ, Bool, ◌&&◌, not, [], Some, refl}
use Rattle.std.specs.Prelude.{codes}
use Rattle.edit_model.specs.DomModel.Forest.{parent_of, next_of}
use Rattle.inline_value.specs.NodeTests.LineBreaks.{follows_break, precedes_break}
use Rattle.edit_laws.specs.OrderPreserving.{OrderPreserving, OrderPreservingWith}
use Rattle.edit_laws.proofs.OrderPreserving.{order_preserving, order_preserving_answer, order_preserving_look, order_preserving_if}
use Rattle.edit_laws.proofs.NewElements.{order_preserving_new, with_look, with_given, with_bind, with_insert, with_order_preserving}
use Rattle.inline_value.specs.WrapSplit.Split.{break_before, break_after, drop_first_break, close, tidy_after}
use Rattle.edit_model.specs.Moves.{insert_before, insert_after, make_break}
use Rattle.command_laws.proofs.Breaks.{order_preserving_breaks_before, order_preserving_breaks_at_end}

pub with_before : (o x : ℕ) → OrderPreservingWith x (insert_before o x)
unfolding insert_before
with_before o x = with_look x _ (λ s. with_given x (parent_of s.trees o) _ _ (with_order_preserving x _ (order_preserving_answer tt)) (λ p. with_bind x _ _ (with_insert p (Some o) x) (λ _. order_preserving_answer tt)))

pub with_after : (o x : ℕ) → OrderPreservingWith x (insert_after o x)
unfolding insert_after
with_after o x = with_look x _ (λ s. with_given x (parent_of s.trees o) _ _ (with_order_preserving x _ (order_preserving_answer tt)) (λ p. with_bind x _ _ (with_insert p (next_of s.trees o) x) (λ _. order_preserving_answer tt)))

pub order_preserving_break_before : (wanted : Bool) (a : ℕ) → OrderPreserving (break_before wanted a)
unfolding break_before make_break
order_preserving_break_before wanted a = order_preserving_look _ (λ s. order_preserving_if (wanted && not (follows_break s.trees a)) _ _ (order_preserving_new (codes "br") [] (insert_before a) refl (λ x. with_before a x)) (order_preserving_answer tt))

pub order_preserving_break_after : (wanted : Bool) (z : ℕ) → OrderPreserving (break_after wanted z)
unfolding break_after make_break
order_preserving_break_after wanted z = order_preserving_look _ (λ s. order_preserving_if (wanted && not (precedes_break s.trees z)) _ _ (order_preserving_new (codes "br") [] (insert_after z) refl (λ x. with_after z x)) (order_preserving_answer tt))

pub order_preserving_drop_first_break : (o z : ℕ) → OrderPreserving (drop_first_break o z)
unfolding drop_first_break
order_preserving_drop_first_break o z = search order_preserving

pub order_preserving_tidy_after : (z : ℕ) → OrderPreserving (tidy_after z)
unfolding tidy_after
order_preserving_tidy_after z = search (order_preserving, order_preserving_breaks_at_end)

pub order_preserving_close : (o z : ℕ) (wanted : Bool) → OrderPreserving (close o z wanted)
unfolding close
order_preserving_close o z wanted = search (order_preserving, order_preserving_break_after, order_preserving_breaks_before)
