-- Removing line breaks keeps the order.
use Rattle.std.proofs.Common.{ℕ}
use Rattle.edit_laws.specs.OrderPreserving.{OrderPreserving}
use Rattle.edit_laws.proofs.OrderPreserving.{order_preserving, order_preserving_bind}
use Rattle.inline_value.specs.WrapSplit.Breaks.{breaks_before, breaks_at_end, breaks_from}

pub order_preserving_breaks_before : (n : ℕ) → OrderPreserving (breaks_before n)
unfolding breaks_before
order_preserving_breaks_before n = search order_preserving

pub order_preserving_breaks_at_end : (n : ℕ) → OrderPreserving (breaks_at_end n)
unfolding breaks_at_end
order_preserving_breaks_at_end n = search order_preserving

pub order_preserving_breaks_from : (n : ℕ) → OrderPreserving (breaks_from n)
unfolding breaks_from
order_preserving_breaks_from n = search (order_preserving_bind, order_preserving_breaks_before, order_preserving_breaks_at_end)
