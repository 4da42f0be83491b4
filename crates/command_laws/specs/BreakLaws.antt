-- The laws of order of removing line breaks.
use Rattle.std.specs.Prelude.{ℕ}
use Rattle.edit_laws.specs.OrderPreserving.{OrderPreserving}
use Rattle.inline_value.specs.WrapSplit.Breaks.{breaks_before, breaks_at_end, breaks_from}

abbrev pub BreaksBeforeGo : Type 0
BreaksBeforeGo = (n : ℕ) → OrderPreserving (breaks_before n)

abbrev pub BreaksAtEndGo : Type 0
BreaksAtEndGo = (n : ℕ) → OrderPreserving (breaks_at_end n)

abbrev pub BreaksFromGo : Type 0
BreaksFromGo = (n : ℕ) → OrderPreserving (breaks_from n)
