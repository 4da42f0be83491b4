-- How many bytes a source handed out, counted up to the last value of a u64.
use Rattle.std.specs.Prelude.{ℕ, ◌+◌, ◌-◌, ◌^◌, min}

-- the count after so many bytes more: it stands still at the last value of a u64
abbrev pub handed_more : (handed more : ℕ) → ℕ
handed_more handed more = min (handed + more) (2 ^ 64 - 1)
