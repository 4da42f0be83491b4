-- A decoder of UTF-8 that goes byte by byte, as that of the Encoding Standard (8.1.1) does.
use Rattle.std.specs.Prelude.{ℕ, zero, suc, ◌+◌, ◌-◌, ◌*◌, ◌&&◌, nat_lt, nat_le, ◌==◌, if◌then◌else◌, Option, Some, None}

-- The character's bits so far, how many bytes follow the next one, and the bounds of the next one.
pub record Pending : Type 0 where
  pub bits : ℕ
  pub after : ℕ
  pub low : ℕ
  pub high : ℕ

pub data Decoded : Type 0 where
  Bad : Decoded
  Part : (pending : Pending) → Decoded
  Whole : (char : ℕ) → Decoded

abbrev pub pending : (bits after low high : ℕ) → Pending
pending v n lo hi = record { bits = v; after = n; low = lo; high = hi }

-- no character is written longer than it has to be, none is a surrogate, none is past U+10FFFF
abbrev pub lead : ℕ → Decoded
lead b =
    if nat_lt b 128 then Whole b
    else (if nat_lt b 194 then Bad
    else (if nat_lt b 224 then Part (pending (b - 192) 0 128 191)
    else (if nat_lt b 240 then Part (pending (b - 224) 1 (if b == 224 then 160 else 128)
    (if b == 237 then 159 else 191))
    else (if nat_lt b 245 then Part (pending (b - 240) 2 (if b == 240 then 144 else 128)
    (if b == 244 then 143 else 191)) else Bad))))

abbrev pub joined : (bits after : ℕ) → Decoded
joined v zero = Whole v
joined v (suc n) = Part (pending v n 128 191)

abbrev pub continued : Pending → ℕ → Decoded
continued p b =
    if nat_le p.low b && nat_le b p.high then joined (p.bits * 64 + (b - 128)) p.after else Bad

-- the next byte, between characters or inside one
abbrev pub decode : Option Pending → ℕ → Decoded
decode None b = lead b
decode (Some p) b = continued p b
