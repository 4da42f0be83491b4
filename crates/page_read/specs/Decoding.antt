-- The decoder of the code, as the grammar's.
use Rattle.std.specs.Prelude.{ℕ, zero, suc, ◌+◌, ◌-◌, ◌*◌, ◌<◌, ◌≤◌, ◌⊎◌}
use Rattle.page_grammar.specs.Decoder as decoder
use Rattle.page_read.specs.declared.decoder.Pending.{Pending}
use Rattle.page_read.specs.declared.decoder.Decoded.{Decoded}
use Rattle.page_read.specs.declared.decoder.Decoded.TheVariants.{Bad, Part, Whole}

abbrev pub pending_of : Pending → decoder.Pending
pending_of p = record { bits = p.bits; after = p.after; low = p.low; high = p.high }

abbrev pub decoded_of : Decoded → decoder.Decoded
decoded_of Bad = decoder.Bad
decoded_of (Part p) = decoder.Part (pending_of p)
decoded_of (Whole x) = decoder.Whole x

-- the numbers from low to high are characters
abbrev pub AreCharacters : (low high : ℕ) → Type 0
AreCharacters low high = (high < 55296) ⊎ ((57344 ≤ low) × (high < 1114112))

-- whatever bytes follow make a character
abbrev pub IsSoundAfter : (after bits low high : ℕ) → Type 0
IsSoundAfter zero v lo hi = AreCharacters (v * 64 + (lo - 128)) (v * 64 + (hi - 128))
IsSoundAfter (suc zero) v lo hi =
    AreCharacters ((v * 64 + (lo - 128)) * 64) ((v * 64 + (hi - 128)) * 64 + 63)
IsSoundAfter (suc (suc zero)) v lo hi = AreCharacters ((v * 64 + (lo - 128)) * 4096)
    ((v * 64 + (hi - 128)) * 4096 + 4095)
IsSoundAfter n v lo hi = ⊥

pub record IsSoundPending (p : Pending) : Type 0 where
  pub low : 128 ≤ p.low
  pub high : p.high ≤ 191
  pub after : IsSoundAfter p.after p.bits p.low p.high

abbrev pub IsSoundDecoded : Decoded → Type 0
IsSoundDecoded Bad = Unit {0}
IsSoundDecoded (Part p) = IsSoundPending p
IsSoundDecoded (Whole x) = Unit {0}
