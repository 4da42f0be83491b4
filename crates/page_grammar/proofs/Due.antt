-- What the decoder waits for, for a scanner that keeps no bytes.
use Rattle.std.proofs.Common.{◌≡◌, ℕ, ◌<◌, ◌≤◌, zero, suc, true, inl, inr, List, [], ◌∷◌, ◌++◌, Some, None, refl, arith}
use Rattle.std.proofs.Math.Utf8.{scalar, scalar_cases}
use Rattle.page_grammar.specs.Decoder.{Pending, Decoded, Bad, Part, Whole, lead, continued}
use Rattle.page_grammar.proofs.Decoding.{front, Awaits, DecodedIs, decoded}

-- the front of some character
abbrev pub IsDue : Pending → Type 0
IsDue p = (held : List ℕ) × Awaits p held

-- what comes is due, too, or a scalar value
abbrev pub ComesDue : Decoded → Type 0
ComesDue Bad = Unit {0}
ComesDue (Part p) = IsDue p
ComesDue (Whole x) = scalar x ≡ true

comes : (h : List ℕ) (b : ℕ) (z : Decoded) → DecodedIs h b z → ComesDue z
comes h b Bad k = tt
comes h b (Part q) k = (h ++ b ∷ [], k.1)
comes h b (Whole x) k = k.0

pub lead_due : (b : ℕ) → ComesDue (lead b)
lead_due b = comes [] b (lead b) (decoded None [] b refl)

pub continued_due : (p : Pending) (b : ℕ) → IsDue p → ComesDue (continued p b)
continued_due p b (h, a) = comes h b (continued p b) (decoded (Some p) h b a)

-- numbers for a scanner's types
pub record Small (p : Pending) : Type 0 where
  pub bits : p.bits < 17408
  pub after : p.after ≤ 2
  pub low : 128 ≤ p.low
  pub high : p.high ≤ 191

pub due_small : (p : Pending) → IsDue p → Small p
due_small p (h, a) =
    let x = a.some in
    let e = a.begins x.0 x.2 in
    let top : x.0 < 1114112 = elim (scalar_cases x.0 e.0) [ inl i ↦ omega arith | inr i ↦ i.1 ] in
    record { bits = go p.after x.0 p.bits x.2.0 top; after = a.small; low = a.floor; high = a.ceiling }
  where
    go : (n x v : ℕ) → front n x ≡ v → x < 1114112 → v < 17408
    go zero x v e top = omega arith
    go (suc zero) x v e top = omega arith
    go (suc (suc n)) x v e top = omega arith
