-- The machine with a decoder before it: it reads a page byte by byte.
use Rattle.std.specs.Prelude.{ℕ, Bool, true, false, if◌then◌else◌, List, [], ◌∷◌, Option, Some, None}
use Rattle.page_grammar.specs.Decoder.{Pending, Decoded, Bad, Part, Whole, decode}
use Rattle.page_grammar.specs.Machine.{Machine, Lexical, Data, InText, InComment, BeforeAttributeName, AttributeName, AfterAttributeName, InAttributeValue, start, has_room, step}

pub record Reader : Type 0 where
  pub machine : Machine
  -- the character of which some bytes have come
  pub part : Option Pending

-- between characters
abbrev pub between : Machine → Reader
between m = record { machine = m; part = None }

abbrev pub begin : ℕ → Reader
begin d = between (start d)

-- May a character past ASCII stand here? In an attribute's name controls may not, and those are C2
-- 80 to C2 9F.
abbrev pub takes_wide_at : ℕ → Machine → Lexical → Bool
takes_wide_at c m Data = has_room c m
takes_wide_at c m (InText t) = true
takes_wide_at c m (InComment t n) = true
takes_wide_at c m (BeforeAttributeName w ts) = true
takes_wide_at c m (AttributeName w ts k) = true
takes_wide_at c m (AfterAttributeName w ts k) = true
takes_wide_at c m (InAttributeValue w ts k q v) = true
takes_wide_at c m l = false

abbrev pub takes_wide : ℕ → Machine → Bool
takes_wide c m = takes_wide_at c m m.lex

abbrev pub read_whole : Option Machine → Option Reader
read_whole None = None
read_whole (Some m) = Some (between m)

abbrev pub read_decoded : ℕ → Machine → Decoded → Option Reader
read_decoded c m Bad = None
read_decoded c m (Part p) =
    if takes_wide c m then Some (record { machine = m; part = Some p }) else None
read_decoded c m (Whole x) = read_whole (step c m x)

abbrev pub read_byte : ℕ → Reader → ℕ → Option Reader
read_byte c r b = read_decoded c r.machine (decode r.part b)

abbrev pub then_read : Option Reader → (Reader → Option Reader) → Option Reader
then_read None k = None
then_read (Some r) k = k r

abbrev pub read_bytes : ℕ → Reader → List ℕ → Option Reader
read_bytes c r [] = Some r
read_bytes c r (b ∷ s) = then_read (read_byte c r b) (λ r1. read_bytes c r1 s)
