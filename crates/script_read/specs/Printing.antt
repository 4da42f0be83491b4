-- Printed texts are read back.
use Rattle.std.specs.Prelude.{◌≡◌, ◌≢◌, ℕ, true, false, List, [], ◌∷◌}
use Rattle.std.specs.Str.{all_scalars}
use Rattle.escaped_text.specs.Escaped.{escaped}
use Rattle.script_read.specs.Acts.{SpellsChars}

-- a printed text spells the characters that were printed, and no others
abbrev pub TextsReadBack : Type 0
TextsReadBack =
    (text : List ℕ) → all_scalars text ≡ true
    → SpellsChars true (escaped text) text
    × ((chars : List ℕ) → SpellsChars true (escaped text) chars → chars ≡ text)

-- no `"` and no CR
abbrev pub IsPlain : List ℕ → Type 0
IsPlain [] = Unit {0}
IsPlain (c ∷ cs) = (c ≢ 34) × (c ≢ 13) × IsPlain cs

-- and so it does as a value where none of them is a `"` or a CR, whose printed escapes a value
-- doesn't have
abbrev pub ValuesReadBack : Type 0
ValuesReadBack =
    (text : List ℕ) → all_scalars text ≡ true → IsPlain text
    → SpellsChars false (escaped text) text
    × ((chars : List ℕ) → SpellsChars false (escaped text) chars → chars ≡ text)
