-- Kinds of characters and names.
use Rattle.std.specs.Prelude.{ℕ, ◌+◌, ◌-◌, ◌*◌, Bool, not, ◌&&◌, ◌||◌, nat_le, nat_lt, ◌==◌, if◌then◌else◌, List, [], ◌∷◌, codes}

-- ASCII whitespace (Infra Standard, 4.6): tab, LF, FF, CR and space
unfoldable pub is_space : ℕ → Bool
is_space b = b == 9 || b == 10 || b == 12 || b == 13 || b == 32

unfoldable pub lower : ℕ → ℕ
lower b = if nat_le 65 b && nat_le b 90 then b + 32 else b

unfoldable pub is_letter : ℕ → Bool
is_letter b = nat_le 97 (lower b) && nat_le (lower b) 122

unfoldable pub is_digit : ℕ → Bool
is_digit b = nat_le 48 b && nat_le b 57

-- in an element's name after its first letter
unfoldable pub is_name_char : ℕ → Bool
is_name_char b = is_letter b || is_digit b || b == 45

-- controls (Infra Standard, 4.5)
unfoldable pub is_control : ℕ → Bool
is_control b = nat_lt b 32 || nat_le 127 b && nat_lt b 160

-- in an attribute's name (HTML Standard, 13.1.2.3), where `<` may not stand either
unfoldable pub is_attribute_name_char : ℕ → Bool
is_attribute_name_char b =
    not (is_space b || is_control b || b == 34 || b == 39 || b == 60 || b == 62
    || b == 47 || b == 61)

unfoldable pub is_quote : ℕ → Bool
is_quote b = b == 34 || b == 39

-- the six names of references, and their characters
pub record Entity : Type 0 where
  pub name : List ℕ
  pub char : ℕ

abbrev pub entity : List ℕ → ℕ → Entity
entity w x = record { name = w; char = x }

abbrev pub entities : List Entity
entities = entity (codes "amp") 38 ∷ entity (codes "lt") 60 ∷ entity (codes "gt") 62
    ∷ entity (codes "quot") 34
    ∷ entity (codes "apos") 39 ∷ entity (codes "nbsp") 160 ∷ []

-- a scalar value other than 0
unfoldable pub is_referable : ℕ → Bool
is_referable x = nat_lt 0 x && nat_le x 1114111 && not (nat_le 55296 x && nat_le x 57343)

unfoldable pub is_hex : ℕ → Bool
is_hex b = is_digit b || nat_le 97 (lower b) && nat_le (lower b) 102

unfoldable pub digit_of : ℕ → ℕ
digit_of b = if is_digit b then b - 48 else lower b - 87

-- the number of these digits after the number v
abbrev pub value_from : (base v : ℕ) → List ℕ → ℕ
value_from base v [] = v
value_from base v (d ∷ ds) = value_from base (v * base + digit_of d) ds
