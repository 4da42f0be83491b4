-- How a text is printed on one line. A text is a list of characters, and what is printed is UTF-8.
use Rattle.std.specs.Prelude.{◌≡◌, ℕ, ◌≤◌, List, [], ◌∷◌, ◌++◌, length, take, if◌then◌else◌, ◌==◌, codes, encode_utf8_all}
use Rattle.std.specs.List.{flat_map}

-- LF, tab, `\`, `"`, CR and no-break space are printed as escapes, and every other character as
-- itself
abbrev pub escape_of : ℕ → List ℕ
escape_of c =
    if c == 10 then codes "\\n"
    else (if c == 9 then codes "\\t"
    else (if c == 92 then codes "\\\\"
    else (if c == 34 then codes "\\\""
    else (if c == 13 then codes "\\r"
    else (if c == 160 then codes "\\u{a0}"
    else c ∷ [])))))

unfoldable pub escaped : List ℕ → List ℕ
escaped text = flat_map escape_of text

-- the bytes that are printed for a text
unfoldable pub escaped_bytes : List ℕ → List ℕ
escaped_bytes text = encode_utf8_all (escaped text)

-- what is printed for some of the first characters of the text stands behind the old bytes
pub record HasPart (print : List ℕ → List ℕ) (old text new : List ℕ) : Type 0 where
  pub count : ℕ
  pub within : count ≤ length text
  pub printed : new ≡ old ++ print (take count text)
