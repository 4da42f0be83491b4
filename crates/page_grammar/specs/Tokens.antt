-- Where a place in a page stands: which tokens are before it, and inside which token it is. All
-- lists here are characters of the page before the place.
use Rattle.std.specs.Prelude.{◌≡◌, ◌≢◌, ℕ, zero, suc, ◌<◌, ◌⊎◌, true, false, if◌then◌else◌, List, [], ◌∷◌, ◌++◌, length}
use Rattle.page_grammar.specs.Chars.{is_name_char, is_attribute_name_char, is_quote}
use Rattle.page_grammar.specs.Names.{is_void, is_refused}
use Rattle.page_grammar.specs.Page.{Attribute, Spaces, OneChar, Text, ElementName, AttributeNameChars, has_attribute, Attributes, StartTag, EndTag, CommentText}

-- t is one token: a character of text, as itself or as a reference, a comment, a start tag or an
-- end tag. The elements vs are open before it and ws after it, innermost first.
abbrev pub IsToken : (vs ws : List (List ℕ)) → List ℕ → Type 0
IsToken vs ws t =
    ((x : ℕ) × OneChar 60 x t [] × (ws ≡ vs))
    ⊎ (((u : List ℕ) × (a : List ℕ) × (t ≡ 60 ∷ 33 ∷ 45 ∷ 45 ∷ a) × CommentText u a [] × (ws ≡ vs))
    ⊎ (((w : List ℕ) × (ts : List Attribute) × StartTag w ts t []
    × (ws ≡ (if is_void w then vs else w ∷ vs)))
    ⊎ ((w : List ℕ) × EndTag w t [] × (vs ≡ w ∷ ws))))

-- p is n tokens one after the other, and ws are the elements open behind them
abbrev pub Tokens : ℕ → List (List ℕ) → List ℕ → Type 0
Tokens zero ws p = (p ≡ []) × (ws ≡ [])
Tokens (suc n) ws p =
    (vs : List (List ℕ)) × (q : List ℕ) × (t : List ℕ) × (p ≡ q ++ t) × Tokens n vs q
    × IsToken vs ws t

-- s is whole tokens, behind which ws are open, and then r
abbrev pub EndsWith : List (List ℕ) → (r s : List ℕ) → Type 0
EndsWith ws r s = (n : ℕ) × (p : List ℕ) × (s ≡ p ++ r) × Tokens n ws p

-- r is a start tag up to m, which follows its name w and the attributes ts
abbrev pub TagUpTo : List ℕ → List Attribute → (r m : List ℕ) → Type 0
TagUpTo w ts r m =
    (a : List ℕ) × (b : List ℕ) × (r ≡ 60 ∷ a) × ElementName w a b × (is_refused w ≡ false)
    × Attributes [] ts b m

-- m is white space and an attribute's name up to b
abbrev pub KeyUpTo : List ℕ → (m b : List ℕ) → Type 0
KeyUpTo k m b = (n : ℕ) × (a : List ℕ) × Spaces (suc n) m a × (0 < length k)
    × AttributeNameChars k a b

-- b is `=`, with white space round it, and a quote q up to u
abbrev pub QuoteUpTo : ℕ → (b u : List ℕ) → Type 0
QuoteUpTo q b u =
    (n : ℕ) × (a : List ℕ) × (i : ℕ) × Spaces n b (61 ∷ a) × Spaces i a (q ∷ u)
    × (is_quote q ≡ true)

-- r is a start tag in which u follows the opening quote q of a value
abbrev pub ValueUpTo : ℕ → (r u : List ℕ) → Type 0
ValueUpTo q r u =
    (w : List ℕ) × (ts : List Attribute) × (k : List ℕ) × (m : List ℕ) × (b : List ℕ)
    × TagUpTo w ts r m × KeyUpTo k m b × (has_attribute ts k ≡ false) × QuoteUpTo q b u

abbrev pub Lacks : ℕ → List ℕ → Type 0
Lacks b [] = Unit {0}
Lacks b (x ∷ xs) = (x ≢ b) × Lacks b xs

-- an `&` that begins a reference, and no `;` behind it
abbrev pub OpenReference : List ℕ → Type 0
OpenReference r = (w : List ℕ) × (r ≡ 38 ∷ w) × Lacks 59 w

-- the first of these characters, or b where there is none
abbrev pub first_or : ℕ → List ℕ → ℕ
first_or b [] = b
first_or b (x ∷ xs) = x

-- The following say where the place behind the characters s stands. The byte b is the one at the
-- place, which can't be read there. Names end at the first byte that isn't part of one.

-- b ends a start tag's name that a page may not have
abbrev pub EndsUnsupportedName : List ℕ → ℕ → Type 0
EndsUnsupportedName s b =
    (ws : List (List ℕ)) × (w : List ℕ) × (a : List ℕ) × EndsWith ws (60 ∷ a) s
    × ElementName w a [] × (is_refused w ≡ true) × (is_name_char b ≡ false)

-- b ends an attribute's name that the tag already has
abbrev pub EndsRepeatedName : List ℕ → ℕ → Type 0
EndsRepeatedName s b =
    (ws : List (List ℕ)) × (r : List ℕ) × (w : List ℕ) × (ts : List Attribute) × (m : List ℕ)
    × (k : List ℕ) × EndsWith ws r s × TagUpTo w ts r m × KeyUpTo k m []
    × (has_attribute ts k ≡ true) × (is_attribute_name_char b ≡ false)

-- it stands inside a reference: behind an `&` in text, or in a value, and before its `;`
abbrev pub StandsInReference : List ℕ → Type 0
StandsInReference s =
    (ws : List (List ℕ)) × (r : List ℕ) × EndsWith ws r s
    × (OpenReference r
    ⊎ ((q : ℕ) × (u : List ℕ) × (v : List ℕ) × (e : List ℕ) × ValueUpTo q r u × Text q v u e
    × OpenReference e))

-- it stands behind `</` and before its `>`, or b is the `/` of `</` with no element open
abbrev pub StandsInEndTag : List ℕ → ℕ → Type 0
StandsInEndTag s b =
    ((w : List ℕ) × (ws : List (List ℕ)) × (a : List ℕ) × EndsWith (w ∷ ws) (60 ∷ 47 ∷ a) s
    × Lacks 62 a)
    ⊎ (EndsWith [] (60 ∷ []) s × (b ≡ 47))

-- it stands behind the name in a start tag: the name is at its end, and the tag isn't
abbrev pub StandsAfterTagName : List ℕ → ℕ → Type 0
StandsAfterTagName s b =
    (ws : List (List ℕ)) × (w : List ℕ) × (a : List ℕ) × (m : List ℕ) × EndsWith ws (60 ∷ a) s
    × ElementName w a m × (is_name_char (first_or b m) ≡ false)
    × ((ts : List Attribute) (r : List ℕ) → StartTag w ts (60 ∷ a) r → ⊥)

-- it stands elsewhere behind `<`: just behind it, or in the opening of a comment
abbrev pub StandsAfterLess : List ℕ → Type 0
StandsAfterLess s =
    (ws : List (List ℕ)) × (EndsWith ws (60 ∷ []) s ⊎ (EndsWith ws (60 ∷ 33 ∷ []) s
    ⊎ EndsWith ws (60 ∷ 33 ∷ 45 ∷ []) s))
