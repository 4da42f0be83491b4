-- What a fault means: its place, and the first row of the table of kinds whose condition holds.
use Rattle.std.specs.Prelude.{◌≡◌, ℕ, suc, ◌<◌, ◌≤◌, ◌⊎◌, true, List, [], ◌∷◌, ◌++◌, length, take, drop, Option, Some, None}
use Rattle.std.proofs.Math.Utf8.{scalar, scalars, encode, encodes}
use Rattle.page_grammar.specs.Page.{Siblings, depth, ReachesLabel}
use Rattle.page_grammar.specs.Tokens.{EndsUnsupportedName, EndsRepeatedName, StandsInReference, StandsInEndTag, StandsAfterTagName, StandsAfterLess}
use Rattle.page_grammar.specs.Bytes.{PageBytes, IsPageBytes, BeginsPage, BeginsText, IsBytePlace}
use Rattle.page_grammar.specs.Kind.{Kind, TooLong, Unclosed, NotUtf8, TooDeep, Full, UnsupportedElement, RepeatedAttribute, UnknownReference, StrayEnd, BadAttribute, BadTag, page_limit}

-- some page begins so, whatever its depth and its labels
abbrev pub BeginsSomePage : List ℕ → Type 0
BeginsSomePage p = (d : ℕ) × (c : ℕ) × BeginsPage d c p

-- it makes certain a node deeper than d: some page begins so, and each that does has one
abbrev pub MakesTooDeep : ℕ → List ℕ → Type 0
MakesTooDeep d p = BeginsSomePage p
    × ((e a : ℕ) (q : List ℕ) (f : Siblings) → PageBytes e a (p ++ q) f → d < depth f)

-- it makes certain a node whose label is c: some page begins so, and each that does has one
abbrev pub MakesFull : ℕ → List ℕ → Type 0
MakesFull c p = BeginsSomePage p
    × ((e a : ℕ) (q : List ℕ) (f : Siblings) → PageBytes e a (p ++ q) f → ReachesLabel c f)

-- h is the beginning of a character that isn't whole, maybe empty
abbrev pub IsPart : List ℕ → Type 0
IsPart h =
    (x : ℕ) × (t : List ℕ) × (scalar x ≡ true) × (encode x ≡ h ++ t) × (0 < length t)

-- P of the whole characters before the place k, and of the byte at it
abbrev pub AtPlace : List ℕ → ℕ → (List ℕ → ℕ → Type 0) → Type 0
AtPlace s k P =
    (cs : List ℕ) × (h : List ℕ) × (b : ℕ) × (t : List ℕ) × (scalars cs ≡ true) × IsPart h
    × (take k s ≡ encodes cs ++ h) × (drop k s ≡ b ∷ t) × P cs b

-- The condition of each row, at the place k of the bytes s. The offending byte is the one after k
-- others.
abbrev pub Row : (d c : ℕ) → List ℕ → ℕ → Kind → Type 0
Row d c s k TooLong = page_limit < length s
Row d c s k Unclosed = (IsPageBytes d c s → ⊥) × BeginsPage d c s
Row d c s k NotUtf8 = BeginsText (take (suc k) s) → ⊥
Row d c s k TooDeep = MakesTooDeep d (take (suc k) s)
Row d c s k Full = MakesFull c (take (suc k) s)
Row d c s k UnsupportedElement = AtPlace s k (λ cs b. EndsUnsupportedName cs b)
Row d c s k RepeatedAttribute = AtPlace s k (λ cs b. EndsRepeatedName cs b)
Row d c s k UnknownReference = AtPlace s k (λ cs b. StandsInReference cs)
Row d c s k StrayEnd = AtPlace s k (λ cs b. StandsInEndTag cs b)
Row d c s k BadAttribute = AtPlace s k (λ cs b. StandsAfterTagName cs b)
Row d c s k BadTag = AtPlace s k (λ cs b. StandsAfterLess cs)

-- the kinds that tell where in a token the byte stands
abbrev pub lexical_kinds : List Kind
lexical_kinds = UnsupportedElement ∷ RepeatedAttribute ∷ UnknownReference ∷ StrayEnd ∷ BadAttribute
    ∷ BadTag ∷ []

-- all kinds, in the table's order
abbrev pub table : List Kind
table = TooLong ∷ Unclosed ∷ NotUtf8 ∷ TooDeep ∷ Full ∷ lexical_kinds

-- x is the first of these kinds whose row holds
abbrev pub IsFirst : (Kind → Type 0) → List Kind → Kind → Type 0
IsFirst holds [] x = ⊥
IsFirst holds (y ∷ ys) x = (holds y × (x ≡ y)) ⊎ ((holds y → ⊥) × IsFirst holds ys x)

-- a page within depth, cap and length
abbrev pub IsAccepted : (d c : ℕ) → List ℕ → Type 0
IsAccepted d c s = IsPageBytes d c s × (length s ≤ page_limit)

-- The place: where there are too many bytes it is their limit, else the length of the longest
-- prefix that begins some page.
pub record IsPlaceOf (d c : ℕ) (s : List ℕ) (k : ℕ) : Type 0 where
  pub too_long : page_limit < length s → k ≡ page_limit
  pub longest : length s ≤ page_limit → IsBytePlace d c s k

-- what it means that there is no fault, or that it is there
abbrev pub IsFault : (d c : ℕ) → List ℕ → Option (ℕ × Kind) → Type 0
IsFault d c s None = IsAccepted d c s
IsFault d c s (Some x) =
    (IsAccepted d c s → ⊥) × IsPlaceOf d c s x.0 × IsFirst (Row d c s x.0) table x.1
