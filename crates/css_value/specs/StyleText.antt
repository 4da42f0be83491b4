-- How a style text is cut into declarations. A text is a list of characters.
use Rattle.std.specs.Prelude.{ℕ, ◌+◌, ◌-◌, ◌==◌, Bool, true, false, ◌&&◌, ◌||◌, if◌then◌else◌, List, [], ◌∷◌, Option, Some, None, is_none, map, fold}
use Rattle.std.specs.Char.{to_ascii_lowercase}
use Rattle.std.specs.List.{filter_map, onto_first}

-- tab, LF, FF, CR and space
abbrev pub is_space : ℕ → Bool
is_space c = (c == 9) || (c == 10) || (c == 12) || (c == 13) || (c == 32)

-- the text without the spaces at its front
abbrev pub trim_start : List ℕ → List ℕ
trim_start [] = []
trim_start (c ∷ text) = if is_space c then trim_start text else c ∷ text

-- a character before a text whose spaces at the end are gone; a space goes where nothing is left
-- behind it
abbrev pub before_trimmed : ℕ → List ℕ → List ℕ
before_trimmed c [] = if is_space c then [] else c ∷ []
before_trimmed c (d ∷ text) = c ∷ d ∷ text

-- the text without the spaces at its end
abbrev pub trim_end : List ℕ → List ℕ
trim_end [] = []
trim_end (c ∷ text) = before_trimmed c (trim_end text)

-- the text without the spaces at both ends
unfoldable pub trimmed : List ℕ → List ℕ
trimmed text = trim_end (trim_start text)

-- the text with A to Z as a to z
abbrev pub lowered : List ℕ → List ℕ
lowered text = map to_ascii_lowercase text

-- where a character stands: the quote that is open, and how many parentheses are
pub record Nesting : Type 0 where
  pub quote : Option ℕ
  pub depth : ℕ

abbrev pub outside : Nesting
outside = record { quote = None; depth = 0 }

-- neither in quotes nor in parentheses
abbrev pub is_outside : Nesting → Bool
is_outside n = is_none n.quote && (n.depth == 0)

abbrev pub is_quote : ℕ → Bool
is_quote c = (c == 34) || (c == 39)

-- the open quote after a quote mark: it opens one, or closes the one that it opened
abbrev pub quote_after : Option ℕ → ℕ → Option ℕ
quote_after None c = Some c
quote_after (Some q) c = if c == q then None else Some q

-- the open parentheses after another character; in quotes it changes nothing, and a `)` that closes
-- none neither
abbrev pub depth_after : Option ℕ → ℕ → ℕ → ℕ
depth_after None depth c = if c == 40 then depth + 1 else (if c == 41 then depth - 1 else depth)
depth_after (Some q) depth c = depth

-- where the next character stands
unfoldable pub after : Nesting → ℕ → Nesting
after n c =
    if is_quote c then record { quote = quote_after n.quote c; depth = n.depth }
    else record { quote = n.quote; depth = depth_after n.quote n.depth c }

-- a `;` outside quotes and parentheses
unfoldable pub is_cut : Nesting → ℕ → Bool
is_cut n c = (c == 59) && is_outside n

-- the pieces between the cuts of a text
unfoldable pub pieces : Nesting → List ℕ → List (List ℕ)
pieces n [] = [] ∷ []
pieces n (c ∷ text) =
    if is_cut n c then [] ∷ pieces outside text else onto_first c (pieces (after n c) text)

-- each quote and each parenthesis of the piece is closed in it
unfoldable pub is_closed : List ℕ → Bool
is_closed piece = is_outside (fold after outside piece)

-- what stands before the first colon, or all where there is none
abbrev pub before_colon : List ℕ → List ℕ
before_colon [] = []
before_colon (c ∷ text) = if c == 58 then [] else c ∷ before_colon text

-- what stands after the first colon, or nothing where there is none
abbrev pub after_colon : List ℕ → List ℕ
after_colon [] = []
after_colon (c ∷ text) = if c == 58 then text else after_colon text

-- a property with its value
pub record Declaration : Type 0 where
  pub name : List ℕ
  pub value : List ℕ

abbrev pub is_empty : List ℕ → Bool
is_empty [] = true
is_empty (c ∷ text) = false

-- a declaration, unless its name or its value is missing
unfoldable pub named : List ℕ → List ℕ → Option Declaration
named name value =
    if is_empty name || is_empty value then None else Some (record { name = name; value = value })

-- what a piece declares: the name before its first colon, in lower case, and the value after it. A
-- piece with an unclosed quote or parenthesis, or without a name, a colon or a value, declares
-- nothing
unfoldable pub declaration_of : List ℕ → Option Declaration
declaration_of piece =
    if is_closed piece then
    named (lowered (trimmed (before_colon piece))) (trimmed (after_colon piece)) else None

-- the declarations of a text as they stand in it
unfoldable pub stated : List ℕ → List Declaration
stated text = filter_map declaration_of (pieces outside text)
