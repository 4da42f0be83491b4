-- The grammar of acts: which line spells which act. A line is a list of bytes, without its LF.
use Rattle.std.specs.Prelude.{◌≡◌, ◌≢◌, ◌⊎◌, ℕ, ◌<◌, ◌≤◌, Bool, true, false, ◌&&◌, ◌||◌, nat_lt, nat_le, ◌==◌, List, [], ◌∷◌, ◌++◌, length, map, codes, encode_utf8_all}
use Rattle.std.specs.Char.{IsScalar, is_ascii_digit, is_digit, is_ascii_alphanumeric}
use Rattle.std.specs.List.{list_all, flat_map, join_with_byte}
use Rattle.std.specs.Str.{all_scalars}
use Rattle.std.specs.Str.Parse.{digits_value}
use Rattle.html_names.specs.Queries.{query_word}
use Rattle.script_read.specs.declared.act.Act.{Act}
use Rattle.script_read.specs.declared.act.Act.TheVariants.{Select, Unselect, Mark, Unmark, Exec, Query, Undo, Redo, Probe, Html, Tree, Points, Stat, Log}
use Rattle.script_read.specs.declared.act.Place.{Place}
use Rattle.script_read.specs.declared.verb.Verb.{Verb}
use Rattle.script_read.specs.declared.verb.Verb.TheVariants as verbs

-- ---- first words

abbrev pub word_of : Verb → List ℕ
word_of verbs.Select = codes "select"
word_of verbs.Unselect = codes "unselect"
word_of verbs.Mark = codes "mark"
word_of verbs.Unmark = codes "unmark"
word_of verbs.Exec = codes "exec"
word_of verbs.Query = codes "query"
word_of verbs.Undo = codes "undo"
word_of verbs.Redo = codes "redo"
word_of verbs.Probe = codes "probe"
word_of verbs.Html = codes "html"
word_of verbs.Tree = codes "tree"
word_of verbs.Points = codes "points"
word_of verbs.Stat = codes "stat"
word_of verbs.Log = codes "log"

-- up to its first space, or as a whole where it has none, the line is this word
abbrev pub BeginsWith : List ℕ → Verb → Type 0
BeginsWith line verb =
    (line ≡ word_of verb) ⊎ ((rest : List ℕ) × (line ≡ word_of verb ++ 32 ∷ rest))

-- ---- names and numbers

abbrev pub is_name_byte : ℕ → Bool
is_name_byte b = is_ascii_alphanumeric b || b == 45

-- 1 to 64 ASCII letters, digits and `-`
abbrev pub is_name : List ℕ → Bool
is_name text = nat_lt 0 (length text) && (nat_le (length text) 64 && list_all is_name_byte text)

abbrev pub IsName : List ℕ → Type 0
IsName text = is_name text ≡ true

-- 1 to 9 decimal digits; leading zeros count as digits
abbrev pub is_number : List ℕ → Bool
is_number text = nat_lt 0 (length text) && (nat_le (length text) 9 && list_all is_ascii_digit text)

abbrev pub IsNumber : List ℕ → ℕ → Type 0
IsNumber text n = (is_number text ≡ true) × (n ≡ digits_value 10 text)

-- ---- paths and points

abbrev pub AreNumbers : List (List ℕ) → List ℕ → Type 0
AreNumbers [] [] = Unit {0}
AreNumbers [] (n ∷ ns) = ⊥
AreNumbers (text ∷ texts) [] = ⊥
AreNumbers (text ∷ texts) (n ∷ ns) = IsNumber text n × AreNumbers texts ns

-- `.` for the document, and else the indexes of children joined by `/`
abbrev pub IsPath : List ℕ → List ℕ → Type 0
IsPath text [] = text ≡ codes "."
IsPath text (n ∷ ns) =
    (texts : List (List ℕ)) × (text ≡ join_with_byte 47 texts) × AreNumbers texts (n ∷ ns)

-- a path, `:` and an offset
abbrev pub IsPoint : List ℕ → Place → Type 0
IsPoint text place = (path offset : List ℕ) × (text ≡ path ++ 58 ∷ offset) × IsPath path place.path
    × IsNumber offset place.offset

-- ---- values and texts

-- one character of a value or a text, as it is spelled
pub data Piece : Type 0 where
  Itself : (c : ℕ) → Piece
  LineFeed : Piece
  Tab : Piece
  Backslash : Piece
  Quote : Piece
  Return : Piece
  Scalar : (digits : List ℕ) → Piece

abbrev pub spelling : Piece → List ℕ
spelling (Itself c) = c ∷ []
spelling LineFeed = codes "\\n"
spelling Tab = codes "\\t"
spelling Backslash = codes "\\\\"
spelling Quote = codes "\\\""
spelling Return = codes "\\r"
spelling (Scalar digits) = codes "\\u{" ++ digits ++ codes "}"

abbrev pub meaning : Piece → ℕ
meaning (Itself c) = c
meaning LineFeed = 10
meaning Tab = 9
meaning Backslash = 92
meaning Quote = 34
meaning Return = 13
meaning (Scalar digits) = digits_value 16 digits

abbrev pub is_hex_digit : ℕ → Bool
is_hex_digit c = is_digit c 16

-- a character but `\` stands for itself, and 1 to 6 hexadecimal digits for a scalar value; a
-- printed text has two escapes more than a value
abbrev pub IsPiece : (printed : Bool) → Piece → Type 0
IsPiece printed (Itself c) = IsScalar c × (c ≢ 92)
IsPiece printed LineFeed = Unit {0}
IsPiece printed Tab = Unit {0}
IsPiece printed Backslash = Unit {0}
IsPiece printed Quote = printed ≡ true
IsPiece printed Return = printed ≡ true
IsPiece printed (Scalar digits) = (0 < length digits) × (length digits ≤ 6)
    × (list_all is_hex_digit digits ≡ true) × IsScalar (digits_value 16 digits)

abbrev pub ArePieces : (printed : Bool) → List Piece → Type 0
ArePieces printed [] = Unit {0}
ArePieces printed (p ∷ ps) = IsPiece printed p × ArePieces printed ps

-- a text of characters spells these characters
abbrev pub SpellsChars : (printed : Bool) → (text chars : List ℕ) → Type 0
SpellsChars printed text chars =
    (pieces : List Piece) × ArePieces printed pieces × (text ≡ flat_map spelling pieces)
    × (chars ≡ map meaning pieces)

-- the bytes of such a text, which are UTF-8
abbrev pub SpellsBytes : (printed : Bool) → (bytes chars : List ℕ) → Type 0
SpellsBytes printed bytes chars =
    (text : List ℕ) × (all_scalars text ≡ true) × (encode_utf8_all text ≡ bytes)
    × SpellsChars printed text chars

abbrev pub IsValue : List ℕ → List ℕ → Type 0
IsValue bytes value = SpellsBytes false bytes value

-- ---- acts

-- parts with one space between
abbrev pub spaced : List (List ℕ) → List ℕ
spaced parts = join_with_byte 32 parts

-- the line spells this act
abbrev pub Spells : List ℕ → Act → Type 0
Spells line (Select anchor focus) =
    (a f : List ℕ) × (line ≡ spaced (codes "select" ∷ a ∷ f ∷ [])) × IsPoint a anchor
    × IsPoint f focus
Spells line Unselect = line ≡ codes "unselect"
Spells line (Mark name anchor focus) =
    (a f : List ℕ) × (line ≡ spaced (codes "mark" ∷ name ∷ a ∷ f ∷ [])) × IsName name
    × IsPoint a anchor
    × IsPoint f focus
Spells line (Unmark name) = (line ≡ spaced (codes "unmark" ∷ name ∷ [])) × IsName name
Spells line (Exec name value) =
    IsName name
    × (((line ≡ spaced (codes "exec" ∷ name ∷ [])) × (value ≡ []))
    ⊎ ((bytes : List ℕ) × (line ≡ spaced (codes "exec" ∷ name ∷ bytes ∷ [])) × IsValue bytes value))
Spells line (Query kind name) =
    (line ≡ spaced (codes "query" ∷ query_word kind ∷ name ∷ [])) × IsName name
Spells line (Undo count) = (digits : List ℕ) × (line ≡ spaced (codes "undo" ∷ digits ∷ []))
    × IsNumber digits count × (0 < count)
Spells line (Redo count) = (digits : List ℕ) × (line ≡ spaced (codes "redo" ∷ digits ∷ []))
    × IsNumber digits count × (0 < count)
Spells line (Probe path) =
    (text : List ℕ) × (line ≡ spaced (codes "probe" ∷ text ∷ [])) × IsPath text path
Spells line Html = line ≡ codes "html"
Spells line Tree = line ≡ codes "tree"
Spells line Points = line ≡ codes "points"
Spells line Stat = line ≡ codes "stat"
Spells line Log = line ≡ codes "log"

-- ---- faults

-- how many bytes a line may have
abbrev pub line_limit : ℕ
line_limit = 8192

-- the line isn't too long, and its first word is no act's
abbrev pub IsUnknown : List ℕ → Type 0
IsUnknown line = (length line ≤ line_limit) × ((verb : Verb) → ¬ (BeginsWith line verb))

-- the line isn't too long, its first word is an act's, and it spells no act
abbrev pub IsOutside : List ℕ → Type 0
IsOutside line = (length line ≤ line_limit) × ((verb : Verb) × BeginsWith line verb)
    × ((act : Act) → ¬ (Spells line act))
