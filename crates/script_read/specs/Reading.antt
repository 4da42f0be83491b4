-- The act that a line spells, computed.
use Rattle.std.specs.Prelude.{ℕ, ◌+◌, ◌*◌, ◌^◌, ◌<◌, ◌≤◌, Bool, true, false, ◌&&◌, nat_lt, ◌==◌, if◌then◌else◌, List, [], ◌∷◌, ◌++◌, length, codes, Option, Some, None, option_to_list}
use denote.Ref.{Bor}
use Rattle.std.specs.Char.{digit_value}
use Rattle.std.specs.Option.{option_map}
use Rattle.std.specs.List.{find}
use Rattle.std.specs.Str.{bytes_eq, chars, is_utf8}
use Rattle.std.specs.Str.Parse.{digits_value}
use Rattle.std.proofs.Math.Utf8.{scalar}
use Rattle.html_names.specs.Queries.{query_kind_of}
use Rattle.script_read.specs.declared.act.Act.{Act}
use Rattle.script_read.specs.declared.act.Act.TheVariants.{Select, Unselect, Mark, Unmark, Exec, Query, Undo, Redo, Probe, Html, Tree, Points, Stat, Log}
use Rattle.script_read.specs.declared.act.Place.{Place}
use Rattle.script_read.specs.declared.verb.Verb.{Verb}
use Rattle.script_read.specs.declared.verb.Verb.TheVariants as verbs
use Rattle.script_read.specs.declared.value.Escape.{Escape}
use Rattle.script_read.specs.declared.value.Escape.TheVariants as escapes
use Rattle.script_read.specs.Acts.{word_of, is_name, is_number, is_hex_digit, line_limit, Spells, IsUnknown, IsOutside}

infixl 10 ◌>>=◌
abbrev pub ◌>>=◌ : {A B : Type 0} → Option A → (A → Option B) → Option B
None >>= f = None
(Some x) >>= f = f x

-- ---- parts

abbrev pub before_cut : ℕ → List ℕ × List ℕ → List ℕ × List ℕ
before_cut b p = (b ∷ p.0, p.1)

-- what stands before the first c, and what stands after it
abbrev pub cut : ℕ → List ℕ → Option (List ℕ × List ℕ)
cut c [] = None
cut c (b ∷ bs) = if b == c then Some ([], bs) else option_map (before_cut b) (cut c bs)

abbrev pub both : Bor (List ℕ) × Bor (List ℕ) → List ℕ × List ℕ
both p = (p.0.now, p.1.now)

abbrev pub name_of : List ℕ → Option (List ℕ)
name_of text = if is_name text then Some text else None

abbrev pub number_of : List ℕ → Option ℕ
number_of text = if is_number text then Some (digits_value 10 text) else None

-- from 1
abbrev pub count_of : List ℕ → Option ℕ
count_of text = number_of text >>= λ n. if n == 0 then None else Some n

-- ---- paths and points

-- the texts between the c
abbrev pub before_first : ℕ → List (List ℕ) → List (List ℕ)
before_first b [] = (b ∷ []) ∷ []
before_first b (text ∷ texts) = (b ∷ text) ∷ texts

abbrev pub split : ℕ → List ℕ → List (List ℕ)
split c [] = [] ∷ []
split c (b ∷ bs) = if b == c then [] ∷ split c bs else before_first b (split c bs)

abbrev pub numbers_of : List (List ℕ) → Option (List ℕ)
numbers_of [] = Some []
numbers_of (text ∷ texts) = number_of text >>= λ n. option_map (λ ns. n ∷ ns) (numbers_of texts)

unfoldable pub indexes_of : List ℕ → Option (List ℕ)
indexes_of text = numbers_of (split 47 text)

unfoldable pub path_of : List ℕ → Option (List ℕ)
path_of text = if bytes_eq text (codes ".") then Some [] else indexes_of text

abbrev pub place_at : List ℕ → ℕ → Place
place_at path offset = record { path = path; offset = offset }

unfoldable pub point_of : List ℕ → Option Place
point_of text =
    cut 58 text >>= λ parts. number_of parts.1 >>= λ offset. path_of parts.0 >>= λ path.
    Some (place_at path offset)

-- two points with a space between
unfoldable pub points_of : List ℕ → Option (Place × Place)
points_of text =
    cut 32 text >>= λ parts. point_of parts.0 >>= λ anchor. point_of parts.1 >>= λ focus.
    Some (anchor, focus)

-- ---- values and texts

abbrev pub Step : Type 0
Step = Escape × Option ℕ

-- so many digits write no more than this
abbrev pub Fits : Escape → Type 0
Fits escapes.Outside = Unit {0}
Fits escapes.Backslash = Unit {0}
Fits escapes.Letter = Unit {0}
Fits (escapes.Digits count number) = (count ≤ 6) × (number < 16 ^ count)

abbrev pub letter_read : Bool → ℕ → Option Step
letter_read printed c =
    if c == 110 then Some (escapes.Outside, Some 10)
    else (if c == 116 then Some (escapes.Outside, Some 9)
    else (if c == 92 then Some (escapes.Outside, Some 92)
    else (if c == 117 then Some (escapes.Letter, None)
    else (if printed && c == 34 then Some (escapes.Outside, Some 34)
    else (if printed && c == 114 then Some (escapes.Outside, Some 13)
    else None)))))

abbrev pub closed : ℕ → ℕ → Option Step
closed count number = if count == 0 then None
    else (if scalar number then Some (escapes.Outside, Some number) else None)

abbrev pub digit_read : ℕ → ℕ → ℕ → Option Step
digit_read count number c =
    if count == 6 then None
    else (if is_hex_digit c then
    Some (escapes.Digits (count + 1) (number * 16 + digit_value c), None) else None)

-- one character more; a printed text has two escapes more than a value
abbrev pub stepped : Bool → Escape → ℕ → Option Step
stepped printed escapes.Outside c =
    if c == 92 then Some (escapes.Backslash, None) else Some (escapes.Outside, Some c)
stepped printed escapes.Backslash c = letter_read printed c
stepped printed escapes.Letter c = if c == 123 then Some (escapes.Digits 0 0, None) else None
stepped printed (escapes.Digits count number) c =
    if c == 125 then closed count number else digit_read count number c

abbrev pub is_outside : Escape → Bool
is_outside escapes.Outside = true
is_outside escapes.Backslash = false
is_outside escapes.Letter = false
is_outside (escapes.Digits count number) = false

unfoldable pub value_from : Bool → Escape → List ℕ → Option (List ℕ)
value_from printed state [] = if is_outside state then Some [] else None
value_from printed state (c ∷ cs) =
    stepped printed state c >>= λ step.
    option_map (λ value. option_to_list step.1 ++ value) (value_from printed step.0 cs)

unfoldable pub text_of : Bool → List ℕ → Option (List ℕ)
text_of printed bytes =
    if is_utf8 bytes then value_from printed escapes.Outside (chars bytes) else None

abbrev pub value_of : List ℕ → Option (List ℕ)
value_of bytes = text_of false bytes

abbrev pub printed_of : List ℕ → Option (List ℕ)
printed_of bytes = text_of true bytes

-- ---- acts

unfoldable pub select_of : List ℕ → Option Act
select_of text = points_of text >>= λ points. Some (Select points.0 points.1)

unfoldable pub mark_of : List ℕ → Option Act
mark_of text =
    cut 32 text >>= λ parts. name_of parts.0 >>= λ name. points_of parts.1 >>= λ points.
    Some (Mark name points.0 points.1)

abbrev pub exec_parts : List ℕ → Option (List ℕ × List ℕ) → Option Act
exec_parts text None = name_of text >>= λ name. Some (Exec name [])
exec_parts text (Some parts) =
    name_of parts.0 >>= λ name. value_of parts.1 >>= λ value. Some (Exec name value)

unfoldable pub exec_of : List ℕ → Option Act
exec_of text = exec_parts text (cut 32 text)

unfoldable pub query_of : List ℕ → Option Act
query_of text =
    cut 32 text >>= λ parts. query_kind_of parts.0 >>= λ kind. name_of parts.1 >>= λ name.
    Some (Query kind name)

-- the act that is its word alone
abbrev pub word_act : Verb → Option Act
word_act verbs.Select = None
word_act verbs.Unselect = Some Unselect
word_act verbs.Mark = None
word_act verbs.Unmark = None
word_act verbs.Exec = None
word_act verbs.Query = None
word_act verbs.Undo = None
word_act verbs.Redo = None
word_act verbs.Probe = None
word_act verbs.Html = Some Html
word_act verbs.Tree = Some Tree
word_act verbs.Points = Some Points
word_act verbs.Stat = Some Stat
word_act verbs.Log = Some Log

unfoldable pub unmark_of : List ℕ → Option Act
unmark_of text = name_of text >>= λ name. Some (Unmark name)

unfoldable pub undo_of : List ℕ → Option Act
undo_of text = count_of text >>= λ count. Some (Undo count)

unfoldable pub redo_of : List ℕ → Option Act
redo_of text = count_of text >>= λ count. Some (Redo count)

unfoldable pub probe_of : List ℕ → Option Act
probe_of text = path_of text >>= λ path. Some (Probe path)

-- the act of a word and what follows it after a space
abbrev pub arguments_act : Verb → List ℕ → Option Act
arguments_act verbs.Select text = select_of text
arguments_act verbs.Unselect text = None
arguments_act verbs.Mark text = mark_of text
arguments_act verbs.Unmark text = unmark_of text
arguments_act verbs.Exec text = exec_of text
arguments_act verbs.Query text = query_of text
arguments_act verbs.Undo text = undo_of text
arguments_act verbs.Redo text = redo_of text
arguments_act verbs.Probe text = probe_of text
arguments_act verbs.Html text = None
arguments_act verbs.Tree text = None
arguments_act verbs.Points text = None
arguments_act verbs.Stat text = None
arguments_act verbs.Log text = None

abbrev pub act_of : Verb → Option (List ℕ) → Option Act
act_of verb None = word_act verb
act_of verb (Some text) = arguments_act verb text

-- ---- lines

abbrev pub all_verbs : List Verb
all_verbs =
    verbs.Select ∷ verbs.Unselect ∷ verbs.Mark ∷ verbs.Unmark ∷ verbs.Exec ∷ verbs.Query
    ∷ verbs.Undo
    ∷ verbs.Redo ∷ verbs.Probe ∷ verbs.Html ∷ verbs.Tree ∷ verbs.Points ∷ verbs.Stat ∷ verbs.Log
    ∷ []

abbrev pub verb_of : List ℕ → Option Verb
verb_of word = find (λ verb. bytes_eq (word_of verb) word) all_verbs

-- what stands before the first space of a line, and what after it
abbrev pub first_word : List ℕ → Option (List ℕ × List ℕ) → List ℕ
first_word line None = line
first_word line (Some parts) = parts.0

abbrev pub after_word : Option (List ℕ × List ℕ) → Option (List ℕ)
after_word parts = option_map (λ p. p.1) parts

abbrev pub now_of : Option (Bor (List ℕ)) → Option (List ℕ)
now_of rest = option_map (λ text. text.now) rest

-- what a line is
pub data Line : Type 0 where
  Long : Line
  Unknown : Line
  Known : (act : Option Act) → Line

abbrev pub known_line : Option (List ℕ) → Option Verb → Line
known_line rest None = Unknown
known_line rest (Some verb) = Known (act_of verb rest)

abbrev pub line_parts : List ℕ → Option (List ℕ × List ℕ) → Line
line_parts line parts = known_line (after_word parts) (verb_of (first_word line parts))

unfoldable pub line_of : List ℕ → Line
line_of line = if nat_lt line_limit (length line) then Long else line_parts line (cut 32 line)

-- what it means, by the grammar: too long; no act's word; outside the grammar; spelled
abbrev pub IsLine : List ℕ → Line → Type 0
IsLine line Long = line_limit < length line
IsLine line Unknown = IsUnknown line
IsLine line (Known None) = IsOutside line
IsLine line (Known (Some act)) = (length line ≤ line_limit) × Spells line act
