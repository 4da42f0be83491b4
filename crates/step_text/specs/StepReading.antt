-- The step of a line, computed. It is right where the line is one of a step; which line that is,
-- the step's own text tells.
use Rattle.std.specs.Prelude.{◌≡◌, ℕ, ◌-◌, Bool, true, false, ◌==◌, if◌then◌else◌, List, [], ◌∷◌, ◌++◌, length, take, drop, Option, Some, None, Result, Ok, Err, codes, encode_utf8}
use Rattle.std.specs.Option.{option_map}
use Rattle.std.specs.Str.{bytes_eq, chars, is_utf8}
use Rattle.page_grammar.specs.DomModel.declared.attributes.Attribute.{Attribute}
use Rattle.page_grammar.specs.DomModel.AttributeList.{set_in}
use Rattle.script_read.specs.Reading.{◌>>=◌, cut, split, number_of, printed_of}
use Rattle.step_text.specs.declared.line.Made.{Made}
use Rattle.step_text.specs.declared.line.Made.TheVariants as made
use Rattle.step_text.specs.declared.line.StepLine.{StepLine}
use Rattle.step_text.specs.declared.line.StepLine.TheVariants.{Entry, Make, Insert, Remove, Move, Words, Tag}
use Rattle.step_text.specs.declared.line.StepFault.{StepFault}
use Rattle.step_text.specs.declared.line.StepFault.TheVariants.{Syntax, BadLabel, BadPlace, TooDeep, Memory}
use Rattle.step_text.specs.declared.tag.Reference.{Reference}
use Rattle.step_text.specs.declared.tag.Reference.TheVariants.{Outside, Ampersand, Named}
use Rattle.step_text.specs.StepLine.{is_element_name, is_attribute_name, line_text}

-- ---- answers

-- a reader answers no fault of applied steps
abbrev pub Fails : {X : Type 0} → StepFault → Option X → Type 0
Fails Syntax read = read ≡ None
Fails BadLabel read = ⊥
Fails BadPlace read = ⊥
Fails TooDeep read = ⊥
Fails Memory read = Unit {0}

abbrev pub Reads : {X : Type 0} → Result X StepFault → Option X → Type 0
Reads (Ok x) read = read ≡ Some x
Reads (Err fault) read = Fails fault read

-- ---- tags

-- what is given for the bytes of a text, one after the other, from a state on
unfoldable pub run : {S : Type 0} → (S → ℕ → List ℕ) → (S → ℕ → S) → S → List ℕ → List ℕ
run gives next state [] = []
run gives next state (b ∷ bs) = gives state b ++ run gives next (next state b) bs

-- without the first and the last byte
abbrev pub within : List ℕ → List ℕ
within text = take (length text - 2) (drop 1 text)

-- what a letter after `\` stands for
abbrev pub unescaped_byte : ℕ → ℕ
unescaped_byte b = if b == 110 then 10 else (if b == 114 then 13 else (if b == 116 then 9 else b))

-- what one byte more gives, where the byte before may be a `\`
abbrev pub unescaped_gives : Bool → ℕ → List ℕ
unescaped_gives true b = unescaped_byte b ∷ []
unescaped_gives false b = if b == 92 then [] else b ∷ []

-- whether that byte is such a `\`
abbrev pub escapes : Bool → ℕ → Bool
escapes true b = false
escapes false b = b == 92

-- a text without escapes
abbrev pub unescaped : Bool → List ℕ → List ℕ
unescaped escaped text = run unescaped_gives escapes escaped text

-- the character of a reference, by the first letter of its name
abbrev pub referenced : ℕ → ℕ
referenced b =
    if b == 97 then 38
    else (if b == 108 then 60
    else (if b == 103 then 62
    else (if b == 110 then 160
    else 34)))

-- what one byte more of a value gives, and where the reader stands then
abbrev pub referenced_gives : Reference → ℕ → List ℕ
referenced_gives Outside b = if b == 38 then [] else b ∷ []
referenced_gives Ampersand b = encode_utf8 (referenced b)
referenced_gives Named b = []

abbrev pub after : Reference → ℕ → Reference
after Outside b = if b == 38 then Ampersand else Outside
after Ampersand b = Named
after Named b = if b == 59 then Outside else Named

-- a value without references
abbrev pub unreferenced : List ℕ → List ℕ
unreferenced text = run referenced_gives after Outside text

abbrev pub decoded : List ℕ → Option (List ℕ)
decoded bytes = if is_utf8 bytes then Some (chars bytes) else None

abbrev pub element_name_of : List ℕ → Option (List ℕ)
element_name_of name = if is_element_name name then Some name else None

abbrev pub attribute_name_of : List ℕ → Option (List ℕ)
attribute_name_of name = if is_attribute_name name then Some name else None

-- an attribute of what stands before the opening quote, and between the quotes
unfoldable pub attribute_of : List ℕ → List ℕ → Option Attribute
attribute_of head value =
    attribute_name_of (within head) >>= λ name. decoded (unreferenced value) >>= λ chars.
    Some (record { name = name; value = chars })

abbrev pub with_attribute : List Attribute → Attribute → List Attribute
with_attribute list a = set_in list a.name a.value

-- the list afterwards is the one with the attribute that is read
abbrev pub Adds : {X : Type 0} → Result X StepFault → (old new : List Attribute) → Option Attribute
    → Type 0
Adds (Ok x) old new read = option_map (with_attribute old) read ≡ Some new
Adds (Err fault) old new read = Fails fault read

-- more attributes, of the parts of a text between its quotes
abbrev pub attributes_from : List Attribute → List (List ℕ) → Option (List Attribute)
attributes_from list [] = None
attributes_from list (last ∷ []) = Some list
attributes_from list (head ∷ (value ∷ parts)) =
    attribute_of head value >>= λ a. attributes_from (with_attribute list a) parts

unfoldable pub attributes_of : List ℕ → Option (List Attribute)
attributes_of text = attributes_from [] (split 34 text)

-- a name, and what follows it from the space on
abbrev pub name_parts : List ℕ → Option (List ℕ × List ℕ) → List ℕ × List ℕ
name_parts text None = (text, [])
name_parts text (Some parts) = (parts.0, drop (length parts.0) text)

abbrev pub tag_parts : List ℕ → List ℕ × List ℕ
tag_parts text = name_parts (within text) (cut 32 (within text))

abbrev pub named_tag : List ℕ × List ℕ → Option (List ℕ × List Attribute)
named_tag parts = element_name_of parts.0 >>= λ name. attributes_of parts.1 >>= λ attributes.
    Some (name, attributes)

unfoldable pub start_tag_of : List ℕ → Option (List ℕ × List Attribute)
start_tag_of text = named_tag (tag_parts text)

abbrev pub tag_of : List ℕ → Option (List ℕ × List Attribute)
tag_of text = start_tag_of (unescaped false text)

-- ---- steps

abbrev pub words_of : List ℕ → Option (List ℕ)
words_of text = printed_of (within text)

abbrev pub is_quoted : List ℕ → Bool
is_quoted [] = false
is_quoted (b ∷ bs) = b == 34

unfoldable pub made_of : List ℕ → Option Made
made_of text =
    if is_quoted text then option_map made.Words (words_of text)
    else tag_of text >>= λ tag. Some (made.Element tag.0 tag.1)

abbrev pub before_of : List ℕ → Option (Option ℕ)
before_of text = if bytes_eq text (codes "-") then Some None else option_map Some (number_of text)

-- a label, and what follows it after a space
unfoldable pub labelled : List ℕ → Option (ℕ × List ℕ)
labelled text = cut 32 text >>= λ parts. option_map (λ label. (label, parts.1)) (number_of parts.0)

-- a parent, and the child before which a node goes
unfoldable pub place_of : List ℕ → Option (ℕ × Option ℕ)
place_of text = labelled text >>= λ parent. before_of parent.1 >>= λ before. Some (parent.0, before)

unfoldable pub make_of : List ℕ → Option StepLine
make_of text = labelled text >>= λ node. made_of node.1 >>= λ new. Some (Make node.0 new)

unfoldable pub insert_of : List ℕ → Option StepLine
insert_of text =
    labelled text >>= λ node. place_of node.1 >>= λ place. Some (Insert node.0 place.0 place.1)

unfoldable pub remove_of : List ℕ → Option StepLine
remove_of text = number_of text >>= λ label. Some (Remove label)

unfoldable pub move_of : List ℕ → Option StepLine
move_of text =
    labelled text >>= λ node. place_of node.1 >>= λ place. Some (Move node.0 place.0 place.1)

unfoldable pub words_step_of : List ℕ → Option StepLine
words_step_of text =
    labelled text >>= λ node. words_of node.1 >>= λ words. Some (Words node.0 words)

unfoldable pub tag_step_of : List ℕ → Option StepLine
tag_step_of text = labelled text >>= λ node. tag_of node.1 >>= λ tag. Some (Tag node.0 tag.0 tag.1)

-- the step of a line's first word and what follows it after a space
unfoldable pub arguments_of : List ℕ → List ℕ → Option StepLine
arguments_of word text =
    if bytes_eq word (codes "make") then make_of text
    else (if bytes_eq word (codes "insert") then insert_of text
    else (if bytes_eq word (codes "remove") then remove_of text
    else (if bytes_eq word (codes "move") then move_of text
    else (if bytes_eq word (codes "words") then words_step_of text
    else (if bytes_eq word (codes "tag") then tag_step_of text
    else None)))))

abbrev pub parts_of : List ℕ → Option (List ℕ × List ℕ) → Option StepLine
parts_of line None = if bytes_eq line (codes "entry") then Some Entry else None
parts_of line (Some parts) = arguments_of parts.0 parts.1

unfoldable pub step_of : List ℕ → Option StepLine
step_of line = parts_of line (cut 32 line)

-- ---- the step of a line

abbrev pub confirmed : List ℕ → Option StepLine → Option StepLine
confirmed line None = None
confirmed line (Some step) = if bytes_eq (line_text step) line then Some step else None

-- the step that has this line, if there is one
unfoldable pub step_in : List ℕ → Option StepLine
step_in line = confirmed line (step_of line)
