-- Step lines: which line stands for which step. A line is a list of bytes, without its LF.
use Rattle.std.specs.Prelude.{◌≡◌, ℕ, ◌+◌, ◌<◌, ◌^◌, Bool, true, false, ◌&&◌, nat_lt, ◌==◌, if◌then◌else◌, List, [], ◌∷◌, ◌++◌, length, Option, Some, None, codes}
use Rattle.std.specs.Fmt.{decimal}
use Rattle.std.specs.List.{flat_map, list_all}
use Rattle.std.specs.Option.{IfSome}
use Rattle.std.specs.Str.{all_scalars, chars, is_utf8}
use Rattle.page_grammar.specs.DomModel.declared.attributes.Attribute.{Attribute}
use Rattle.page_grammar.specs.DomModel.AttributeList.{IsDistinctNames}
use Rattle.page_write.specs.EscapedText.Escaped.{escaped_bytes}
use Rattle.page_grammar.specs.Chars.{lower, is_letter, is_name_char, is_attribute_name_char}
use Rattle.page_write.specs.Html.{start_tag}
use Rattle.step_text.specs.declared.line.Made.{Made}
use Rattle.step_text.specs.declared.line.Made.TheVariants as made
use Rattle.step_text.specs.declared.line.StepLine.{StepLine}
use Rattle.step_text.specs.declared.line.StepLine.TheVariants.{Entry, Make, Insert, Remove, Move, Words, Tag}

-- ---- the line of a step

-- a text in quotes, on one line
abbrev pub quoted : List ℕ → List ℕ
quoted words = codes "\"" ++ escaped_bytes words ++ codes "\""

-- a byte of a start tag: `\`, LF, CR and tab as escapes
abbrev pub tag_byte : ℕ → List ℕ
tag_byte b =
    if b == 92 then codes "\\\\"
    else (if b == 10 then codes "\\n"
    else (if b == 13 then codes "\\r"
    else (if b == 9 then codes "\\t"
    else b ∷ [])))

unfoldable pub tag_bytes : List ℕ → List ℕ
tag_bytes bytes = flat_map tag_byte bytes

-- a start tag, on one line
abbrev pub tag_text : List ℕ → List Attribute → List ℕ
tag_text name attributes = tag_bytes (start_tag name attributes)

abbrev pub made_text : Made → List ℕ
made_text (made.Element name attributes) = tag_text name attributes
made_text (made.Words words) = quoted words

-- the child before which a node goes, or `-` for the end
abbrev pub before_text : Option ℕ → List ℕ
before_text None = codes "-"
before_text (Some label) = decimal label

abbrev pub line_text : StepLine → List ℕ
line_text Entry = codes "entry"
line_text (Make label new) = codes "make " ++ decimal label ++ codes " " ++ made_text new
line_text (Insert label parent before) =
    codes "insert " ++ decimal label ++ codes " " ++ decimal parent ++ codes " "
    ++ before_text before
line_text (Remove label) = codes "remove " ++ decimal label
line_text (Move label parent before) =
    codes "move " ++ decimal label ++ codes " " ++ decimal parent ++ codes " " ++ before_text before
line_text (Words label words) = codes "words " ++ decimal label ++ codes " " ++ quoted words
line_text (Tag label name attributes) =
    codes "tag " ++ decimal label ++ codes " " ++ tag_text name attributes

-- ---- the steps that lines stand for

-- at most nine digits
abbrev pub IsLabel : ℕ → Type 0
IsLabel label = label < 10 ^ 9

abbrev pub is_lowered : ℕ → Bool
is_lowered c = lower c == c

-- an element's name in the grammar of pages, in lower case
unfoldable pub is_element_name : List ℕ → Bool
is_element_name [] = false
is_element_name (b ∷ bs) =
    (is_letter b && is_lowered b) && list_all (λ c. is_name_char c && is_lowered c) bs

-- the UTF-8 of one or more characters of an attribute's name there
abbrev pub is_attribute_text : List ℕ → Bool
is_attribute_text text =
    nat_lt 0 (length text) && list_all (λ c. is_attribute_name_char c && is_lowered c) (chars text)

unfoldable pub is_attribute_name : List ℕ → Bool
is_attribute_name name = is_utf8 name && is_attribute_text name

abbrev pub AreAttributes : List Attribute → Type 0
AreAttributes [] = Unit {0}
AreAttributes (a ∷ list) =
    (is_attribute_name a.name ≡ true) × (all_scalars a.value ≡ true) × AreAttributes list

abbrev pub IsTag : List ℕ → List Attribute → Type 0
IsTag name attributes =
    (is_element_name name ≡ true) × AreAttributes attributes × IsDistinctNames attributes

abbrev pub IsMade : Made → Type 0
IsMade (made.Element name attributes) = IsTag name attributes
IsMade (made.Words words) = all_scalars words ≡ true

abbrev pub IsStepLine : StepLine → Type 0
IsStepLine Entry = Unit {0}
IsStepLine (Make label new) = IsLabel label × IsMade new
IsStepLine (Insert label parent before) = IsLabel label × IsLabel parent × IfSome before IsLabel
IsStepLine (Remove label) = IsLabel label
IsStepLine (Move label parent before) = IsLabel label × IsLabel parent × IfSome before IsLabel
IsStepLine (Words label words) = IsLabel label × (all_scalars words ≡ true)
IsStepLine (Tag label name attributes) = IsLabel label × IsTag name attributes
