-- Values of text-decoration. A text is a list of characters, and its words are what spaces part.
use Rattle.std.specs.Prelude.{ℕ, Bool, true, false, not, ◌||◌, if◌then◌else◌, List, [], ◌∷◌, ◌++◌, Option, Some, None, bytes_eq, codes, filter}
use Rattle.std.specs.List.{list_any, list_all, slice_split, join_with_byte}
use Rattle.css_value.specs.StyleText.{is_space, is_empty}
use Rattle.css_value.specs.declared.decoration.DecorationLine.{DecorationLine}
use Rattle.css_value.specs.declared.decoration.DecorationLine.TheVariants as line
use Rattle.css_value.specs.declared.decoration.TextDecoration.{TextDecoration}

-- the words of a text
unfoldable pub words : List ℕ → List (List ℕ)
words text = filter (λ word. not (is_empty word)) (slice_split is_space text)

-- what stands before the first space of a text, and the text from there on
abbrev pub before_space : List ℕ → List ℕ
before_space [] = []
before_space (c ∷ text) = if is_space c then [] else c ∷ before_space text

abbrev pub from_space : List ℕ → List ℕ
from_space [] = []
from_space (c ∷ text) = if is_space c then c ∷ text else from_space text

-- the word that names a line
abbrev pub line_word : DecorationLine → List ℕ
line_word line.Underline = codes "underline"
line_word line.Overline = codes "overline"
line_word line.LineThrough = codes "line-through"

-- the line's word is among the words of a text
unfoldable pub has_line : List ℕ → DecorationLine → Bool
has_line text sought = list_any (λ word. bytes_eq (line_word sought) word) (words text)

-- the word names a line
abbrev pub names_line : List ℕ → Bool
names_line word =
    bytes_eq (line_word line.Underline) word
    || bytes_eq (line_word line.Overline) word
    || bytes_eq (line_word line.LineThrough) word

-- there are words, and each names a line
unfoldable pub are_lines : List (List ℕ) → Bool
are_lines [] = false
are_lines (word ∷ more) = list_all names_line (word ∷ more)

-- the lines that the words of a text name
unfoldable pub lines_in : List ℕ → TextDecoration
lines_in text = record {
  underline = has_line text line.Underline;
  overline = has_line text line.Overline;
  line_through = has_line text line.LineThrough;
}

abbrev pub no_lines : TextDecoration
no_lines = record { underline = false; overline = false; line_through = false }

-- `none`, or words that all name lines
unfoldable pub text_decoration_of : List ℕ → Option TextDecoration
text_decoration_of text =
    if bytes_eq (codes "none") text then Some no_lines
    else if are_lines (words text) then Some (lines_in text) else None

-- the words but those that name this line, joined by one space
unfoldable pub without_line : List ℕ → DecorationLine → List ℕ
without_line text gone =
    join_with_byte 32 (filter (λ word. not (bytes_eq (line_word gone) word)) (words text))

-- a line's word where it is drawn
abbrev pub drawn : Bool → DecorationLine → List (List ℕ)
drawn true named = line_word named ∷ []
drawn false named = []

abbrev pub words_or_none : List (List ℕ) → List ℕ
words_or_none [] = codes "none"
words_or_none (word ∷ more) = join_with_byte 32 (word ∷ more)

-- the words of the lines that are drawn, in this order and joined by one space, or `none`
unfoldable pub text_decoration_text : TextDecoration → List ℕ
text_decoration_text d =
    words_or_none (drawn d.underline line.Underline ++ (drawn d.overline line.Overline
    ++ drawn d.line_through line.LineThrough))
