-- Canonicalizing whitespace (HTML Editing APIs): the blanks round a point become a canonical
-- sequence. The steps are those of docs/ALGORITHMS.md.
use Rattle.std.specs.Prelude.{ℕ, zero, suc, ◌+◌, ◌-◌, ◌==◌, nat_lt, Bool, true, false, ◌||◌, ◌&&◌, not, List, [], ◌∷◌, length, Option, Some, None, is_some, slice_get, if◌then◌else◌}
use Rattle.std.specs.Option.{option_map, option_map_or}
use Rattle.inline_value.specs.CssValue.declared.values.WhiteSpace.{WhiteSpace}
use Rattle.inline_value.specs.CssValue.declared.values.WhiteSpace.TheVariants as white_space_values
use Rattle.edit_model.specs.DomModel.declared.Content.{Content}
use Rattle.edit_model.specs.DomModel.declared.Content.TheVariants.{Document, Element, Words, Remark}
use Rattle.edit_model.specs.DomModel.Contents.{length_of}
use Rattle.edit_model.specs.DomModel.Forest.{Forest, either, is_label, parent_of, content_of}
use Rattle.edit_model.specs.LiveRange.declared.places.Point.{Point}
use Rattle.inline_value.specs.NodeStyles.Resolved.{white_space}
use Rattle.inline_value.specs.NodeTests.BlockPoints.{child_before, child_at}
use Rattle.inline_value.specs.NodeTests.LineBreaks.{follows_break, precedes_break}
use Rattle.edit_model.specs.State.{State}
use Rattle.edit_model.specs.Confined.{is_inside, is_there}
use Rattle.edit_model.specs.Run.{Run, ◌>>=◌, ◌>>◌, answer, done, look, given, while_at_most, replace}
use Rattle.inline_value.specs.WrapSplit.Walks.{turn_bound}
use Rattle.delete_core.specs.declared.scanning.Scan.{Scan}
use Rattle.delete_core.specs.declared.laying.Laid.{Laid}
use Rattle.delete_core.specs.Spaces.{soft, is_blank, canonical_spaces}
use Rattle.delete_core.specs.Places.{at, start_in, end_in, before_in, after_in, after_node, if_inside, comes_before, walk_points}

-- ---- blanks

abbrev pub chars_of_words : Content → List ℕ
chars_of_words Document = []
chars_of_words (Element name attributes) = []
chars_of_words (Words chars) = chars
chars_of_words (Remark chars) = []

-- the characters of a text; another node has none
unfoldable pub text_of : Forest Content → ℕ → List ℕ
text_of f l = option_map_or chars_of_words (content_of f l) []

-- the character at a point of a text, and the one before it
unfoldable pub char_at : Forest Content → Point → Option ℕ
char_at f p = slice_get (text_of f p.label) p.offset

abbrev pub get_before : List ℕ → ℕ → Option ℕ
get_before chars zero = None
get_before chars (suc o) = slice_get chars o

unfoldable pub char_before : Forest Content → Point → Option ℕ
char_before f p = get_before (text_of f p.label) p.offset

abbrev pub keeps_blanks : WhiteSpace → Bool
keeps_blanks white_space_values.Normal = false
keeps_blanks white_space_values.NoWrap = false
keeps_blanks white_space_values.Pre = true
keeps_blanks white_space_values.PreWrap = true
keeps_blanks white_space_values.PreLine = false

-- blanks under this parent are made canonical
unfoldable pub is_collapsing : Forest Content → Option ℕ → Bool
is_collapsing f parent = option_map_or (λ p. not (keeps_blanks (white_space f p))) parent false

-- the character, where it is a blank that is made canonical
abbrev pub blank_in : Forest Content → ℕ → Option ℕ → Option ℕ
blank_in f l None = None
blank_in f l (Some c) = if is_blank c && is_collapsing f (parent_of f l) then Some c else None

unfoldable pub blank_at : Forest Content → Point → Option ℕ
blank_at f p = blank_in f p.label (char_at f p)

unfoldable pub blank_before : Forest Content → Point → Option ℕ
blank_before f p = blank_in f p.label (char_before f p)

-- ---- steps into a child and out to the parent, both inside

unfoldable pub into_child_before : State → Point → Option Point
into_child_before s p =
    option_map (end_in s.trees) (if_inside s (child_before s.trees p.label p.offset))

unfoldable pub into_child_at : State → Point → Option Point
into_child_at s p = option_map start_in (if_inside s (child_at s.trees p.label p.offset))

unfoldable pub out_to_start : State → ℕ → Option Point
out_to_start s l = before_in s.trees l (if_inside s (parent_of s.trees l))

unfoldable pub out_to_end : State → ℕ → Option Point
out_to_end s l = after_in s.trees l (if_inside s (parent_of s.trees l))

-- the point is the start of a node that is there and follows a line break, or the end of one that
-- precedes one
unfoldable pub starts_line : Forest Content → Point → Bool
starts_line f p = is_there f p.label && ((p.offset == 0) && follows_break f p.label)

unfoldable pub ends_line : Forest Content → Point → Bool
ends_line f p =
    is_there f p.label && ((p.offset == length_of f p.label) && precedes_break f p.label)

-- ---- canonicalize whitespace, step 2: back to where the blanks begin

-- step 2, second line
unfoldable pub out_back : State → Point → Option Point
out_back s p =
    if (p.offset == 0) && not (follows_break s.trees p.label) then out_to_start s p.label else None

-- step 2, third line
unfoldable pub over_blank : State → Point → Option Point
over_blank s p = option_map (λ _. at p.label (p.offset - 1)) (blank_before s.trees p)

-- canonicalize whitespace, step 2: one turn
unfoldable pub back_step : State → Point → Option Point
back_step s p = either (into_child_before s p) (either (out_back s p) (over_blank s p))

-- canonicalize whitespace, step 2
unfoldable pub start_of_blanks : State → Point → Point
start_of_blanks s p = walk_points (back_step s) (turn_bound s) p

-- ---- canonicalize whitespace, steps 3 and 4: on to where they end, counting them; with `fix` on,
-- a U+0020 after another one or at the start of a line goes

-- step 3
unfoldable pub first_scan : State → Point → Scan
first_scan s p = record { end = p; count = 0; after_soft = starts_line s.trees p; going = true }

abbrev pub stopped : Scan → Scan
stopped a = record a { going = false }

abbrev pub taken_to : Scan → Point → Scan
taken_to a p = record a { end = p }

-- past a blank, which counts
abbrev pub passed : Scan → ℕ → Scan
passed a c = record a {
  end = at a.end.label (a.end.offset + 1);
  count = a.count + 1;
  after_soft = (c == soft);
}

-- step 4, second line
unfoldable pub out_on : State → Point → Option Point
out_on s p =
    if (p.offset == length_of s.trees p.label) && not (precedes_break s.trees p.label) then
    out_to_end s p.label
    else None

-- step 4, first and second line
unfoldable pub on_step : State → Point → Option Point
on_step s p = either (into_child_at s p) (out_on s p)

-- step 4, third line
unfoldable pub scan_blank : Bool → Scan → ℕ → Run Scan
scan_blank fix a c =
    if fix && (a.after_soft && (c == soft)) then (replace a.end.label a.end.offset 1 [] >> answer a)
    else answer (passed a c)

-- canonicalize whitespace, step 4, third and fourth line
unfoldable pub scan_char : Bool → Scan → Run Scan
scan_char fix a = look λ s. given (blank_at s.trees a.end) (answer (stopped a)) (scan_blank fix a)

-- canonicalize whitespace, step 4: one turn
unfoldable pub scan_turn : Bool → Scan → Run Scan
scan_turn fix a = look λ s. given (on_step s a.end) (scan_char fix a) λ q. answer (taken_to a q)

-- canonicalize whitespace, step 4: until it stops
abbrev pub scans : State → Scan → Bool
scans s a = a.going

-- steps 3 and 4
unfoldable pub scan_blanks : Bool → Point → Run Scan
scan_blanks fix p = look λ s. while_at_most (turn_bound s) scans (scan_turn fix) (first_scan s p)

-- ---- canonicalize whitespace, step 5: U+0020 at the end of a line goes

-- step 5, second line
unfoldable pub out_front : State → Point → Option Point
out_front s p = if p.offset == 0 then out_to_start s p.label else None

-- step 5, first and second line
unfoldable pub trim_step : State → Point → Option Point
trim_step s p = either (into_child_before s p) (out_front s p)

-- step 5, third line
unfoldable pub ends_softly : State → Point → Bool
ends_softly s p = is_label (blank_before s.trees p) soft && ends_line s.trees p

abbrev pub shrunk : Scan → Scan
shrunk a = record a { end = at a.end.label (a.end.offset - 1); count = a.count - 1 }

-- canonicalize whitespace, step 5, third and fourth line
unfoldable pub trim_char : Scan → Run Scan
trim_char a = look λ s.
    if ends_softly s a.end then (replace a.end.label (a.end.offset - 1) 1 [] >> answer (shrunk a))
    else answer (stopped a)

-- canonicalize whitespace, step 5: one turn
unfoldable pub trim_turn : Scan → Run Scan
trim_turn a = look λ s. given (trim_step s a.end) (trim_char a) λ q. answer (taken_to a q)

-- canonicalize whitespace, step 5: until it stops, while the start comes before the end
unfoldable pub trims : Point → State → Scan → Bool
trims p s a = a.going && comes_before s.trees p a.end

abbrev pub restarted : Scan → Scan
restarted a = record a { going = true }

-- step 5
unfoldable pub trimmed : Point → Scan → Run Scan
trimmed p a = look λ s. while_at_most (turn_bound s) (trims p) trim_turn (restarted a)

-- canonicalize whitespace, step 5, which `fix` decides
unfoldable pub trimmed_if : Bool → Point → Scan → Run Scan
trimmed_if fix p a = if fix then trimmed p a else answer a

-- ---- canonicalize whitespace, steps 6 and 7: the blanks become those of the canonical sequence

-- step 6
unfoldable pub spaces_for : State → Point → Scan → List ℕ
spaces_for s p a = canonical_spaces a.count (starts_line s.trees p) (ends_line s.trees a.end)

-- step 7: a character that differs gives way
unfoldable pub put_space : Point → ℕ → ℕ → Run (Unit {0})
put_space p c space =
    if c == space then done
    else (replace p.label p.offset 0 (space ∷ []) >> (replace p.label (p.offset + 1) 1 [] >> done))

abbrev pub next_laid : Laid → Laid
next_laid a = record { place = at a.place.label (a.place.offset + 1); laid = a.laid + 1 }

abbrev pub gone_to : Laid → Point → Laid
gone_to a p = record a { place = p }

-- step 7, third line
unfoldable pub lay_char : List ℕ → Laid → ℕ → Run Laid
lay_char spaces a c =
    given (slice_get spaces a.laid) (answer a) λ space. put_space a.place c space
    >> answer (next_laid a)

-- step 7, second line
unfoldable pub lay_out : Laid → Run Laid
lay_out a = look λ s. given (after_node s.trees a.place.label) (answer a) λ q. answer (gone_to a q)

-- canonicalize whitespace, step 7, second and third line
unfoldable pub lay_text : List ℕ → Laid → Run Laid
lay_text spaces a = look λ s. given (char_at s.trees a.place) (lay_out a) (lay_char spaces a)

-- step 7, first line, and then the others
unfoldable pub lay_turn : List ℕ → Laid → Run Laid
lay_turn spaces a = look λ s.
    given (child_at s.trees a.place.label a.place.offset) (lay_text spaces a) λ k.
    answer (gone_to a (start_in k))

-- canonicalize whitespace, step 7: before the end, with characters of the sequence left
unfoldable pub lays : List ℕ → Point → State → Laid → Bool
lays spaces end s a = nat_lt a.laid (length spaces) && comes_before s.trees a.place end

-- step 7
unfoldable pub lay_all : List ℕ → Point → Point → Run (Unit {0})
lay_all spaces start end = look λ s.
    while_at_most (turn_bound s) (lays spaces end) (lay_turn spaces)
    (record { place = start; laid = 0 }) >> done

-- ---- the whole

-- steps 6 and 7
unfoldable pub laid_between : Point → Scan → Run (Unit {0})
laid_between p a = look λ s. lay_all (spaces_for s p a) p a.end

-- steps 3 to 7, where the blanks begin at p
unfoldable pub canonicalize_from : Bool → Point → Run (Unit {0})
canonicalize_from fix p = do
  found ← scan_blanks fix p
  kept ← trimmed_if fix p found
  laid_between p kept

-- canonicalize whitespace, step 1, and then from 2 on
unfoldable pub canonicalize : Bool → Point → Run (Unit {0})
canonicalize fix p = look λ s.
    if is_there s.trees p.label && is_inside s p.label then
    canonicalize_from fix (start_of_blanks s p) else done
