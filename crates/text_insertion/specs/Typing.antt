-- Inserting text (HTML Editing APIs, "the insertText command"): what is selected goes, and the
-- characters come there one by one, with the overrides that are set. The steps are those of
-- docs/ALGORITHMS.md. It answers true.
use Rattle.std.specs.Prelude.{ℕ, ◌+◌, ◌==◌, Bool, true, false, ◌&&◌, List, [], ◌∷◌, Option, Some, None, is_none, if◌then◌else◌, unwrap_or}
use Rattle.std.specs.Option.{option_map}
use Rattle.edit_model.specs.DomModel.declared.Content.{Content}
use Rattle.edit_model.specs.DomModel.Forest.{Forest, either, next_of, first_of}
use Rattle.edit_model.specs.LiveRange.declared.places.Point.{Point}
use Rattle.inline_value.specs.NodeTests.BlockPoints.{child_before, child_at}
use Rattle.inline_value.specs.NodeTests.CollapsedWhitespace.{is_words}
use Rattle.inline_value.specs.NodeTests.SolidNeighbours.{is_collapsed_break}
use Rattle.edit_model.specs.Run.{Run, ◌>>=◌, ◌>>◌, answer, done, look, given, for_each, remove, replace, make_words, select, collapse}
use Rattle.inline_commands.specs.RestoringStates.{restore_states}
use Rattle.inline_value.specs.Overrides.{overrides_of}
use Rattle.delete_core.specs.declared.deletion.TheConstants.Manner.{KEEP_WRAPPERS}
use Rattle.delete_core.specs.Ends.{collapse_selection, canonicalize_start, canonicalize_end}
use Rattle.delete_core.specs.Places.{at, start_in, end_in}
use Rattle.delete_core.specs.Whitespace.{canonicalize}
use Rattle.text_insertion.specs.Paragraph.{insert_paragraph}
use Rattle.text_insertion.specs.Start.{active_start, start_inside, insert_at_start, erase}

-- ---- insert text, step 3: into a text before the point, or one after it

abbrev pub if_words : Forest Content → Option ℕ → Option ℕ
if_words f None = None
if_words f (Some k) = if is_words f k then Some k else None

unfoldable pub end_before : Forest Content → Point → Option Point
end_before f p = option_map (end_in f) (if_words f (child_before f p.label p.offset))

unfoldable pub start_after : Forest Content → Point → Option Point
start_after f p = option_map start_in (if_words f (child_at f p.label p.offset))

unfoldable pub into_text : Forest Content → Point → Point
into_text f p = unwrap_or (either (end_before f p) (start_after f p)) p

-- ---- insert text, step 5: the character goes into the text at the start of the active range, or
-- into a new one there

-- step 5: the one child of n goes, where it is a collapsed line break
unfoldable pub drop_sole_break : ℕ → Run (Unit {0})
drop_sole_break n = look λ s. given (first_of s.trees n) done λ k.
    if is_none (next_of s.trees k) && is_collapsed_break s.trees k then remove k >> done else done

-- at a point: what is put is selected
unfoldable pub put_at : ℕ → Point → Run (Unit {0})
put_at c p = look λ s. if is_words s.trees p.label
    then (replace p.label p.offset 0 (c ∷ []) >> select p (at p.label (p.offset + 1)))
    else do
      drop_sole_break p.label
      x ← make_words (c ∷ [])
      insert_at_start x
      look λ t. select (start_in x) (end_in t.trees x)

unfoldable pub put_char : ℕ → Run (Unit {0})
put_char c = look λ s. given (active_start s) done (put_at c)

-- ---- insert text, step 7: the whitespace round what was put, and the caret after it

-- insert text, step 7
unfoldable pub close_text : Run (Unit {0})
close_text = do
  canonicalize_start false
  canonicalize_end false
  collapse_selection true

-- steps 3 to 7
unfoldable pub type_char : ℕ → Point → Run (Unit {0})
type_char c p = look λ s. do
  collapse (into_text s.trees p)
  canonicalize true (into_text s.trees p)
  put_char c
  restore_states (overrides_of s)  -- step 6
  close_text

-- ---- the whole

-- step 2: a line feed begins a paragraph
unfoldable pub insert_char_at : ℕ → Point → Run (Unit {0})
insert_char_at c p = if c == 10 then insert_paragraph >> done else type_char c p

-- insert text, from step 2 on, of one character, where the start's node is inside
unfoldable pub insert_char_inside : ℕ → Run (Unit {0})
insert_char_inside c = look λ s. given (start_inside s) done (insert_char_at c)

-- insert text, of one character
unfoldable pub insert_char : ℕ → Run (Unit {0})
insert_char c = erase KEEP_WRAPPERS >> insert_char_inside c

-- step 2: each of several characters in order
unfoldable pub insert_several : List ℕ → Run (Unit {0})
insert_several value =
    look λ s. if is_none (start_inside s) then done else for_each value insert_char

-- step 2: several characters, none, or one
unfoldable pub insert_chars : List ℕ → Run (Unit {0})
insert_chars [] = done
insert_chars (c ∷ []) = insert_char_inside c
insert_chars (c ∷ d ∷ rest) = insert_several (c ∷ d ∷ rest)

-- insert text, step 1, and then from 2 on
unfoldable pub insert_text : List ℕ → Run Bool
insert_text value = do
  erase KEEP_WRAPPERS
  insert_chars value
  answer true
