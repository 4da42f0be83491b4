-- Inserting a paragraph (HTML Editing APIs, "the insertParagraph command"): what is selected goes,
-- and the line is parted there. The steps are those of docs/ALGORITHMS.md. It answers true.
use Rattle.std.specs.Prelude.{ℕ, ◌+◌, ◌==◌, Bool, true, ◌||◌, ◌&&◌, codes, Option, None, if◌then◌else◌, unwrap_or}
use Rattle.edit_model.specs.DomModel.declared.Content.{Content}
use Rattle.edit_model.specs.DomModel.Contents.{has_name, has_chars_at, length_of}
use Rattle.edit_model.specs.DomModel.Forest.{Forest}
use Rattle.edit_model.specs.LiveRange.declared.places.Point.{Point}
use Rattle.inline_value.specs.NodeTests.CollapsedWhitespace.{is_words}
use Rattle.edit_model.specs.State.{State}
use Rattle.edit_model.specs.Compositions.{split_words}
use Rattle.edit_model.specs.Moves.{make_break}
use Rattle.edit_model.specs.Run.{Run, ◌>>=◌, ◌>>◌, answer, done, look, given, collapse}
use Rattle.inline_value.specs.WrapSplit.Breaks.{last_below}
use Rattle.delete_core.specs.declared.deletion.TheConstants.Manner.{DEFAULT}
use Rattle.delete_core.specs.Places.{at, before_node, after_node}
use Rattle.text_insertion.specs.Containers.{container_of, own_container}
use Rattle.text_insertion.specs.Entries.{is_empty_entry, leave_list}
use Rattle.text_insertion.specs.Halves.{part_container}
use Rattle.text_insertion.specs.Start.{start_inside, insert_at_start, erase, cuts_text}

-- ---- insert a paragraph, step 2: a text is split, and the point leaves a text or a comment

-- step 2: from the end of a text to after it, and else to before the text or comment
unfoldable pub out_of_text : Forest Content → Point → Option Point
out_of_text f p =
    if is_words f p.label && (p.offset == length_of f p.label) then after_node f p.label
    else (if has_chars_at f p.label then before_node f p.label else None)

-- insert a paragraph, step 2: collapse to the point
abbrev pub collapsed_at : Point → Run Point
collapsed_at p = collapse p >> answer p

unfoldable pub left_text : Forest Content → Point → Point
left_text f p = unwrap_or (out_of_text f p) p

-- insert a paragraph, step 2: out of a text or a comment, and collapse
unfoldable pub leave_text : Point → Run Point
leave_text p = look λ s. collapsed_at (left_text s.trees p)

-- step 2
unfoldable pub split_text : Point → Run Point
split_text p = do
  look λ s. if cuts_text s.trees p then split_words p.label p.offset >> done else done
  leave_text p

-- ---- insert a paragraph, step 5: in an address, listing or pre, a line ends with a br

unfoldable pub holds_lines : State → ℕ → Bool
holds_lines s c =
    has_name s.trees c (codes "address")
    || (has_name s.trees c (codes "listing") || has_name s.trees c (codes "pre"))

-- a br at the end of c shows a line only with another one after it
unfoldable pub break_line : Point → ℕ → Run (Unit {0})
break_line p c = do
  x ← make_break
  insert_at_start x
  collapse (at p.label (p.offset + 1))
  look λ s. if last_below s c == x then (make_break >>= insert_at_start) else done

-- ---- the whole

-- step 5 or 6, or from 7 on
unfoldable pub part_line : Point → ℕ → Run (Unit {0})
part_line p c = look λ s.
    if holds_lines s c then break_line p c
    else (if is_empty_entry s c then leave_list c else part_container c)

-- insert a paragraph, from step 5 on, unless step 4 ended the algorithm
abbrev pub part_line_if : Point → Option ℕ → Run (Unit {0})
part_line_if p c = given c done (part_line p)

-- steps 3 to 9
unfoldable pub part_paragraph : Point → Run (Unit {0})
part_paragraph p = look λ s. own_container (container_of s p.label) >>= part_line_if p

-- steps 2 to 9, where the start's node is inside
unfoldable pub insert_paragraph_inside : Run (Unit {0})
insert_paragraph_inside =
    look λ s. given (start_inside s) done λ p. split_text p >>= part_paragraph

-- step 1, and then from 2 on
unfoldable pub insert_paragraph : Run Bool
insert_paragraph = do
  erase DEFAULT
  insert_paragraph_inside
  answer true
