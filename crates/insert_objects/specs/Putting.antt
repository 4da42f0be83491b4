-- What the commands that insert an object have in common (HTML Editing APIs, "the insertLineBreak
-- command", "the insertHorizontalRule command", "the insertImage command"): what is selected goes,
-- and a new element is put at the start of the active range. The steps are those of
-- docs/ALGORITHMS.md.
use Rattle.std.specs.Prelude.{ℕ, ◌==◌, Bool, true, ◌&&◌, not, List, if◌then◌else◌}
use Rattle.edit_model.specs.DomModel.declared.attributes.Attribute.{Attribute}
use Rattle.edit_model.specs.DomModel.Contents.{has_chars_at, length_of}
use Rattle.edit_model.specs.LiveRange.declared.places.Point.{Point}
use Rattle.edit_model.specs.Compositions.{split_words}
use Rattle.edit_model.specs.Run.{Run, ◌>>=◌, ◌>>◌, answer, done, look, given, make_element, collapse}
use Rattle.delete_core.specs.Places.{before_node, after_node}
use Rattle.text_insertion.specs.Start.{active_start, start_inside, insert_at_start, cuts_text}

-- goes on from the start of the active range, where its node is inside; elsewhere nothing is
-- inserted, and the answer is true
abbrev pub from_start_inside : (Point → Run Bool) → Run Bool
from_start_inside k = look λ s. given (start_inside s) (answer true) k

-- the active range collapses to just before a node, and to just after it
unfoldable pub collapse_before : ℕ → Run (Unit {0})
collapse_before n = look λ s. given (before_node s.trees n) done collapse

unfoldable pub collapse_after : ℕ → Run (Unit {0})
collapse_after n = look λ s. given (after_node s.trees n) done collapse

-- put an element, steps 2 and 3: the active range leaves the text or the comment that it starts in;
-- a text is split where it starts amid it
unfoldable pub leave_text : Run (Unit {0})
leave_text = look λ s. given (active_start s) done λ p.
    if cuts_text s.trees p then (split_words p.label p.offset >> collapse_after p.label)
    else (if not (has_chars_at s.trees p.label) then done
    else (if (p.offset == length_of s.trees p.label) && not (p.offset == 0)
    then collapse_after p.label
    else collapse_before p.label))

-- put an element; answers the new element
unfoldable pub put : List ℕ → List Attribute → Run ℕ
put name attributes = do
  n ← make_element name attributes
  leave_text
  insert_at_start n
  answer n
