-- Inserting line breaks, rules and images ignores marks and the cap.
use Rattle.std.proofs.Common.{ℕ, List, false, [], ◌∷◌}
use Rattle.edit_model.specs.DomModel.declared.attributes.Attribute.{Attribute}
use Rattle.edit_model.specs.LiveRange.declared.places.Point.{Point}
use Rattle.edit_model.specs.Confined.{is_inside, is_editable_for}
use Rattle.text_insertion.specs.Start.{active_start, start_inside}
use Rattle.insert_objects.specs.Putting.{collapse_before, collapse_after, leave_text, put}
use Rattle.insert_objects.specs.LineBreak.{repeat_break, put_break, break_line, takes_break, insert_line_break}
use Rattle.insert_objects.specs.Rule.{widen_range, outermost_start, out_of_start, outermost_end, out_of_end, put_rule, insert_horizontal_rule}
use Rattle.insert_objects.specs.Image.{drop_lone_break, put_image, show_image, insert_source, insert_image}
use Rattle.independence_laws.proofs.MoveRuns.{ignores_split_words, ignores_make_break}
use Rattle.independence_laws.proofs.ParagraphRuns.{ignores_insert_at_start, ignores_erase}
use Rattle.independence_laws.proofs.SelectionRuns.{ignores_fix_ancestors}
use Rattle.independence_laws.proofs.IgnoringRuns.{ignores_answer, ignoring_parts}
use Rattle.independence_laws.specs.Ignoring.{IgnoresMarks}

-- ---- putting an element

ignores_collapse_before : (n : ℕ) → IgnoresMarks (collapse_before n)
unfolding collapse_before
ignores_collapse_before n = search ignoring_parts

ignores_collapse_after : (n : ℕ) → IgnoresMarks (collapse_after n)
unfolding collapse_after
ignores_collapse_after n = search ignoring_parts

ignores_leave_text : IgnoresMarks leave_text
unfolding leave_text active_start
ignores_leave_text = search (ignoring_parts, ignores_split_words, ignores_collapse_after, ignores_collapse_before) depth 8

ignores_put : (name : List ℕ) (attributes : List Attribute) → IgnoresMarks (put name attributes)
unfolding put
ignores_put name attributes = search (ignoring_parts, ignores_leave_text, ignores_insert_at_start)

-- ---- line breaks

ignores_repeat_break : (n : ℕ) → IgnoresMarks (repeat_break n)
unfolding repeat_break
ignores_repeat_break n = search (ignoring_parts, ignores_make_break, ignores_insert_at_start)

ignores_put_break : IgnoresMarks put_break
unfolding put_break
ignores_put_break = search (ignoring_parts, ignores_put, ignores_collapse_after, ignores_repeat_break)

ignores_break_line : (p : Point) → IgnoresMarks (break_line p)
unfolding break_line takes_break
ignores_break_line p = search (ignoring_parts, ignores_put_break)

pub ignores_insert_line_break : IgnoresMarks insert_line_break
unfolding insert_line_break start_inside is_inside is_editable_for active_start
ignores_insert_line_break = search (ignoring_parts, ignores_erase, ignores_break_line)

-- ---- rules

ignores_widen_range : IgnoresMarks widen_range
unfolding widen_range outermost_start out_of_start outermost_end out_of_end
ignores_widen_range = search ignoring_parts

ignores_put_rule : IgnoresMarks put_rule
unfolding put_rule
ignores_put_rule = search (ignoring_parts, ignores_put, ignores_fix_ancestors, ignores_collapse_after)

pub ignores_insert_horizontal_rule : IgnoresMarks insert_horizontal_rule
unfolding insert_horizontal_rule start_inside is_inside is_editable_for active_start
ignores_insert_horizontal_rule = search (ignoring_parts, ignores_widen_range, ignores_erase, ignores_put_rule)

-- ---- images

ignores_drop_lone_break : (p : Point) → IgnoresMarks (drop_lone_break p)
unfolding drop_lone_break
ignores_drop_lone_break p = search ignoring_parts

ignores_put_image : (value : List ℕ) → IgnoresMarks (put_image value)
unfolding put_image
ignores_put_image value = search (ignoring_parts, ignores_put, ignores_collapse_after)

ignores_show_image : (value : List ℕ) (p : Point) → IgnoresMarks (show_image value p)
unfolding show_image
ignores_show_image value p = search (ignoring_parts, ignores_drop_lone_break, ignores_put_image)

ignores_insert_source : (value : List ℕ) → IgnoresMarks (insert_source value)
unfolding insert_source start_inside is_inside is_editable_for active_start
ignores_insert_source value = search (ignoring_parts, ignores_erase, ignores_show_image)

pub ignores_insert_image : (list : List ℕ) → IgnoresMarks (insert_image list)
unfolding insert_image
ignores_insert_image [] = ignores_answer false
ignores_insert_image (c ∷ v) = ignores_insert_source (c ∷ v)
