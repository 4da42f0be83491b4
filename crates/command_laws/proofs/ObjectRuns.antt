-- Inserting line breaks, rules and images leaves the states of contenteditable: what is put there has none.
use Rattle.std.proofs.Common.{ℕ, List, [], ◌∷◌, refl}
use Rattle.std.specs.Prelude.{codes}
use Rattle.edit_model.specs.DomModel.declared.attributes.Attribute.{Attribute}
use Rattle.edit_model.specs.LiveRange.declared.places.Point.{Point}
use Rattle.edit_model.specs.Action.{MakeElement}
use Rattle.edit_model.specs.Laws.{LeavesStates}
use Rattle.edit_model.specs.Run.{◌>>◌, answer, make_element}
use Rattle.edit_laws.specs.Steady.{Steady}
use Rattle.edit_laws.proofs.SteadyRuns.{steady_parts, steady_answer, steady_bind, steady_make_element}
use Rattle.text_insertion.specs.Start.{insert_at_start}
use Rattle.insert_objects.specs.Image.{drop_lone_break, source, put_image, show_image, insert_source, insert_image}
use Rattle.insert_objects.specs.LineBreak.{repeat_break, put_break, break_line, insert_line_break}
use Rattle.insert_objects.specs.Putting.{collapse_before, collapse_after, leave_text, put}
use Rattle.insert_objects.specs.Rule.{widen_range, put_rule, insert_horizontal_rule}
use Rattle.command_laws.proofs.AncestorRuns.{steady_fix_ancestors}
use Rattle.command_laws.proofs.DeleteRuns.{steady_erase}
use Rattle.command_laws.proofs.SteadyMoves.{steady_moves}
use Rattle.command_laws.proofs.TypingRuns.{steady_insert_at_start}

-- ---- what the commands have in common

steady_collapse_before : (n : ℕ) → Steady (collapse_before n)
unfolding collapse_before
steady_collapse_before n = search steady_parts

steady_collapse_after : (n : ℕ) → Steady (collapse_after n)
unfolding collapse_after
steady_collapse_after n = search steady_parts

steady_leave_text : Steady leave_text
unfolding leave_text
steady_leave_text = search (steady_parts, steady_collapse_before, steady_collapse_after) depth 8

steady_put_at_start : (n : ℕ) → Steady (leave_text >> (insert_at_start n >> answer n))
steady_put_at_start n = search (steady_parts, steady_leave_text, steady_insert_at_start)

steady_put : (name : List ℕ) (attributes : List Attribute) → LeavesStates (MakeElement name attributes)
    → Steady (put name attributes)
unfolding put
steady_put name attributes h =
    steady_bind (make_element name attributes) _ (steady_make_element name attributes h) steady_put_at_start

-- ---- a line break

steady_new_break : Steady (put (codes "br") [])
steady_new_break = steady_put (codes "br") [] refl

steady_repeat_break : (n : ℕ) → Steady (repeat_break n)
unfolding repeat_break
steady_repeat_break n = search (steady_parts, steady_moves, steady_insert_at_start)

steady_put_break : Steady put_break
unfolding put_break
steady_put_break = search (steady_parts, steady_new_break, steady_collapse_after, steady_repeat_break)

steady_break_line : (p : Point) → Steady (break_line p)
unfolding break_line
steady_break_line p = search (steady_parts, steady_put_break)

pub steady_insert_line_break : Steady insert_line_break
unfolding insert_line_break
steady_insert_line_break = search (steady_parts, steady_erase, steady_break_line)

-- ---- a rule

steady_widen_range : Steady widen_range
unfolding widen_range
steady_widen_range = search steady_parts

steady_new_rule : Steady (put (codes "hr") [])
steady_new_rule = steady_put (codes "hr") [] refl

steady_put_rule : Steady put_rule
unfolding put_rule
steady_put_rule = search (steady_parts, steady_new_rule, steady_fix_ancestors, steady_collapse_after)

pub steady_insert_horizontal_rule : Steady insert_horizontal_rule
unfolding insert_horizontal_rule
steady_insert_horizontal_rule = search (steady_parts, steady_widen_range, steady_erase, steady_put_rule)

-- ---- an image

steady_drop_lone_break : (p : Point) → Steady (drop_lone_break p)
unfolding drop_lone_break
steady_drop_lone_break p = search steady_parts depth 7

steady_new_image : (value : List ℕ) → Steady (put (codes "img") (source value))
steady_new_image value = steady_put (codes "img") (source value) refl

steady_put_image : (value : List ℕ) → Steady (put_image value)
unfolding put_image
steady_put_image value = search (steady_parts, steady_new_image, steady_collapse_after)

steady_show_image : (value : List ℕ) (p : Point) → Steady (show_image value p)
unfolding show_image
steady_show_image value p = search (steady_parts, steady_drop_lone_break, steady_put_image)

steady_insert_source : (value : List ℕ) → Steady (insert_source value)
unfolding insert_source
steady_insert_source value = search (steady_parts, steady_erase, steady_show_image)

pub steady_insert_image : (value : List ℕ) → Steady (insert_image value)
unfolding insert_image
steady_insert_image [] = steady_answer _
steady_insert_image (c ∷ v) = steady_insert_source (c ∷ v)
