-- Inserting line breaks, rules and images is tame.
use Rattle.std.proofs.Common.{ℕ, List, [], ◌∷◌, refl, ◌≡◌, true}
use Rattle.std.specs.Prelude.{codes}
use Rattle.edit_model.specs.DomModel.declared.attributes.Attribute.{Attribute}
use Rattle.edit_model.specs.LiveRange.declared.places.Point.{Point}
use Rattle.edit_model.specs.Run.{◌>>◌, answer, make_element}
use Rattle.text_insertion.specs.Start.{insert_at_start}
use Rattle.insert_objects.specs.Image.{drop_lone_break, source, put_image, show_image, insert_source, insert_image}
use Rattle.insert_objects.specs.LineBreak.{repeat_break, put_break, break_line, insert_line_break}
use Rattle.insert_objects.specs.Putting.{collapse_before, collapse_after, leave_text, put}
use Rattle.insert_objects.specs.Rule.{widen_range, put_rule, insert_horizontal_rule}
use Rattle.making_laws.specs.Names.{made_names, set_names, is_made_name, is_set_name}
use Rattle.making_laws.specs.Tame.{Tame}
use Rattle.making_laws.proofs.TameRuns.{AreSet, made_br, tame_answer, tame_bind, tame_make, tame_moves, tame_parts}
use Rattle.making_laws.proofs.DeleteRuns.{tame_erase}
use Rattle.making_laws.proofs.AncestorRuns.{tame_fix_ancestors}
use Rattle.making_laws.proofs.TypingRuns.{tame_insert_at_start}

made_hr : is_made_name (codes "hr") ≡ true
unfolding is_made_name made_names
made_hr = refl

made_img : is_made_name (codes "img") ≡ true
unfolding is_made_name made_names
made_img = refl

set_src : is_set_name (codes "src") ≡ true
unfolding is_set_name set_names
set_src = refl

-- ---- what the commands have in common

tame_collapse_before : (n : ℕ) → Tame (collapse_before n)
unfolding collapse_before
tame_collapse_before n = search tame_parts

tame_collapse_after : (n : ℕ) → Tame (collapse_after n)
unfolding collapse_after
tame_collapse_after n = search tame_parts

tame_leave_text : Tame leave_text
unfolding leave_text
tame_leave_text = search (tame_parts, tame_collapse_before, tame_collapse_after) depth 8

tame_put_at_start : (n : ℕ) → Tame (leave_text >> (insert_at_start n >> answer n))
tame_put_at_start n = search (tame_parts, tame_leave_text, tame_insert_at_start)

tame_put : (name : List ℕ) (attributes : List Attribute) → is_made_name name ≡ true → AreSet attributes
    → Tame (put name attributes)
unfolding put
tame_put name attributes h sets =
    tame_bind (make_element name attributes) _ (tame_make name attributes h sets) tame_put_at_start

-- ---- a line break

tame_new_break : Tame (put (codes "br") [])
tame_new_break = tame_put (codes "br") [] made_br tt

tame_repeat_break : (n : ℕ) → Tame (repeat_break n)
unfolding repeat_break
tame_repeat_break n = search (tame_parts, tame_moves, tame_insert_at_start)

tame_put_break : Tame put_break
unfolding put_break
tame_put_break = search (tame_parts, tame_new_break, tame_collapse_after, tame_repeat_break)

tame_break_line : (p : Point) → Tame (break_line p)
unfolding break_line
tame_break_line p = search (tame_parts, tame_put_break)

pub tame_insert_line_break : Tame insert_line_break
unfolding insert_line_break
tame_insert_line_break = search (tame_parts, tame_erase, tame_break_line)

-- ---- a rule

tame_widen_range : Tame widen_range
unfolding widen_range
tame_widen_range = search tame_parts

tame_new_rule : Tame (put (codes "hr") [])
tame_new_rule = tame_put (codes "hr") [] made_hr tt

tame_put_rule : Tame put_rule
unfolding put_rule
tame_put_rule = search (tame_parts, tame_new_rule, tame_fix_ancestors, tame_collapse_after)

pub tame_insert_horizontal_rule : Tame insert_horizontal_rule
unfolding insert_horizontal_rule
tame_insert_horizontal_rule = search (tame_parts, tame_widen_range, tame_erase, tame_put_rule)

-- ---- an image

tame_drop_lone_break : (p : Point) → Tame (drop_lone_break p)
unfolding drop_lone_break
tame_drop_lone_break p = search tame_parts depth 7

tame_new_image : (value : List ℕ) → Tame (put (codes "img") (source value))
tame_new_image value = tame_put (codes "img") (source value) made_img (set_src, tt)

tame_put_image : (value : List ℕ) → Tame (put_image value)
unfolding put_image
tame_put_image value = search (tame_parts, tame_new_image, tame_collapse_after)

tame_show_image : (value : List ℕ) (p : Point) → Tame (show_image value p)
unfolding show_image
tame_show_image value p = search (tame_parts, tame_drop_lone_break, tame_put_image)

tame_insert_source : (value : List ℕ) → Tame (insert_source value)
unfolding insert_source
tame_insert_source value = search (tame_parts, tame_erase, tame_show_image)

pub tame_insert_image : (value : List ℕ) → Tame (insert_image value)
unfolding insert_image
tame_insert_image [] = tame_answer _
tame_insert_image (c ∷ v) = tame_insert_source (c ∷ v)
