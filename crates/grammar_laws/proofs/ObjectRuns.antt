-- Inserting line breaks, rules and images keeps to the grammar.
use Rattle.std.proofs.Common.{ℕ, List, [], ◌∷◌, refl, ◌≡◌, true}
use Rattle.std.specs.Prelude.{codes}
use Rattle.edit_model.specs.DomModel.declared.attributes.Attribute.{Attribute}
use Rattle.edit_model.specs.LiveRange.declared.places.Point.{Point}
use Rattle.edit_model.specs.Run.{◌>>◌, answer, make_element}
use Rattle.text_insertion.specs.Start.{insert_at_start}
use Rattle.insert_objects.specs.Image.{drop_lone_break, source, put_image, show_image, insert_source, insert_image}
use Rattle.insert_objects.specs.LineBreak.{repeat_break, put_break, break_line, insert_line_break}
use Rattle.insert_objects.specs.Putting.{collapse_before, collapse_after, leave_text, put}
use Rattle.insert_objects.specs.Rule.{widen_range, put_rule, insert_horizontal_rule}
use Rattle.making_laws.specs.Names.{made_names, set_names, is_made_name, is_set_name}
use Rattle.grammar_laws.specs.Proper.{IsText, IsList}
use Rattle.grammar_laws.specs.Runs.{Proper}
use Rattle.grammar_laws.proofs.Lists.{list_none, list_one}
use Rattle.making_laws.proofs.TameRuns.{made_br}
use Rattle.grammar_laws.proofs.ProperRuns.{proper_answer, proper_bind, proper_make, proper_moves, proper_parts}
use Rattle.grammar_laws.proofs.DeleteRuns.{proper_erase}
use Rattle.grammar_laws.proofs.AncestorRuns.{proper_fix_ancestors}
use Rattle.grammar_laws.proofs.TypingRuns.{proper_insert_at_start}

made_hr : is_made_name (codes "hr") ≡ true
unfolding is_made_name made_names
made_hr = refl

made_img : is_made_name (codes "img") ≡ true
unfolding is_made_name made_names
made_img = refl

set_src : is_set_name (codes "src") ≡ true
unfolding is_set_name set_names
set_src = refl

-- ---- what the commands have in common

proper_collapse_before : (n : ℕ) → Proper (collapse_before n)
unfolding collapse_before
proper_collapse_before n = search proper_parts

proper_collapse_after : (n : ℕ) → Proper (collapse_after n)
unfolding collapse_after
proper_collapse_after n = search proper_parts

proper_leave_text : Proper leave_text
unfolding leave_text
proper_leave_text = search (proper_parts, proper_collapse_before, proper_collapse_after) depth 8

proper_put_at_start : (n : ℕ) → Proper (leave_text >> (insert_at_start n >> answer n))
proper_put_at_start n = search (proper_parts, proper_leave_text, proper_insert_at_start)

proper_put : (name : List ℕ) (attributes : List Attribute) → is_made_name name ≡ true → IsList attributes
    → Proper (put name attributes)
unfolding put
proper_put name attributes h sets =
    proper_bind (make_element name attributes) _ (proper_make name attributes h sets) proper_put_at_start

-- ---- a line break

proper_new_break : Proper (put (codes "br") [])
proper_new_break = proper_put (codes "br") [] made_br list_none

proper_repeat_break : (n : ℕ) → Proper (repeat_break n)
unfolding repeat_break
proper_repeat_break n = search (proper_parts, proper_moves, proper_insert_at_start)

proper_put_break : Proper put_break
unfolding put_break
proper_put_break = search (proper_parts, proper_new_break, proper_collapse_after, proper_repeat_break)

proper_break_line : (p : Point) → Proper (break_line p)
unfolding break_line
proper_break_line p = search (proper_parts, proper_put_break)

pub proper_insert_line_break : Proper insert_line_break
unfolding insert_line_break
proper_insert_line_break = search (proper_parts, proper_erase, proper_break_line)

-- ---- a rule

proper_widen_range : Proper widen_range
unfolding widen_range
proper_widen_range = search proper_parts

proper_new_rule : Proper (put (codes "hr") [])
proper_new_rule = proper_put (codes "hr") [] made_hr list_none

proper_put_rule : Proper put_rule
unfolding put_rule
proper_put_rule = search (proper_parts, proper_new_rule, proper_fix_ancestors, proper_collapse_after)

pub proper_insert_horizontal_rule : Proper insert_horizontal_rule
unfolding insert_horizontal_rule
proper_insert_horizontal_rule = search (proper_parts, proper_widen_range, proper_erase, proper_put_rule)

-- ---- an image

proper_drop_lone_break : (p : Point) → Proper (drop_lone_break p)
unfolding drop_lone_break
proper_drop_lone_break p = search proper_parts depth 7

proper_new_image : (value : List ℕ) → IsText value → Proper (put (codes "img") (source value))
proper_new_image value own = proper_put (codes "img") (source value) made_img (list_one (codes "src") value set_src own)

proper_put_image : (value : List ℕ) → IsText value → Proper (put_image value)
unfolding put_image
proper_put_image value own = search (proper_parts, proper_new_image, proper_collapse_after)

proper_show_image : (value : List ℕ) (p : Point) → IsText value → Proper (show_image value p)
unfolding show_image
proper_show_image value p own = search (proper_parts, proper_drop_lone_break, proper_put_image)

proper_insert_source : (value : List ℕ) → IsText value → Proper (insert_source value)
unfolding insert_source
proper_insert_source value own = search (proper_parts, proper_erase, proper_show_image)

pub proper_insert_image : (value : List ℕ) → IsText value → Proper (insert_image value)
unfolding insert_image
proper_insert_image [] own = proper_answer _
proper_insert_image (c ∷ v) own = proper_insert_source (c ∷ v) own
