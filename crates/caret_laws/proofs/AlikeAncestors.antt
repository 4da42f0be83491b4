-- Fixing disallowed ancestors is the same whether the command keeps contents or not, where nothing is taken out that is kept.
use Rattle.std.proofs.Common.{ℕ}
use Rattle.edit_model.specs.Confined.{is_editable_for, is_inside}
use Rattle.inline_value.specs.Ancestors.{lifted, lift, wrap_description, split_out, part_child, is_prohibited, part_children, lift_renamed, rename, replace_misplaced, is_description, hosts_none, fix_ancestors, has_place}
use Rattle.caret_laws.proofs.AlikeMoves.{alike_set_tag_name}
use Rattle.caret_laws.proofs.SparingRuns.{alike_parts, Alike}
use Rattle.caret_laws.proofs.AlikeValues.{alike_record_values, alike_restore_values}
use Rattle.caret_laws.proofs.AlikeSplits.{alike_split_around, alike_split_parent}
use Rattle.caret_laws.proofs.AlikeWraps.{alike_wrap}

-- ---- disallowed ancestors

alike_lifted : (n : ℕ) → Alike (lifted n)
unfolding lifted
alike_lifted n = search (alike_parts, alike_split_around)

alike_lift : (n : ℕ) → Alike (lift n)
unfolding lift
alike_lift n = search (alike_parts, alike_record_values, alike_lifted, alike_restore_values)

alike_wrap_description : (n : ℕ) → Alike (wrap_description n)
unfolding wrap_description
alike_wrap_description n = search (alike_parts, alike_wrap)

pub alike_split_out : (k : ℕ) → Alike (split_out k)
unfolding split_out
alike_split_out k = search (alike_parts, alike_record_values, alike_split_parent, alike_restore_values)

alike_part_child : (k : ℕ) → Alike (part_child k)
unfolding part_child is_prohibited
alike_part_child k = search (alike_parts, alike_split_out)

alike_part_children : (n : ℕ) → Alike (part_children n)
unfolding part_children
alike_part_children n = search (alike_parts, alike_part_child)

alike_lift_renamed : (n : ℕ) → Alike (lift_renamed n)
unfolding lift_renamed
alike_lift_renamed n = search (alike_parts, alike_lift, alike_part_children)

alike_rename : (n : ℕ) → Alike (rename n)
unfolding rename
alike_rename n = search (alike_parts, alike_set_tag_name, alike_lift_renamed)

alike_replace_misplaced : (n : ℕ) → Alike (replace_misplaced n)
unfolding replace_misplaced is_description hosts_none is_prohibited
alike_replace_misplaced n = search (alike_parts, alike_wrap_description, alike_rename)

pub alike_fix_ancestors : (n : ℕ) → Alike (fix_ancestors n)
unfolding fix_ancestors is_editable_for has_place is_inside
alike_fix_ancestors n = search (alike_parts, alike_lift, alike_replace_misplaced)
