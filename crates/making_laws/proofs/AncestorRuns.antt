-- Fixing disallowed ancestors is tame.
use Rattle.std.proofs.Common.{◌≡◌, ℕ, Bool, true, false, [], ◌∷◌, refl}
use Rattle.std.specs.Prelude.{codes}
use Rattle.edit_model.specs.Run.{done}
use Rattle.inline_value.specs.WrapSplit.declared.rule.Criterion.TheVariants.{Named}
use Rattle.inline_value.specs.WrapSplit.declared.rule.Recipe.TheVariants.{Make}
use Rattle.inline_value.specs.EditQuery.Rows.{container_name}
use Rattle.inline_value.specs.Ancestors.{lifted, lift, description_list, wrap_description, split_out, part_child, part_children, lift_renamed, rename, replace_misplaced, fix_ancestors}
use Rattle.making_laws.specs.Names.{made_names, is_made_name}
use Rattle.making_laws.specs.Tame.{Tame}
use Rattle.making_laws.proofs.TameRuns.{made_div, made_p, tame_answer, tame_bind, tame_parts}
use Rattle.making_laws.proofs.PushingRuns.{tame_record_values, tame_restore_values}
use Rattle.making_laws.proofs.Splits.{tame_split, tame_split_around}
use Rattle.making_laws.proofs.Wraps.{tame_wrap}

made_dl : is_made_name (codes "dl") ≡ true
unfolding is_made_name made_names
made_dl = refl

-- the default container
pub made_container : (paragraphs : Bool) → is_made_name (container_name paragraphs) ≡ true
made_container true = made_p
made_container false = made_div

tame_lifted : (n : ℕ) → Tame (lifted n)
unfolding lifted
tame_lifted n = search (tame_parts, tame_split_around)

tame_lift : (n : ℕ) → Tame (lift n)
unfolding lift
tame_lift n = search (tame_parts, tame_record_values, tame_lifted, tame_restore_values)

tame_description : (n : ℕ) → Tame (wrap_description n)
unfolding wrap_description
tame_description n = tame_bind _ (λ _. done) (tame_wrap (Named (codes "dl") true) (Make description_list) (made_dl, tt) (n ∷ [])) (λ _. tame_answer tt)

tame_split_out : (k : ℕ) → Tame (split_out k)
unfolding split_out
tame_split_out k = search (tame_parts, tame_record_values, tame_split, tame_restore_values)

tame_part_child : (k : ℕ) → Tame (part_child k)
unfolding part_child
tame_part_child k = search (tame_parts, tame_split_out)

tame_part_children : (n : ℕ) → Tame (part_children n)
unfolding part_children
tame_part_children n = search (tame_parts, tame_part_child)

tame_lift_renamed : (n : ℕ) → Tame (lift_renamed n)
unfolding lift_renamed
tame_lift_renamed n = search (tame_parts, tame_lift, tame_part_children)

tame_rename : (n : ℕ) → Tame (rename n)
unfolding rename
tame_rename n = search (tame_parts, made_container, tame_lift_renamed)

tame_replace : (n : ℕ) → Tame (replace_misplaced n)
unfolding replace_misplaced
tame_replace n = search (tame_parts, tame_description, tame_rename)

pub tame_fix_ancestors : (n : ℕ) → Tame (fix_ancestors n)
unfolding fix_ancestors
tame_fix_ancestors n = search (tame_parts, tame_lift, tame_replace)
