-- Fixing disallowed ancestors keeps to the grammar.
use Rattle.std.proofs.Common.{◌≡◌, ℕ, Bool, true, false, [], ◌∷◌, refl}
use Rattle.std.specs.Prelude.{codes}
use Rattle.edit_model.specs.Run.{done}
use Rattle.inline_value.specs.WrapSplit.declared.rule.Criterion.TheVariants.{Named}
use Rattle.inline_value.specs.WrapSplit.declared.rule.Recipe.TheVariants.{Make}
use Rattle.inline_value.specs.EditQuery.Rows.{container_name}
use Rattle.inline_value.specs.Ancestors.{lifted, lift, description_list, wrap_description, split_out, part_child, part_children, lift_renamed, rename, replace_misplaced, fix_ancestors}
use Rattle.making_laws.specs.Names.{made_names, is_made_name}
use Rattle.grammar_laws.specs.Runs.{Proper}
use Rattle.grammar_laws.proofs.Lists.{list_none}
use Rattle.making_laws.proofs.TameRuns.{made_div, made_p}
use Rattle.grammar_laws.proofs.ProperRuns.{proper_answer, proper_bind, proper_parts}
use Rattle.grammar_laws.proofs.PushingRuns.{proper_recorded, proper_restore_values}
use Rattle.grammar_laws.proofs.Splits.{proper_split, proper_split_around}
use Rattle.grammar_laws.proofs.Wraps.{proper_wrap}

made_dl : is_made_name (codes "dl") ≡ true
unfolding is_made_name made_names
made_dl = refl

-- the default container
pub made_container : (paragraphs : Bool) → is_made_name (container_name paragraphs) ≡ true
made_container true = made_p
made_container false = made_div

proper_lifted : (n : ℕ) → Proper (lifted n)
unfolding lifted
proper_lifted n = search (proper_parts, proper_split_around)

proper_lift : (n : ℕ) → Proper (lift n)
unfolding lift
proper_lift n = search (proper_recorded, proper_parts, proper_lifted, proper_restore_values)

proper_description : (n : ℕ) → Proper (wrap_description n)
unfolding wrap_description
proper_description n = proper_bind _ (λ _. done) (proper_wrap (Named (codes "dl") true) (Make description_list) (made_dl, list_none) (n ∷ [])) (λ _. proper_answer tt)

proper_split_out : (k : ℕ) → Proper (split_out k)
unfolding split_out
proper_split_out k = search (proper_recorded, proper_parts, proper_split, proper_restore_values)

proper_part_child : (k : ℕ) → Proper (part_child k)
unfolding part_child
proper_part_child k = search (proper_parts, proper_split_out)

proper_part_children : (n : ℕ) → Proper (part_children n)
unfolding part_children
proper_part_children n = search (proper_parts, proper_part_child)

proper_lift_renamed : (n : ℕ) → Proper (lift_renamed n)
unfolding lift_renamed
proper_lift_renamed n = search (proper_parts, proper_lift, proper_part_children)

proper_rename : (n : ℕ) → Proper (rename n)
unfolding rename
proper_rename n = search (proper_parts, made_container, proper_lift_renamed)

proper_replace : (n : ℕ) → Proper (replace_misplaced n)
unfolding replace_misplaced
proper_replace n = search (proper_parts, proper_description, proper_rename)

pub proper_fix_ancestors : (n : ℕ) → Proper (fix_ancestors n)
unfolding fix_ancestors
proper_fix_ancestors n = search (proper_parts, proper_lift, proper_replace)
