-- Setting a value on the selection, and fixing ancestors, ignore marks and the cap.
use Rattle.std.proofs.Common.{ℕ, List, Option}
use Rattle.edit_model.specs.HtmlNames.declared.commands.Command.{Command}
use Rattle.edit_model.specs.HtmlNames.declared.commands.Command.TheVariants as command
use Rattle.edit_model.specs.LiveRange.declared.places.Point.{Point}
use Rattle.edit_model.specs.Confined.{is_editable_for, is_inside}
use Rattle.inline_value.specs.EditQuery.Formattable.{first_formattable, formattable_nodes}
use Rattle.inline_value.specs.Selections.{set_start, start_text, split_at_start, is_amid, split_at_end, split_start, split_end, split_ends, unset_rival, set_overrides, clear_one, clear_elements, elements_in_range, editable_in_range, nodes_in_range, force_phrase, give_node, give_nodes, give_range, set_value}
use Rattle.inline_value.specs.Ancestors.{lifted, lift, wrap_description, split_out, part_child, is_prohibited, part_children, lift_renamed, rename, replace_misplaced, is_description, hosts_none, fix_ancestors, has_place}
use Rattle.independence_laws.proofs.MoveRuns.{ignores_split_words, ignores_set_tag_name}
use Rattle.independence_laws.proofs.IgnoringRuns.{ignores_perform, ignores_answer, ignoring_parts}
use Rattle.independence_laws.proofs.ClearingRuns.{ignores_clear_value}
use Rattle.independence_laws.proofs.ForcingRuns.{ignores_force}
use Rattle.independence_laws.proofs.PushingRuns.{ignores_push_down, ignores_record_values, ignores_restore_values}
use Rattle.independence_laws.proofs.SplitRuns.{ignores_split_around, ignores_split_parent}
use Rattle.independence_laws.proofs.WrapRuns.{ignores_wrap}
use Rattle.independence_laws.specs.Ignoring.{IgnoresMarks}

-- ---- the value of the selection

ignores_set_start : (at : Point) → IgnoresMarks (set_start at)
unfolding set_start
ignores_set_start at = search ignoring_parts

ignores_start_text : (tail : ℕ) → IgnoresMarks (start_text tail)
unfolding start_text
ignores_start_text tail = search (ignoring_parts, ignores_set_start)

ignores_split_at_start : (at : Point) → IgnoresMarks (split_at_start at)
unfolding split_at_start is_amid is_editable_for
ignores_split_at_start at = search (ignoring_parts, ignores_split_words, ignores_start_text)

ignores_split_at_end : (at : Point) → IgnoresMarks (split_at_end at)
unfolding split_at_end is_amid is_editable_for
ignores_split_at_end at = search (ignoring_parts, ignores_split_words)

ignores_split_start : IgnoresMarks split_start
unfolding split_start
ignores_split_start = search (ignoring_parts, ignores_split_at_start)

ignores_split_end : IgnoresMarks split_end
unfolding split_end
ignores_split_end = search (ignoring_parts, ignores_split_at_end)

pub ignores_split_ends : IgnoresMarks split_ends
unfolding split_ends
ignores_split_ends = search (ignoring_parts, ignores_split_start, ignores_split_end)

ignores_unset_rival : (c : Command) → IgnoresMarks (unset_rival c)
ignores_unset_rival command.Subscript = ignores_perform _
ignores_unset_rival command.Superscript = ignores_perform _
ignores_unset_rival _ = ignores_answer tt

ignores_set_overrides : (command : Command) (v : Option (List ℕ)) → IgnoresMarks (set_overrides command v)
unfolding set_overrides
ignores_set_overrides command v = search (ignoring_parts, ignores_unset_rival)

pub ignores_clear_one : (command : Command) (e : ℕ) → IgnoresMarks (clear_one command e)
unfolding clear_one
ignores_clear_one command e = search (ignoring_parts, ignores_clear_value)

ignores_clear_elements : (command : Command) → IgnoresMarks (clear_elements command)
unfolding clear_elements elements_in_range editable_in_range is_editable_for nodes_in_range
ignores_clear_elements command = search (ignoring_parts, ignores_clear_one)

ignores_force_phrase : (command : Command) (v : Option (List ℕ)) (n : ℕ) → IgnoresMarks (force_phrase command v n)
unfolding force_phrase
ignores_force_phrase command v n = search (ignoring_parts, ignores_force)

ignores_give_node : (command : Command) (v : Option (List ℕ)) (n : ℕ) → IgnoresMarks (give_node command v n)
unfolding give_node
ignores_give_node command v n = search (ignoring_parts, ignores_push_down, ignores_force_phrase)

ignores_give_nodes : (command : Command) (v : Option (List ℕ)) → IgnoresMarks (give_nodes command v)
unfolding give_nodes editable_in_range is_editable_for nodes_in_range
ignores_give_nodes command v = search (ignoring_parts, ignores_give_node)

ignores_give_range : (command : Command) (v : Option (List ℕ)) → IgnoresMarks (give_range command v)
unfolding give_range
ignores_give_range command v = search (ignoring_parts, ignores_split_ends, ignores_clear_elements, ignores_give_nodes)

pub ignores_set_value : (command : Command) (v : Option (List ℕ)) → IgnoresMarks (set_value command v)
unfolding set_value first_formattable formattable_nodes
ignores_set_value command v = search (ignoring_parts, ignores_set_overrides, ignores_give_range)

-- ---- disallowed ancestors

ignores_lifted : (n : ℕ) → IgnoresMarks (lifted n)
unfolding lifted
ignores_lifted n = search (ignoring_parts, ignores_split_around)

ignores_lift : (n : ℕ) → IgnoresMarks (lift n)
unfolding lift
ignores_lift n = search (ignoring_parts, ignores_record_values, ignores_lifted, ignores_restore_values)

ignores_wrap_description : (n : ℕ) → IgnoresMarks (wrap_description n)
unfolding wrap_description
ignores_wrap_description n = search (ignoring_parts, ignores_wrap)

pub ignores_split_out : (k : ℕ) → IgnoresMarks (split_out k)
unfolding split_out
ignores_split_out k = search (ignoring_parts, ignores_record_values, ignores_split_parent, ignores_restore_values)

ignores_part_child : (k : ℕ) → IgnoresMarks (part_child k)
unfolding part_child is_prohibited
ignores_part_child k = search (ignoring_parts, ignores_split_out)

ignores_part_children : (n : ℕ) → IgnoresMarks (part_children n)
unfolding part_children
ignores_part_children n = search (ignoring_parts, ignores_part_child)

ignores_lift_renamed : (n : ℕ) → IgnoresMarks (lift_renamed n)
unfolding lift_renamed
ignores_lift_renamed n = search (ignoring_parts, ignores_lift, ignores_part_children)

ignores_rename : (n : ℕ) → IgnoresMarks (rename n)
unfolding rename
ignores_rename n = search (ignoring_parts, ignores_set_tag_name, ignores_lift_renamed)

ignores_replace_misplaced : (n : ℕ) → IgnoresMarks (replace_misplaced n)
unfolding replace_misplaced is_description hosts_none is_prohibited
ignores_replace_misplaced n = search (ignoring_parts, ignores_wrap_description, ignores_rename)

pub ignores_fix_ancestors : (n : ℕ) → IgnoresMarks (fix_ancestors n)
unfolding fix_ancestors is_editable_for has_place is_inside
ignores_fix_ancestors n = search (ignoring_parts, ignores_lift, ignores_replace_misplaced)
