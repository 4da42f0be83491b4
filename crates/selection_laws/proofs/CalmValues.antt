-- Clearing, forcing and pushing down values, and fixing ancestors, place no point by themselves.
use Rattle.std.specs.Prelude.{ℕ, zero, suc, [], ◌∷◌, Some, None}
use Rattle.inline_value.specs.Ancestors.{fix_ancestors, lift, lift_renamed, lifted, part_child, part_children, rename, replace_misplaced, split_out, wrap_description}
use Rattle.inline_value.specs.Clearing.{clear_value, drop_attribute, drop_hint, drop_line, drop_link, drop_property, drop_word, span_for, stripped, unwrapped, write_words}
use Rattle.inline_value.specs.Forcing.{clear_way, confirm_value, force, force_child, force_heirs, force_node, force_self, force_value, forced, joined, make_wrapper, put_in, rename_link, rename_links, reorder_next, reorder_prev, style_by, style_wrapper, taken_back, unless_alike, wrapped}
use Rattle.inline_value.specs.Pushing.{clear_level, push_down, push_from, push_level, push_levels, push_listed, push_to}
use Rattle.inline_value.specs.Recording.{record_values, restore_value, restore_values, restored_to}
use Rattle.inline_value.specs.Reordering.{reorder, reorder_with, swapped}
use Rattle.inline_value.specs.Selections.{clear_elements, clear_one, force_phrase, give_node, give_nodes, set_overrides, unset_rival}
use Rattle.inline_value.specs.Styling.{set_style, unset_style, write_text}
use Rattle.inline_value.specs.CommandValue.declared.subject.Subject.TheVariants.{Line, Link}
use Rattle.edit_model.specs.HtmlNames.declared.commands.Command.TheVariants as command
use Rattle.edit_model.specs.DomModel.Forest.{first_in}
use Rattle.inline_value.specs.CommandValue.SpecifiedValues.{specified}
use Rattle.inline_value.specs.Pushing.{own_or}
use Rattle.edit_model.specs.Run.{Run}
use Rattle.edit_laws.proofs.HostRuns.{Calm, calm_parts, calm_answer, calm_bind, calm_look}
use Rattle.selection_laws.proofs.CalmMoves.{calm_insert_after, calm_insert_before, calm_move_all_before, calm_move_before, calm_set_tag_name, calm_unwrap}
use Rattle.selection_laws.proofs.CalmWraps.{calm_split_around, calm_split_parent, calm_wrap}

pub calm_write_text : (e : _) (text : _) → Calm (write_text e text)
unfolding write_text
calm_write_text e text = search calm_parts

pub calm_set_style : (e : _) (name : _) (value : _) → Calm (set_style e name value)
unfolding set_style
calm_set_style e name value = search (calm_parts, calm_write_text)

pub calm_unset_style : (e : _) (name : _) → Calm (unset_style e name)
unfolding unset_style
calm_unset_style e name = search (calm_parts, calm_write_text)

pub calm_write_words : (e : _) (text : _) → Calm (write_words e text)
unfolding write_words
calm_write_words e text = search (calm_parts, calm_set_style, calm_unset_style)

pub calm_drop_line : (line : _) (e : _) → Calm (drop_line line e)
unfolding drop_line
calm_drop_line line e = search (calm_parts, calm_write_words)

pub calm_drop_word : (a : _) (b : _) → Calm (drop_word a b)
calm_drop_word (Line line) e = calm_drop_line line e
calm_drop_word _ e = calm_answer tt

pub calm_drop_property : (command : _) (e : _) → Calm (drop_property command e)
unfolding drop_property
calm_drop_property command e = search (calm_parts, calm_unset_style)

pub calm_drop_attribute : (name : _) (attribute : _) (e : _) → Calm (drop_attribute name attribute e)
unfolding drop_attribute
calm_drop_attribute name attribute e = search calm_parts

pub calm_drop_hint : (command : _) (e : _) → Calm (drop_hint command e)
unfolding drop_hint
calm_drop_hint command e = search (calm_parts, calm_drop_attribute)

pub calm_drop_link : (a : _) (b : _) → Calm (drop_link a b)
calm_drop_link Link e = calm_drop_attribute _ _ e
calm_drop_link _ e = calm_answer tt

pub calm_span_for : (command : _) (e : _) → Calm (span_for command e)
unfolding span_for
calm_span_for command e = search (calm_parts, calm_set_tag_name)

pub calm_stripped : (command : _) (e : _) → Calm (stripped command e)
unfolding stripped
calm_stripped command e = search (calm_parts, calm_drop_hint, calm_drop_link, calm_drop_property, calm_drop_word, calm_span_for) depth 9

pub calm_unwrapped : (e : _) → Calm (unwrapped e)
unfolding unwrapped
calm_unwrapped e = search (calm_parts, calm_unwrap)

pub calm_clear_value : (command : _) (e : _) → Calm (clear_value command e)
unfolding clear_value
calm_clear_value command e = search (calm_parts, calm_stripped, calm_unwrapped)

pub calm_swapped : (n : _) (c : _) → Calm (swapped n c)
unfolding swapped
calm_swapped n c = search (calm_parts, calm_insert_after, calm_move_all_before) depth 9

pub calm_reorder_with : (command : _) (v : _) (n : _) (c : _) → Calm (reorder_with command v n c)
unfolding reorder_with
calm_reorder_with command v n c = search (calm_parts, calm_swapped)

pub calm_reorder : (command : _) (v : _) (n : _) → Calm (reorder command v n)
unfolding reorder
calm_reorder command v n = search (calm_parts, calm_reorder_with)

pub calm_reorder_prev : (command : _) (v : _) (n : _) → Calm (reorder_prev command v n)
unfolding reorder_prev
calm_reorder_prev command v n = search (calm_parts, calm_reorder)

pub calm_reorder_next : (command : _) (v : _) (n : _) → Calm (reorder_next command v n)
unfolding reorder_next
calm_reorder_next command v n = search (calm_parts, calm_reorder)

pub calm_joined : (command : _) (v : _) (n : _) → Calm (joined command v n)
unfolding joined
calm_joined command v n = search (calm_parts, calm_reorder_next, calm_reorder_prev, calm_wrap)

pub calm_rename_link : (e : _) → Calm (rename_link e)
unfolding rename_link
calm_rename_link e = search (calm_parts, calm_set_tag_name)

pub calm_rename_links : (n : _) → Calm (rename_links n)
unfolding rename_links
calm_rename_links n = search (calm_parts, calm_rename_link)

pub calm_clear_way : (a : _) (b : _) → Calm (clear_way a b)
calm_clear_way Link n = calm_rename_links n
calm_clear_way _ n = calm_answer tt

pub calm_make_wrapper : (command : _) (v : _) (n : _) → Calm (make_wrapper command v n)
unfolding make_wrapper
calm_make_wrapper command v n = search (calm_parts, calm_clear_way)

pub calm_style_by : (a : _) (b : _) (c : _) (d : _) → Calm (style_by a b c d)
calm_style_by (Line line) command v p = calm_set_style p _ v
calm_style_by _ command v p = search (calm_parts, calm_set_style)

pub calm_style_wrapper : (command : _) (v : _) (p : _) → Calm (style_wrapper command v p)
unfolding style_wrapper
calm_style_wrapper command v p = search (calm_parts, calm_style_by)

pub calm_taken_back : (n : _) (p : _) → Calm (taken_back n p)
unfolding taken_back
calm_taken_back n p = search (calm_parts, calm_move_before)

pub calm_confirm_value : (command : _) (v : _) (n : _) (p : _) → Calm (confirm_value command v n p)
unfolding confirm_value
calm_confirm_value command v n p = search (calm_parts, calm_taken_back)

pub calm_put_in : (command : _) (v : _) (n : _) (p : _) → Calm (put_in command v n p)
unfolding put_in
calm_put_in command v n p = search (calm_parts, calm_insert_before, calm_confirm_value, calm_style_wrapper)

pub calm_wrapped : (command : _) (v : _) (n : _) → Calm (wrapped command v n)
unfolding wrapped
calm_wrapped command v n = search (calm_parts, calm_make_wrapper, calm_put_in)

pub calm_unless_alike : (command : _) (v : _) (n : _) → Calm (unless_alike command v n)
unfolding unless_alike
calm_unless_alike command v n = search (calm_parts, calm_wrapped)

pub calm_force_node : (command : _) (v : _) (n : _) → Calm (force_node command v n)
unfolding force_node
calm_force_node command v n = search (calm_parts, calm_joined, calm_unless_alike)

pub calm_force_self : (command : _) (v : _) (n : _) → Calm (force_self command v n)
unfolding force_self
calm_force_self command v n = search (calm_parts, calm_force_node)

pub calm_force_child : (again : ℕ → Run (Unit {0})) → ((y0 : _) → Calm (again y0)) → (command : _) (v : _) (k : _) → Calm (force_child again command v k)
unfolding force_child
calm_force_child again calm command v k = search (calm_parts, calm)

pub calm_force_heirs : (again : ℕ → Run (Unit {0})) → ((y0 : _) → Calm (again y0)) → (command : _) (v : _) (n : _) (wanted : _) → Calm (force_heirs again command v n wanted)
unfolding force_heirs
calm_force_heirs again calm command v n wanted = search (calm_parts, calm_force_child, calm)

pub calm_forced : (a : _) (b : _) (c : _) (d : _) → Calm (forced a b c d)
unfolding forced
calm_forced zero command v n = calm_answer tt
calm_forced (suc fuel) command v n =
    calm_bind (force_self command v n) (force_heirs (forced fuel command v) command v n) (calm_force_self command v n)
    (λ wanted. calm_force_heirs (forced fuel command v) (λ k. calm_forced fuel command v k) command v n wanted)

pub calm_force_value : (command : _) (v : _) (n : _) → Calm (force_value command v n)
unfolding force_value
calm_force_value command v n = search (calm_parts, calm_forced)

pub calm_force : (command : _) (v : _) (n : _) → Calm (force command v n)
unfolding force
calm_force command v n = search (calm_parts, calm_force_value)

pub calm_push_to : (command : _) (w : _) (n : _) (next : _) (k : _) → Calm (push_to command w n next k)
unfolding push_to
calm_push_to command w n next k = search (calm_parts, calm_force)

pub calm_clear_level : (command : _) (e : _) → Calm (clear_level command e)
unfolding clear_level
calm_clear_level command e = search (calm_parts, calm_clear_value)

pub calm_push_level : (command : _) (w : _) (n : _) (next : _) (e : _) → Calm (push_level command w n next e)
unfolding push_level
calm_push_level command w n next e = search (calm_parts, calm_clear_level, calm_push_to)

pub calm_push_levels : (a : _) (b : _) (c : _) (d : _) → Calm (push_levels a b c d)
unfolding push_levels
calm_push_levels command w n [] = calm_answer tt
calm_push_levels command w n (e ∷ list) =
    calm_look _ (λ s. (
    let u = own_or (specified s.trees e command) w in
    calm_bind (push_level command u n (first_in list) e) (λ _. push_levels command u n list) (calm_push_level command u n (first_in list) e) (λ _. calm_push_levels command u n list)))

pub calm_push_from : (command : _) (v : _) (n : _) (list : _) (e : _) → Calm (push_from command v n list e)
unfolding push_from
calm_push_from command v n list e = search (calm_parts, calm_push_levels)

pub calm_push_listed : (command : _) (v : _) (n : _) (list : _) → Calm (push_listed command v n list)
unfolding push_listed
calm_push_listed command v n list = search (calm_parts, calm_push_from)

pub calm_push_down : (command : _) (v : _) (n : _) → Calm (push_down command v n)
unfolding push_down
calm_push_down command v n = search (calm_parts, calm_push_listed)

pub calm_record_values : (list : _) → Calm (record_values list)
unfolding record_values
calm_record_values list = search calm_parts

pub calm_restored_to : (a : _) (b : _) (c : _) (d : _) → Calm (restored_to a b c d)
calm_restored_to command n None u = search (calm_parts, calm_push_down)
calm_restored_to command n (Some w) u = search (calm_parts, calm_force)

pub calm_restore_value : (r : _) → Calm (restore_value r)
unfolding restore_value
calm_restore_value r = search (calm_parts, calm_restored_to)

pub calm_restore_values : (list : _) → Calm (restore_values list)
unfolding restore_values
calm_restore_values list = search (calm_parts, calm_restore_value)

pub calm_lifted : (n : _) → Calm (lifted n)
unfolding lifted
calm_lifted n = search (calm_parts, calm_split_around)

pub calm_lift : (n : _) → Calm (lift n)
unfolding lift
calm_lift n = search (calm_parts, calm_lifted, calm_record_values, calm_restore_values)

pub calm_wrap_description : (n : _) → Calm (wrap_description n)
unfolding wrap_description
calm_wrap_description n = search (calm_parts, calm_wrap)

pub calm_split_out : (k : _) → Calm (split_out k)
unfolding split_out
calm_split_out k = search (calm_parts, calm_record_values, calm_restore_values, calm_split_parent)

pub calm_part_child : (k : _) → Calm (part_child k)
unfolding part_child
calm_part_child k = search (calm_parts, calm_split_out)

pub calm_part_children : (n : _) → Calm (part_children n)
unfolding part_children
calm_part_children n = search (calm_parts, calm_part_child)

pub calm_lift_renamed : (n : _) → Calm (lift_renamed n)
unfolding lift_renamed
calm_lift_renamed n = search (calm_parts, calm_lift, calm_part_children)

pub calm_rename : (n : _) → Calm (rename n)
unfolding rename
calm_rename n = search (calm_parts, calm_set_tag_name, calm_lift_renamed)

pub calm_replace_misplaced : (n : _) → Calm (replace_misplaced n)
unfolding replace_misplaced
calm_replace_misplaced n = search (calm_parts, calm_rename, calm_wrap_description)

pub calm_fix_ancestors : (n : _) → Calm (fix_ancestors n)
unfolding fix_ancestors
calm_fix_ancestors n = search (calm_parts, calm_lift, calm_replace_misplaced)

pub calm_unset_rival : (a : _) → Calm (unset_rival a)
calm_unset_rival command.Subscript = search calm_parts
calm_unset_rival command.Superscript = search calm_parts
calm_unset_rival _ = calm_answer tt

pub calm_set_overrides : (command : _) (v : _) → Calm (set_overrides command v)
unfolding set_overrides
calm_set_overrides command v = search (calm_parts, calm_unset_rival)

pub calm_clear_one : (command : _) (e : _) → Calm (clear_one command e)
unfolding clear_one
calm_clear_one command e = search (calm_parts, calm_clear_value)

pub calm_clear_elements : (command : _) → Calm (clear_elements command)
unfolding clear_elements
calm_clear_elements command = search (calm_parts, calm_clear_one)

pub calm_force_phrase : (command : _) (v : _) (n : _) → Calm (force_phrase command v n)
unfolding force_phrase
calm_force_phrase command v n = search (calm_parts, calm_force)

pub calm_give_node : (command : _) (v : _) (n : _) → Calm (give_node command v n)
unfolding give_node
calm_give_node command v n = search (calm_parts, calm_push_down, calm_force_phrase)

pub calm_give_nodes : (command : _) (v : _) → Calm (give_nodes command v)
unfolding give_nodes
calm_give_nodes command v = search (calm_parts, calm_give_node)
