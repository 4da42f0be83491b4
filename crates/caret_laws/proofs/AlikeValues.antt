-- Clearing, forcing, pushing down, recording and restoring values is the same whether the command keeps contents or not, where nothing
-- is taken out that is kept.
use Rattle.std.proofs.Common.{ℕ, List, codes, Bool, Option, zero, suc, ◌≡◌, [], ◌∷◌, Some, None, refl, ap, ◌++◌}
use Rattle.edit_model.specs.HtmlNames.declared.commands.Command.{Command}
use Rattle.inline_value.specs.CssValue.declared.decoration.DecorationLine.{DecorationLine}
use Rattle.inline_value.specs.CommandValue.declared.subject.Subject.{Subject}
use Rattle.inline_value.specs.CommandValue.declared.subject.Subject.TheVariants.{Line, Link}
use Rattle.edit_model.specs.Confined.{is_editable_for}
use Rattle.inline_value.specs.Styling.{write_text, set_style, declarations_of, style_of, unset_style, decoration_of}
use Rattle.inline_value.specs.Clearing.{write_words, drop_line, drop_word, drop_property, drop_attribute, drop_hint, drop_link, span_for, stripped, unwrapped, clear_value}
use Rattle.caret_laws.proofs.SparingRuns.{alike_answer, alike_parts, alike_bind, alike_look, Alike}
use Rattle.caret_laws.proofs.AlikeMoves.{alike_set_tag_name, alike_unwrap, alike_move_all_before, alike_insert_after, alike_move_before, alike_insert_before}
use Rattle.edit_model.specs.Run.{Run}
use Rattle.inline_value.specs.Reordering.{swapped, reorder_with, reorder, reordered}
use Rattle.inline_value.specs.Forcing.{reorder_prev, reorder_next, joined, rename_link, rename_links, clear_way, make_wrapper, style_by, style_wrapper, has_alike, taken_back, confirm_value, put_in, wrapped, unless_alike, force_node, force_self, force_child, force_heirs, heirs, forced, force_value, force}
use Rattle.caret_laws.proofs.AlikeWraps.{alike_wrap}
use Rattle.edit_model.specs.DomModel.Forest.{first_in}
use Rattle.inline_value.specs.CommandValue.SpecifiedValues.{specified}
use Rattle.edit_model.specs.State.{State}
use Rattle.inline_value.specs.Pushing.{push_to, clear_level, push_level, push_levels, own_or, push_from, is_hopeless, push_listed, push_down, needs_none, others_above}
use Rattle.inline_value.specs.Recording.{record_values, restored_to, Recorded, restore_value, restore_values, value_at, values_at, values_of}
use Rattle.caret_laws.proofs.BlindRuns.{kept}

-- ---- styles

alike_write_text : (e : ℕ) (text : List ℕ) → Alike (write_text e text)
unfolding write_text
alike_write_text e text = search alike_parts

pub alike_set_style : (e : ℕ) (name value : List ℕ) → Alike (set_style e name value)
unfolding set_style declarations_of style_of
alike_set_style e name value = search (alike_parts, alike_write_text)

pub alike_unset_style : (e : ℕ) (name : List ℕ) → Alike (unset_style e name)
unfolding unset_style declarations_of style_of
alike_unset_style e name = search (alike_parts, alike_write_text)

-- ---- clearing a value

alike_write_words : (e : ℕ) (text : List ℕ) → Alike (write_words e text)
unfolding write_words
alike_write_words e text = search (alike_parts, alike_unset_style, alike_set_style)

alike_drop_line : (line : DecorationLine) (e : ℕ) → Alike (drop_line line e)
unfolding drop_line decoration_of declarations_of style_of
alike_drop_line line e = search (alike_parts, alike_write_words)

alike_drop_word : (u : Subject) (e : ℕ) → Alike (drop_word u e)
alike_drop_word (Line line) e = alike_drop_line line e
alike_drop_word _ e = alike_answer tt

alike_drop_property : (command : Command) (e : ℕ) → Alike (drop_property command e)
unfolding drop_property
alike_drop_property command e = search (alike_parts, alike_unset_style)

alike_drop_attribute : (name attribute : List ℕ) (e : ℕ) → Alike (drop_attribute name attribute e)
unfolding drop_attribute
alike_drop_attribute name attribute e = search alike_parts

alike_drop_hint : (command : Command) (e : ℕ) → Alike (drop_hint command e)
unfolding drop_hint
alike_drop_hint command e = search (alike_parts, alike_drop_attribute)

alike_drop_link : (u : Subject) (e : ℕ) → Alike (drop_link u e)
alike_drop_link Link e = alike_drop_attribute (codes "a") (codes "href") e
alike_drop_link _ e = alike_answer tt

alike_span_for : (command : Command) (e : ℕ) → Alike (span_for command e)
unfolding span_for
alike_span_for command e = search (alike_parts, alike_set_tag_name)

alike_stripped : (command : Command) (e : ℕ) → Alike (stripped command e)
unfolding stripped
alike_stripped command e = search (alike_parts, alike_drop_word, alike_drop_property, alike_drop_hint, alike_drop_link, alike_span_for)

alike_unwrapped : (e : ℕ) → Alike (unwrapped e)
unfolding unwrapped
alike_unwrapped e = search (alike_parts, alike_unwrap)

pub alike_clear_value : (command : Command) (e : ℕ) → Alike (clear_value command e)
unfolding clear_value is_editable_for
alike_clear_value command e = search (alike_parts, alike_unwrapped, alike_stripped)

-- ---- reordering

alike_swapped : (n c : ℕ) → Alike (swapped n c)
unfolding swapped
alike_swapped n c = search (alike_parts, alike_move_all_before, alike_insert_after) depth 7

alike_reorder_with : (command : Command) (v : List ℕ) (n c : ℕ) → Alike (reorder_with command v n c)
unfolding reorder_with
alike_reorder_with command v n c = search (alike_parts, alike_swapped)

alike_reorder : (command : Command) (v : List ℕ) (n : ℕ) → Alike (reorder command v n)
unfolding reorder reordered
alike_reorder command v n = search (alike_parts, alike_reorder_with)

-- ---- forcing a value

alike_reorder_prev : (command : Command) (v : List ℕ) (n : ℕ) → Alike (reorder_prev command v n)
unfolding reorder_prev
alike_reorder_prev command v n = search (alike_parts, alike_reorder)

alike_reorder_next : (command : Command) (v : List ℕ) (n : ℕ) → Alike (reorder_next command v n)
unfolding reorder_next
alike_reorder_next command v n = search (alike_parts, alike_reorder)

alike_joined : (command : Command) (v : List ℕ) (n : ℕ) → Alike (joined command v n)
unfolding joined
alike_joined command v n = search (alike_parts, alike_reorder_prev, alike_reorder_next, alike_wrap)

alike_rename_link : (e : ℕ) → Alike (rename_link e)
unfolding rename_link is_editable_for
alike_rename_link e = search (alike_parts, alike_set_tag_name)

alike_rename_links : (n : ℕ) → Alike (rename_links n)
unfolding rename_links
alike_rename_links n = search (alike_parts, alike_rename_link)

alike_clear_way : (u : Subject) (n : ℕ) → Alike (clear_way u n)
alike_clear_way Link n = alike_rename_links n
alike_clear_way _ n = alike_answer tt

alike_make_wrapper : (command : Command) (v : List ℕ) (n : ℕ) → Alike (make_wrapper command v n)
unfolding make_wrapper
alike_make_wrapper command v n = search (alike_parts, alike_clear_way)

alike_style_by : (u : Subject) (command : Command) (v : List ℕ) (p : ℕ) → Alike (style_by u command v p)
alike_style_by (Line line) command v p = alike_set_style p (codes "text-decoration") v
alike_style_by _ command v p = search (alike_parts, alike_set_style)

alike_style_wrapper : (command : Command) (v : List ℕ) (p : ℕ) → Alike (style_wrapper command v p)
unfolding style_wrapper has_alike
alike_style_wrapper command v p = search (alike_parts, alike_style_by)

alike_taken_back : (n p : ℕ) → Alike (taken_back n p)
unfolding taken_back
alike_taken_back n p = search (alike_parts, alike_move_before)

alike_confirm_value : (command : Command) (v : List ℕ) (n p : ℕ) → Alike (confirm_value command v n p)
unfolding confirm_value has_alike
alike_confirm_value command v n p = search (alike_parts, alike_taken_back)

alike_put_in : (command : Command) (v : List ℕ) (n p : ℕ) → Alike (put_in command v n p)
unfolding put_in
alike_put_in command v n p = search (alike_parts, alike_insert_before, alike_style_wrapper, alike_confirm_value)

alike_wrapped : (command : Command) (v : List ℕ) (n : ℕ) → Alike (wrapped command v n)
unfolding wrapped
alike_wrapped command v n = search (alike_parts, alike_make_wrapper, alike_put_in)

alike_unless_alike : (command : Command) (v : List ℕ) (n : ℕ) → Alike (unless_alike command v n)
unfolding unless_alike has_alike
alike_unless_alike command v n = search (alike_parts, alike_wrapped)

alike_force_node : (command : Command) (v : List ℕ) (n : ℕ) → Alike (force_node command v n)
unfolding force_node
alike_force_node command v n = search (alike_parts, alike_joined, alike_unless_alike)

alike_force_self : (command : Command) (v : List ℕ) (n : ℕ) → Alike (force_self command v n)
unfolding force_self
alike_force_self command v n = search (alike_parts, alike_force_node)

alike_force_child : (again : ℕ → Run (Unit {0})) (command : Command) (v : List ℕ) (k : ℕ) → ((n : ℕ) → Alike (again n)) → Alike (force_child again command v k)
unfolding force_child
alike_force_child again command v k h = search (alike_parts, h)

alike_force_heirs : (again : ℕ → Run (Unit {0})) (command : Command) (v : List ℕ) (n : ℕ) (wanted : Bool) → ((k : ℕ) → Alike (again k)) → Alike (force_heirs again command v n wanted)
unfolding force_heirs heirs is_editable_for
alike_force_heirs again command v n wanted h = search (alike_parts, alike_force_child, h)

alike_forced : (fuel : ℕ) (command : Command) (v : List ℕ) (n : ℕ) → Alike (forced fuel command v n)
unfolding forced
alike_forced zero command v n = alike_answer tt
alike_forced (suc fuel) command v n =
    alike_bind _ _ (alike_force_self command v n) (λ wanted. alike_force_heirs (forced fuel command v) command v n wanted (λ k. alike_forced fuel command v k))

alike_force_value : (command : Command) (v : List ℕ) (n : ℕ) → Alike (force_value command v n)
unfolding force_value
alike_force_value command v n = search (alike_parts, alike_forced)

pub alike_force : (command : Command) (v : Option (List ℕ)) (n : ℕ) → Alike (force command v n)
unfolding force
alike_force command v n = search (alike_parts, alike_force_value)

values_of_at : (s : State) (list : List ℕ) → values_of (kept s) list ≡ values_of s list
unfolding values_of values_at value_at
values_of_at s [] = refl
values_of_at s (n ∷ list) = ap (λ t. values_at s n ++ t) (values_of_at s list)

pub values_of_same : (s : State) → values_of (kept s) ≡ values_of s
values_of_same s = λ i list. values_of_at s list i

-- ---- pushing values down

alike_push_to : (command : Command) (w : Option (List ℕ)) (n : ℕ) (next : Option ℕ) (k : ℕ) → Alike (push_to command w n next k)
unfolding push_to
alike_push_to command w n next k = search (alike_parts, alike_force)

alike_clear_level : (command : Command) (e : ℕ) → Alike (clear_level command e)
unfolding clear_level
alike_clear_level command e = search (alike_parts, alike_clear_value)

alike_push_level : (command : Command) (w : Option (List ℕ)) (n : ℕ) (next : Option ℕ) (e : ℕ) → Alike (push_level command w n next e)
unfolding push_level
alike_push_level command w n next e = search (alike_parts, alike_clear_level, alike_push_to)

alike_push_levels : (command : Command) (w : Option (List ℕ)) (n : ℕ) (list : List ℕ) → Alike (push_levels command w n list)
unfolding push_levels
alike_push_levels command w n [] = alike_answer tt
alike_push_levels command w n (e ∷ list) = alike_look _ (λ s. refl) (λ s. (
    let u = own_or (specified s.trees e command) w in
    alike_bind (push_level command u n (first_in list) e) (λ _. push_levels command u n list) (alike_push_level command u n (first_in list) e) (λ _. alike_push_levels command u n list)))

alike_push_from : (command : Command) (v : Option (List ℕ)) (n : ℕ) (list : List ℕ) (e : ℕ) → Alike (push_from command v n list e)
unfolding push_from is_hopeless has_alike
alike_push_from command v n list e = search (alike_parts, alike_push_levels)

alike_push_listed : (command : Command) (v : Option (List ℕ)) (n : ℕ) (list : List ℕ) → Alike (push_listed command v n list)
unfolding push_listed
alike_push_listed command v n list = search (alike_parts, alike_push_from)

pub alike_push_down : (command : Command) (v : Option (List ℕ)) (n : ℕ) → Alike (push_down command v n)
unfolding push_down needs_none has_alike others_above is_editable_for
alike_push_down command v n = search (alike_parts, alike_push_listed)

-- ---- recorded values

pub alike_record_values : (list : List ℕ) → Alike (record_values list)
unfolding record_values
alike_record_values list = alike_look _ (λ s. rw (values_of_same s)) (λ s. alike_answer _)

alike_restored_to : (command : Command) (n : ℕ) (w u : Option (List ℕ)) → Alike (restored_to command n w u)
alike_restored_to command n None u = search (alike_parts, alike_push_down)
alike_restored_to command n (Some w) u = search (alike_parts, alike_force)

alike_restore_value : (r : Recorded) → Alike (restore_value r)
unfolding restore_value
alike_restore_value r = search (alike_parts, alike_restored_to)

pub alike_restore_values : (list : List Recorded) → Alike (restore_values list)
unfolding restore_values
alike_restore_values list = search (alike_parts, alike_restore_value)
