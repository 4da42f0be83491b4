-- Forcing values ignores marks and the cap.
use Rattle.std.proofs.Common.{ℕ, Bool, List, Option, zero, suc, codes}
use Rattle.edit_model.specs.HtmlNames.declared.commands.Command.{Command}
use Rattle.inline_value.specs.CommandValue.declared.subject.Subject.{Subject}
use Rattle.inline_value.specs.CommandValue.declared.subject.Subject.TheVariants.{Link, Line}
use Rattle.edit_model.specs.Confined.{is_editable_for}
use Rattle.edit_model.specs.Run.{Run}
use Rattle.inline_value.specs.Reordering.{swapped, reorder_with, reorder, reordered}
use Rattle.inline_value.specs.Forcing.{reorder_prev, reorder_next, joined, rename_link, rename_links, clear_way, make_wrapper, style_by, style_wrapper, has_alike, taken_back, confirm_value, put_in, wrapped, unless_alike, force_node, force_self, force_child, force_heirs, heirs, forced, force_value, force}
use Rattle.independence_laws.proofs.MoveRuns.{ignores_move_all_before, ignores_insert_after, ignores_set_tag_name, ignores_move_before, ignores_insert_before}
use Rattle.independence_laws.proofs.WrapRuns.{ignores_wrap}
use Rattle.independence_laws.proofs.IgnoringRuns.{ignores_answer, ignoring_parts, ignores_bind}
use Rattle.independence_laws.proofs.ClearingRuns.{ignores_set_style}
use Rattle.independence_laws.specs.Ignoring.{IgnoresMarks}

-- ---- reordering

ignores_swapped : (n c : ℕ) → IgnoresMarks (swapped n c)
unfolding swapped
ignores_swapped n c = search (ignoring_parts, ignores_move_all_before, ignores_insert_after) depth 7

ignores_reorder_with : (command : Command) (v : List ℕ) (n c : ℕ) → IgnoresMarks (reorder_with command v n c)
unfolding reorder_with
ignores_reorder_with command v n c = search (ignoring_parts, ignores_swapped)

ignores_reorder : (command : Command) (v : List ℕ) (n : ℕ) → IgnoresMarks (reorder command v n)
unfolding reorder reordered
ignores_reorder command v n = search (ignoring_parts, ignores_reorder_with)

-- ---- forcing a value

ignores_reorder_prev : (command : Command) (v : List ℕ) (n : ℕ) → IgnoresMarks (reorder_prev command v n)
unfolding reorder_prev
ignores_reorder_prev command v n = search (ignoring_parts, ignores_reorder)

ignores_reorder_next : (command : Command) (v : List ℕ) (n : ℕ) → IgnoresMarks (reorder_next command v n)
unfolding reorder_next
ignores_reorder_next command v n = search (ignoring_parts, ignores_reorder)

ignores_joined : (command : Command) (v : List ℕ) (n : ℕ) → IgnoresMarks (joined command v n)
unfolding joined
ignores_joined command v n = search (ignoring_parts, ignores_reorder_prev, ignores_reorder_next, ignores_wrap)

ignores_rename_link : (e : ℕ) → IgnoresMarks (rename_link e)
unfolding rename_link is_editable_for
ignores_rename_link e = search (ignoring_parts, ignores_set_tag_name)

ignores_rename_links : (n : ℕ) → IgnoresMarks (rename_links n)
unfolding rename_links
ignores_rename_links n = search (ignoring_parts, ignores_rename_link)

ignores_clear_way : (u : Subject) (n : ℕ) → IgnoresMarks (clear_way u n)
ignores_clear_way Link n = ignores_rename_links n
ignores_clear_way _ n = ignores_answer tt

ignores_make_wrapper : (command : Command) (v : List ℕ) (n : ℕ) → IgnoresMarks (make_wrapper command v n)
unfolding make_wrapper
ignores_make_wrapper command v n = search (ignoring_parts, ignores_clear_way)

ignores_style_by : (u : Subject) (command : Command) (v : List ℕ) (p : ℕ) → IgnoresMarks (style_by u command v p)
ignores_style_by (Line line) command v p = ignores_set_style p (codes "text-decoration") v
ignores_style_by _ command v p = search (ignoring_parts, ignores_set_style)

ignores_style_wrapper : (command : Command) (v : List ℕ) (p : ℕ) → IgnoresMarks (style_wrapper command v p)
unfolding style_wrapper has_alike
ignores_style_wrapper command v p = search (ignoring_parts, ignores_style_by)

ignores_taken_back : (n p : ℕ) → IgnoresMarks (taken_back n p)
unfolding taken_back
ignores_taken_back n p = search (ignoring_parts, ignores_move_before)

ignores_confirm_value : (command : Command) (v : List ℕ) (n p : ℕ) → IgnoresMarks (confirm_value command v n p)
unfolding confirm_value has_alike
ignores_confirm_value command v n p = search (ignoring_parts, ignores_taken_back)

ignores_put_in : (command : Command) (v : List ℕ) (n p : ℕ) → IgnoresMarks (put_in command v n p)
unfolding put_in
ignores_put_in command v n p = search (ignoring_parts, ignores_insert_before, ignores_style_wrapper, ignores_confirm_value)

ignores_wrapped : (command : Command) (v : List ℕ) (n : ℕ) → IgnoresMarks (wrapped command v n)
unfolding wrapped
ignores_wrapped command v n = search (ignoring_parts, ignores_make_wrapper, ignores_put_in)

ignores_unless_alike : (command : Command) (v : List ℕ) (n : ℕ) → IgnoresMarks (unless_alike command v n)
unfolding unless_alike has_alike
ignores_unless_alike command v n = search (ignoring_parts, ignores_wrapped)

ignores_force_node : (command : Command) (v : List ℕ) (n : ℕ) → IgnoresMarks (force_node command v n)
unfolding force_node
ignores_force_node command v n = search (ignoring_parts, ignores_joined, ignores_unless_alike)

ignores_force_self : (command : Command) (v : List ℕ) (n : ℕ) → IgnoresMarks (force_self command v n)
unfolding force_self
ignores_force_self command v n = search (ignoring_parts, ignores_force_node)

ignores_force_child : (again : ℕ → Run (Unit {0})) (command : Command) (v : List ℕ) (k : ℕ) → ((n : ℕ) → IgnoresMarks (again n)) → IgnoresMarks (force_child again command v k)
unfolding force_child
ignores_force_child again command v k h = search (ignoring_parts, h)

ignores_force_heirs : (again : ℕ → Run (Unit {0})) (command : Command) (v : List ℕ) (n : ℕ) (wanted : Bool) → ((k : ℕ) → IgnoresMarks (again k)) → IgnoresMarks (force_heirs again command v n wanted)
unfolding force_heirs heirs is_editable_for
ignores_force_heirs again command v n wanted h = search (ignoring_parts, ignores_force_child, h)

ignores_forced : (fuel : ℕ) (command : Command) (v : List ℕ) (n : ℕ) → IgnoresMarks (forced fuel command v n)
unfolding forced
ignores_forced zero command v n = ignores_answer tt
ignores_forced (suc fuel) command v n =
    ignores_bind _ _ (ignores_force_self command v n) (λ wanted. ignores_force_heirs (forced fuel command v) command v n wanted (λ k. ignores_forced fuel command v k))

ignores_force_value : (command : Command) (v : List ℕ) (n : ℕ) → IgnoresMarks (force_value command v n)
unfolding force_value
ignores_force_value command v n = search (ignoring_parts, ignores_forced)

pub ignores_force : (command : Command) (v : Option (List ℕ)) (n : ℕ) → IgnoresMarks (force command v n)
unfolding force
ignores_force command v n = search (ignoring_parts, ignores_force_value)
