-- Forcing a value is tame.
use Rattle.std.proofs.Common.{ℕ, zero, suc, Bool, List, Option}
use Rattle.std.specs.Prelude.{codes}
use Rattle.edit_model.specs.HtmlNames.declared.commands.Command.{Command}
use Rattle.inline_value.specs.CommandValue.Subjects.{subject}
use Rattle.inline_value.specs.CommandValue.declared.subject.Subject.{Subject}
use Rattle.inline_value.specs.CommandValue.declared.subject.Subject.TheVariants.{Link, Background, Script, Line, Weight, Slant, Family, Size, Foreground, Nothing}
use Rattle.edit_model.specs.Run.{Run, done}
use Rattle.inline_value.specs.Forcing.{reorder_prev, reorder_next, joined, rename_link, rename_links, clear_way, make_wrapper, style_by, style_wrapper, taken_back, confirm_value, put_in, wrapped, unless_alike, force_node, force_self, heirs, force_child, force_heirs, forced, force_value, force}
use Rattle.making_laws.specs.Tame.{Tame}
use Rattle.making_laws.proofs.WrapperNames.{listed_wrapper}
use Rattle.making_laws.proofs.TameRuns.{made_span, tame_answer, tame_bind, tame_each, tame_if, tame_look, tame_make, tame_moves, tame_parts}
use Rattle.making_laws.proofs.ReorderRuns.{tame_reorder}
use Rattle.making_laws.proofs.StylingRuns.{tame_set_style}
use Rattle.making_laws.proofs.Wraps.{tame_wrap_found}

tame_reorder_prev : (command : Command) (v : List ℕ) (n : ℕ) → Tame (reorder_prev command v n)
unfolding reorder_prev
tame_reorder_prev command v n = search (tame_parts, tame_reorder)

tame_reorder_next : (command : Command) (v : List ℕ) (n : ℕ) → Tame (reorder_next command v n)
unfolding reorder_next
tame_reorder_next command v n = search (tame_parts, tame_reorder)

tame_joined : (command : Command) (v : List ℕ) (n : ℕ) → Tame (joined command v n)
unfolding joined
tame_joined command v n = search (tame_parts, tame_reorder_prev, tame_reorder_next, tame_wrap_found)

tame_rename_link : (e : ℕ) → Tame (rename_link e)
unfolding rename_link
tame_rename_link e = search (tame_parts, made_span)

tame_rename_links : (n : ℕ) → Tame (rename_links n)
unfolding rename_links
tame_rename_links n = search (tame_parts, tame_rename_link)

tame_clear_way : (u : Subject) (n : ℕ) → Tame (clear_way u n)
tame_clear_way Link n = tame_rename_links n
tame_clear_way Background n = tame_answer tt
tame_clear_way Script n = tame_answer tt
tame_clear_way (Line line) n = tame_answer tt
tame_clear_way Weight n = tame_answer tt
tame_clear_way Slant n = tame_answer tt
tame_clear_way Family n = tame_answer tt
tame_clear_way Size n = tame_answer tt
tame_clear_way Foreground n = tame_answer tt
tame_clear_way Nothing n = tame_answer tt

tame_make_wrapper : (command : Command) (v : List ℕ) (n : ℕ) → Tame (make_wrapper command v n)
unfolding make_wrapper
tame_make_wrapper command v n =
    tame_bind (clear_way (subject command) n) _ (tame_clear_way (subject command) n)
    (λ _. tame_look _ (λ s. (let made = listed_wrapper s.flags.css_styling command v in tame_make _ _ made.named made.sets)))

tame_style_by : (u : Subject) (command : Command) (v : List ℕ) (p : ℕ) → Tame (style_by u command v p)
tame_style_by Link command v p = search (tame_parts, tame_set_style)
tame_style_by Background command v p = search (tame_parts, tame_set_style)
tame_style_by Script command v p = search (tame_parts, tame_set_style)
tame_style_by (Line line) command v p = tame_set_style p (codes "text-decoration") v
tame_style_by Weight command v p = search (tame_parts, tame_set_style)
tame_style_by Slant command v p = search (tame_parts, tame_set_style)
tame_style_by Family command v p = search (tame_parts, tame_set_style)
tame_style_by Size command v p = search (tame_parts, tame_set_style)
tame_style_by Foreground command v p = search (tame_parts, tame_set_style)
tame_style_by Nothing command v p = search (tame_parts, tame_set_style)

tame_style_wrapper : (command : Command) (v : List ℕ) (p : ℕ) → Tame (style_wrapper command v p)
unfolding style_wrapper
tame_style_wrapper command v p = search (tame_parts, tame_style_by)

tame_taken_back : (n p : ℕ) → Tame (taken_back n p)
unfolding taken_back
tame_taken_back n p = search (tame_parts, tame_moves)

tame_confirm_value : (command : Command) (v : List ℕ) (n p : ℕ) → Tame (confirm_value command v n p)
unfolding confirm_value
tame_confirm_value command v n p = search (tame_parts, tame_taken_back)

tame_put_in : (command : Command) (v : List ℕ) (n p : ℕ) → Tame (put_in command v n p)
unfolding put_in
tame_put_in command v n p = search (tame_parts, tame_moves, tame_style_wrapper, tame_confirm_value)

tame_wrapped : (command : Command) (v : List ℕ) (n : ℕ) → Tame (wrapped command v n)
unfolding wrapped
tame_wrapped command v n = search (tame_parts, tame_make_wrapper, tame_put_in)

-- ---- the whole

tame_unless : (command : Command) (v : List ℕ) (n : ℕ) → Tame (unless_alike command v n)
unfolding unless_alike
tame_unless command v n = search (tame_parts, tame_wrapped)

tame_node : (command : Command) (v : List ℕ) (n : ℕ) → Tame (force_node command v n)
unfolding force_node
tame_node command v n = search (tame_parts, tame_joined, tame_unless)

tame_self : (command : Command) (v : List ℕ) (n : ℕ) → Tame (force_self command v n)
unfolding force_self
tame_self command v n = search (tame_parts, tame_node)

tame_child : (again : ℕ → Run (Unit {0})) → ((k : ℕ) → Tame (again k)) → (command : Command) (v : List ℕ) (k : ℕ) → Tame (force_child again command v k)
unfolding force_child
tame_child again t command v k = tame_look _ (λ s. tame_if _ done (again k) (tame_answer tt) (t k))

tame_heirs : (again : ℕ → Run (Unit {0})) → ((k : ℕ) → Tame (again k)) → (command : Command) (v : List ℕ) (n : ℕ) (wanted : Bool) → Tame (force_heirs again command v n wanted)
unfolding force_heirs
tame_heirs again t command v n wanted =
    tame_if wanted _ done (tame_look _ (λ s. tame_each (heirs s n) (force_child again command v) (λ k. tame_child again t command v k))) (tame_answer tt)

tame_forced : (fuel : ℕ) (command : Command) (v : List ℕ) (n : ℕ) → Tame (forced fuel command v n)
unfolding forced
tame_forced zero command v n = tame_answer tt
tame_forced (suc fuel) command v n =
    tame_bind (force_self command v n) (force_heirs (forced fuel command v) command v n) (tame_self command v n)
    (λ wanted. tame_heirs (forced fuel command v) (λ k. tame_forced fuel command v k) command v n wanted)

tame_force_value : (command : Command) (v : List ℕ) (n : ℕ) → Tame (force_value command v n)
unfolding force_value
tame_force_value command v n = search (tame_parts, tame_forced)

pub tame_force : (command : Command) (v : Option (List ℕ)) (n : ℕ) → Tame (force command v n)
unfolding force
tame_force command v n = search (tame_parts, tame_force_value)
