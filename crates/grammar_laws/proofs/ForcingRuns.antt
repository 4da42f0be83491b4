-- Forcing a value keeps to the grammar.
use Rattle.std.proofs.Common.{refl, ℕ, zero, suc, Bool, List, Option}
use Rattle.std.specs.Prelude.{codes}
use Rattle.edit_model.specs.HtmlNames.declared.commands.Command.{Command}
use Rattle.inline_value.specs.CommandValue.Subjects.{subject}
use Rattle.inline_value.specs.CommandValue.declared.subject.Subject.{Subject}
use Rattle.inline_value.specs.CommandValue.declared.subject.Subject.TheVariants.{Link, Background, Script, Line, Weight, Slant, Family, Size, Foreground, Nothing}
use Rattle.edit_model.specs.Run.{Run, done}
use Rattle.inline_value.specs.Forcing.{reorder_prev, reorder_next, joined, rename_link, rename_links, clear_way, make_wrapper, style_by, style_wrapper, taken_back, confirm_value, put_in, wrapped, unless_alike, force_node, force_self, heirs, force_child, force_heirs, forced, force_value, force}
use Rattle.inline_value.specs.CommandValue.Subjects.{relevant}
use Rattle.inline_value.specs.Clearing.{property_name}
use Rattle.inline_value.specs.Forcing.{set_relevant}
use Rattle.grammar_laws.specs.Proper.{IsText}
use Rattle.grammar_laws.specs.Runs.{Proper}
use Rattle.grammar_laws.proofs.Values.{IsValue, property_text}
use Rattle.grammar_laws.proofs.WrapperNames.{listed_wrapper}
use Rattle.making_laws.proofs.TameRuns.{made_span}
use Rattle.grammar_laws.proofs.ProperRuns.{proper_given, proper_some, proper_answer, proper_bind, proper_each, proper_if, proper_look, proper_make, proper_moves, proper_parts}
use Rattle.grammar_laws.proofs.ReorderRuns.{proper_reorder}
use Rattle.grammar_laws.proofs.StylingRuns.{proper_set_style}
use Rattle.grammar_laws.proofs.Wraps.{proper_wrap_found}

proper_reorder_prev : (command : Command) (v : List ℕ) (n : ℕ) → Proper (reorder_prev command v n)
unfolding reorder_prev
proper_reorder_prev command v n = search (proper_parts, proper_reorder)

proper_reorder_next : (command : Command) (v : List ℕ) (n : ℕ) → Proper (reorder_next command v n)
unfolding reorder_next
proper_reorder_next command v n = search (proper_parts, proper_reorder)

proper_joined : (command : Command) (v : List ℕ) (n : ℕ) → Proper (joined command v n)
unfolding joined
proper_joined command v n = search (proper_parts, proper_reorder_prev, proper_reorder_next, proper_wrap_found)

proper_rename_link : (e : ℕ) → Proper (rename_link e)
unfolding rename_link
proper_rename_link e = search (proper_parts, made_span)

proper_rename_links : (n : ℕ) → Proper (rename_links n)
unfolding rename_links
proper_rename_links n = search (proper_parts, proper_rename_link)

proper_clear_way : (u : Subject) (n : ℕ) → Proper (clear_way u n)
proper_clear_way Link n = proper_rename_links n
proper_clear_way Background n = proper_answer tt
proper_clear_way Script n = proper_answer tt
proper_clear_way (Line line) n = proper_answer tt
proper_clear_way Weight n = proper_answer tt
proper_clear_way Slant n = proper_answer tt
proper_clear_way Family n = proper_answer tt
proper_clear_way Size n = proper_answer tt
proper_clear_way Foreground n = proper_answer tt
proper_clear_way Nothing n = proper_answer tt

proper_make_wrapper : (command : Command) (v : List ℕ) (n : ℕ) → IsText v → Proper (make_wrapper command v n)
unfolding make_wrapper
proper_make_wrapper command v n own =
    proper_bind (clear_way (subject command) n) _ (proper_clear_way (subject command) n)
    (λ _. proper_look _ (λ s p. (let made = listed_wrapper s.flags.css_styling command v own in proper_make _ _ made.named made.sets)))

proper_relevant : (command : Command) (v : List ℕ) (p : ℕ) → IsText v → Proper (set_relevant command v p)
proper_relevant command v p own = proper_given (relevant command) done _ (proper_answer tt) (λ q. proper_set_style p (property_name q) v (property_text q) own)

proper_style_by : (u : Subject) (command : Command) (v : List ℕ) (p : ℕ) → IsText v → Proper (style_by u command v p)
proper_style_by Link command v p own = proper_relevant command v p own
proper_style_by Background command v p own = proper_relevant command v p own
proper_style_by Script command v p own = proper_relevant command v p own
proper_style_by (Line line) command v p own = proper_set_style p (codes "text-decoration") v refl own
proper_style_by Weight command v p own = proper_relevant command v p own
proper_style_by Slant command v p own = proper_relevant command v p own
proper_style_by Family command v p own = proper_relevant command v p own
proper_style_by Size command v p own = proper_relevant command v p own
proper_style_by Foreground command v p own = proper_relevant command v p own
proper_style_by Nothing command v p own = proper_relevant command v p own

proper_style_wrapper : (command : Command) (v : List ℕ) (p : ℕ) → IsText v → Proper (style_wrapper command v p)
unfolding style_wrapper
proper_style_wrapper command v p own = search (proper_parts, proper_style_by)

proper_taken_back : (n p : ℕ) → Proper (taken_back n p)
unfolding taken_back
proper_taken_back n p = search (proper_parts, proper_moves)

proper_confirm_value : (command : Command) (v : List ℕ) (n p : ℕ) → Proper (confirm_value command v n p)
unfolding confirm_value
proper_confirm_value command v n p = search (proper_parts, proper_taken_back)

proper_put_in : (command : Command) (v : List ℕ) (n p : ℕ) → IsText v → Proper (put_in command v n p)
unfolding put_in
proper_put_in command v n p own = search (proper_parts, proper_moves, proper_style_wrapper, proper_confirm_value)

proper_wrapped : (command : Command) (v : List ℕ) (n : ℕ) → IsText v → Proper (wrapped command v n)
unfolding wrapped
proper_wrapped command v n own = search (proper_parts, proper_make_wrapper, proper_put_in)

-- ---- the whole

proper_unless : (command : Command) (v : List ℕ) (n : ℕ) → IsText v → Proper (unless_alike command v n)
unfolding unless_alike
proper_unless command v n own = search (proper_parts, proper_wrapped)

proper_node : (command : Command) (v : List ℕ) (n : ℕ) → IsText v → Proper (force_node command v n)
unfolding force_node
proper_node command v n own = search (proper_parts, proper_joined, proper_unless)

proper_self : (command : Command) (v : List ℕ) (n : ℕ) → IsText v → Proper (force_self command v n)
unfolding force_self
proper_self command v n own = search (proper_parts, proper_node)

proper_child : (again : ℕ → Run (Unit {0})) → ((k : ℕ) → Proper (again k)) → (command : Command) (v : List ℕ) (k : ℕ) → Proper (force_child again command v k)
unfolding force_child
proper_child again t command v k = proper_look _ (λ s p. proper_if _ done (again k) (proper_answer tt) (t k))

proper_heirs : (again : ℕ → Run (Unit {0})) → ((k : ℕ) → Proper (again k)) → (command : Command) (v : List ℕ) (n : ℕ) (wanted : Bool) → Proper (force_heirs again command v n wanted)
unfolding force_heirs
proper_heirs again t command v n wanted =
    proper_if wanted _ done (proper_look _ (λ s p. proper_each (heirs s n) (force_child again command v) (λ k. proper_child again t command v k))) (proper_answer tt)

proper_forced : (fuel : ℕ) (command : Command) (v : List ℕ) (n : ℕ) → IsText v → Proper (forced fuel command v n)
unfolding forced
proper_forced zero command v n own = proper_answer tt
proper_forced (suc fuel) command v n own =
    proper_bind (force_self command v n) (force_heirs (forced fuel command v) command v n) (proper_self command v n own)
    (λ wanted. proper_heirs (forced fuel command v) (λ k. proper_forced fuel command v k own) command v n wanted)

proper_force_value : (command : Command) (v : List ℕ) (n : ℕ) → IsText v → Proper (force_value command v n)
unfolding force_value
proper_force_value command v n own = search (proper_parts, proper_forced)

pub proper_force : (command : Command) (v : Option (List ℕ)) (n : ℕ) → IsValue v → Proper (force command v n)
unfolding force
proper_force command v n own = proper_some IsText v done _ own (proper_answer tt) (λ w h. proper_force_value command w n h)
