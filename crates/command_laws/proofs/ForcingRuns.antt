-- Forcing a value keeps the order, and leaves the states of contenteditable.
use Rattle.std.proofs.Common.{◌≡◌, ℕ, zero, suc, Bool, true, false, ◌&&◌, if◌then◌else◌, List, [], ◌∷◌, Option, refl}
use Rattle.std.specs.Prelude.{codes}
use Rattle.edit_model.specs.DomModel.declared.attributes.Attribute.{Attribute}
use Rattle.edit_model.specs.DomModel.Contents.{has_name}
use Rattle.edit_model.specs.HtmlNames.declared.commands.Command.{Command}
use Rattle.inline_value.specs.CommandValue.Subjects.{subject}
use Rattle.inline_value.specs.CommandValue.declared.subject.Subject.{Subject}
use Rattle.inline_value.specs.CommandValue.declared.subject.Subject.TheVariants.{Link, Background, Script, Line, Weight, Slant, Family, Size, Foreground, Nothing}
use Rattle.edit_model.specs.State.{State}
use Rattle.edit_model.specs.Action.{made, element_content}
use Rattle.edit_model.specs.Compositions.{set_tag_name}
use Rattle.edit_model.specs.Confined.{is_editable_for}
use Rattle.edit_model.specs.Kept.{is_thing}
use Rattle.edit_model.specs.Moves.{insert_before, move_before, move_last}
use Rattle.edit_model.specs.Run.{Run, final, ◌>>=◌, ◌>>◌, answer, done, remove}
use Rattle.edit_model.proofs.Steps.{final-bind, final-look, final-make_element, value-bind, value-look, value-make_element}
use Rattle.edit_laws.specs.Order.{KeepsOrder, IsKeeping}
use Rattle.edit_laws.specs.Steady.{Steady}
use Rattle.edit_laws.specs.OrderPreserving.{OrderPreserving}
use Rattle.edit_laws.proofs.Nesting.{Held, put_near, near_shaped, goes_in, goes_out}
use Rattle.edit_laws.proofs.QuietActions.{keeping_final}
use Rattle.edit_laws.proofs.Renaming.{tag_name_keeps, keeping_made}
use Rattle.edit_laws.proofs.SteadyRuns.{steady_parts, steady_answer, steady_bind, steady_look_at, steady_make_element}
use Rattle.edit_laws.proofs.Subsequences.{keeps_trans}
use Rattle.edit_laws.proofs.OrderPreserving.{order_preserving, order_preserving_answer, order_preserving_bind, order_preserving_remove}
use Rattle.inline_value.specs.WrapSplit.declared.rule.Criterion.TheVariants.{SameValue}
use Rattle.inline_value.specs.WrapSplit.declared.rule.Recipe.TheVariants.{Nothing as NoNode}
use Rattle.inline_value.specs.WrapSplit.Wrap.{wrap}
use Rattle.inline_value.specs.Forcing.{lacks, reorder_prev, reorder_next, joined, rename_link, rename_links, clear_way, make_wrapper, style_by, style_wrapper, taken_back, confirm_value, put_in, wrapped, unless_alike, force_node, force_self, heirs, force_child, force_heirs, forced, force_value, force}
use Rattle.inline_value.specs.Wrappers.{wrapper_for}
use Rattle.command_laws.proofs.Criteria.{named_bare}
use Rattle.command_laws.proofs.Fits.{Fit, fit, fits, fit_answer, fit_bind, fit_look, fit_if, fit_each}
use Rattle.command_laws.proofs.ReorderRuns.{order_preserving_reorder, steady_reorder}
use Rattle.command_laws.proofs.Splitting.{then_order_preserving}
use Rattle.command_laws.proofs.SteadyMoves.{steady_moves}
use Rattle.command_laws.proofs.SteadyWraps.{steady_wrap_found}
use Rattle.command_laws.proofs.StylingRuns.{Shaping, shaping, shaping_set_style, order_preserving_set_style, steady_set_style}
use Rattle.command_laws.proofs.WrapperNames.{plain_wrapper}
use Rattle.command_laws.proofs.Wrapping.{order_preserving_wrap_one}

-- ---- siblings that give the value take the node in

order_preserving_reorder_prev : (command : Command) (v : List ℕ) (n : ℕ) → OrderPreserving (reorder_prev command v n)
unfolding reorder_prev
order_preserving_reorder_prev command v n = search (order_preserving, order_preserving_reorder)

order_preserving_reorder_next : (command : Command) (v : List ℕ) (n : ℕ) → OrderPreserving (reorder_next command v n)
unfolding reorder_next
order_preserving_reorder_next command v n = search (order_preserving, order_preserving_reorder)

order_preserving_joining : (command : Command) (v : List ℕ) (n : ℕ) → OrderPreserving (wrap (SameValue command v) NoNode (n ∷ []))
order_preserving_joining command v n = order_preserving_wrap_one (SameValue command v) NoNode n tt tt

order_preserving_joined : (command : Command) (v : List ℕ) (n : ℕ) → OrderPreserving (joined command v n)
unfolding joined
order_preserving_joined command v n = search (order_preserving, order_preserving_reorder_prev, order_preserving_reorder_next, order_preserving_joining)

-- ---- links around the node

renamed_keeps : (e : ℕ) (s : State) → IsKeeping s → (v w : Bool) → has_name s.trees e (codes "a") ≡ w → KeepsOrder s (final (if v && w then (set_tag_name e (codes "span") >> done) else done) s)
renamed_keeps e s is true true h = then_order_preserving (set_tag_name e (codes "span")) done s is (tag_name_keeps e (codes "span") s is (named_bare s e (codes "a") refl h) refl) (order_preserving_answer tt)
renamed_keeps e s is true false h = (order_preserving_answer tt).keeps s is
renamed_keeps e s is false w h = (order_preserving_answer tt).keeps s is

order_preserving_rename_link : (e : ℕ) → OrderPreserving (rename_link e)
unfolding rename_link
order_preserving_rename_link e = record { keeps = λ s is. rw final-look (renamed_keeps e s is (is_editable_for s e) (has_name s.trees e (codes "a")) refl) }

order_preserving_rename_links : (n : ℕ) → OrderPreserving (rename_links n)
unfolding rename_links
order_preserving_rename_links n = search (order_preserving, order_preserving_rename_link)

order_preserving_clear_way : (u : Subject) (n : ℕ) → OrderPreserving (clear_way u n)
order_preserving_clear_way Link n = order_preserving_rename_links n
order_preserving_clear_way Background n = order_preserving_answer tt
order_preserving_clear_way Script n = order_preserving_answer tt
order_preserving_clear_way (Line line) n = order_preserving_answer tt
order_preserving_clear_way Weight n = order_preserving_answer tt
order_preserving_clear_way Slant n = order_preserving_answer tt
order_preserving_clear_way Family n = order_preserving_answer tt
order_preserving_clear_way Size n = order_preserving_answer tt
order_preserving_clear_way Foreground n = order_preserving_answer tt
order_preserving_clear_way Nothing n = order_preserving_answer tt

-- ---- the style of what is made

order_preserving_style_by : (u : Subject) (command : Command) (v : List ℕ) (p : ℕ) → OrderPreserving (style_by u command v p)
order_preserving_style_by Link command v p = search (order_preserving, order_preserving_set_style)
order_preserving_style_by Background command v p = search (order_preserving, order_preserving_set_style)
order_preserving_style_by Script command v p = search (order_preserving, order_preserving_set_style)
order_preserving_style_by (Line line) command v p = order_preserving_set_style p (codes "text-decoration") v
order_preserving_style_by Weight command v p = search (order_preserving, order_preserving_set_style)
order_preserving_style_by Slant command v p = search (order_preserving, order_preserving_set_style)
order_preserving_style_by Family command v p = search (order_preserving, order_preserving_set_style)
order_preserving_style_by Size command v p = search (order_preserving, order_preserving_set_style)
order_preserving_style_by Foreground command v p = search (order_preserving, order_preserving_set_style)
order_preserving_style_by Nothing command v p = search (order_preserving, order_preserving_set_style)

order_preserving_style_wrapper : (command : Command) (v : List ℕ) (p : ℕ) → OrderPreserving (style_wrapper command v p)
unfolding style_wrapper
order_preserving_style_wrapper command v p = search (order_preserving, order_preserving_style_by)

shaping_style_by : (u : Subject) (command : Command) (v : List ℕ) (p : ℕ) → Shaping (style_by u command v p)
shaping_style_by Link command v p = search (shaping, shaping_set_style)
shaping_style_by Background command v p = search (shaping, shaping_set_style)
shaping_style_by Script command v p = search (shaping, shaping_set_style)
shaping_style_by (Line line) command v p = shaping_set_style p (codes "text-decoration") v
shaping_style_by Weight command v p = search (shaping, shaping_set_style)
shaping_style_by Slant command v p = search (shaping, shaping_set_style)
shaping_style_by Family command v p = search (shaping, shaping_set_style)
shaping_style_by Size command v p = search (shaping, shaping_set_style)
shaping_style_by Foreground command v p = search (shaping, shaping_set_style)
shaping_style_by Nothing command v p = search (shaping, shaping_set_style)

shaping_style_wrapper : (command : Command) (v : List ℕ) (p : ℕ) → Shaping (style_wrapper command v p)
unfolding style_wrapper
shaping_style_wrapper command v p = search (shaping, shaping_style_by)

-- ---- the node goes in, and comes out again where it hasn't taken the value

confirm_value_keeps : (command : Command) (v : List ℕ) (n p : ℕ) (s : State) → IsKeeping s → Held s p n → KeepsOrder s (final (confirm_value command v n p) s)
unfolding confirm_value taken_back
confirm_value_keeps command v n p s is held = rw final-look (by_test (lacks s n command v))
  where
    rest : OrderPreserving (remove p >>= (λ _. answer true))
    rest = order_preserving_bind (remove p) (λ _. answer true) (order_preserving_remove p) (λ _. order_preserving_answer true)

    by_test : (w : Bool) → KeepsOrder s (final (if w then taken_back n p else answer false) s)
    by_test true = then_order_preserving (move_before p n) (remove p >>= (λ _. answer true)) s is (goes_out s is p n held) rest
    by_test false = (order_preserving_answer false).keeps s is

put_in_keeps : (command : Command) (v : List ℕ) (n : ℕ) (s : State) → IsKeeping s → (name : List ℕ) (attributes : List Attribute) → is_thing name ≡ false
    → KeepsOrder s (final (put_in command v n s.next) (made (element_content name attributes) s))
unfolding put_in
put_in_keeps command v n s is name attributes plain =
    let p = s.next in
    let s1 : State = made (element_content name attributes) s in
    let s2 : State = final (insert_before n p) s1 in
    let s3 : State = final (style_wrapper command v p) s2 in
    let s4 : State = final (move_last p n) s3 in
    let is2 : IsKeeping s2 = keeping_final (insert_before n p) s1 (keeping_made name attributes s is) in
    let is3 : IsKeeping s3 = keeping_final (style_wrapper command v p) s2 is2 in
    let put = put_near s is name attributes plain n in
    let into = goes_in s3 is3 p n (near_shaped s2 s3 p n ((shaping_style_wrapper command v p).shapes s2 is2.valid) put.1) in
    rw (final-bind, final-bind, final-bind)
    (keeps_trans put.0
    (keeps_trans ((order_preserving_style_wrapper command v p).keeps s2 is2)
    (keeps_trans into.0 (confirm_value_keeps command v n p s4 (keeping_final (move_last p n) s3 is3) into.1))))

order_preserving_wrapped : (command : Command) (v : List ℕ) (n : ℕ) → OrderPreserving (wrapped command v n)
unfolding wrapped make_wrapper
order_preserving_wrapped command v n = record {
  keeps = λ s is. (
      let way : Run (Unit {0}) = clear_way (subject command) n in
      let t : State = final way s in
      let w = wrapper_for t.flags.css_styling command v in
      rw (final-bind, final-bind, final-look, final-make_element, value-bind, value-look, value-make_element)
      (keeps_trans ((order_preserving_clear_way (subject command) n).keeps s is)
      (put_in_keeps command v n t (keeping_final way s is) w.name w.attributes (plain_wrapper t.flags.css_styling command v).named)));
}

-- ---- the states of contenteditable

steady_reorder_prev : (command : Command) (v : List ℕ) (n : ℕ) → Steady (reorder_prev command v n)
unfolding reorder_prev
steady_reorder_prev command v n = search (steady_parts, steady_reorder)

steady_reorder_next : (command : Command) (v : List ℕ) (n : ℕ) → Steady (reorder_next command v n)
unfolding reorder_next
steady_reorder_next command v n = search (steady_parts, steady_reorder)

steady_joined : (command : Command) (v : List ℕ) (n : ℕ) → Steady (joined command v n)
unfolding joined
steady_joined command v n = search (steady_parts, steady_reorder_prev, steady_reorder_next, steady_wrap_found)

steady_rename_link : (e : ℕ) → Steady (rename_link e)
unfolding rename_link
steady_rename_link e = search steady_parts

steady_rename_links : (n : ℕ) → Steady (rename_links n)
unfolding rename_links
steady_rename_links n = search (steady_parts, steady_rename_link)

steady_clear_way : (u : Subject) (n : ℕ) → Steady (clear_way u n)
steady_clear_way Link n = steady_rename_links n
steady_clear_way Background n = steady_answer tt
steady_clear_way Script n = steady_answer tt
steady_clear_way (Line line) n = steady_answer tt
steady_clear_way Weight n = steady_answer tt
steady_clear_way Slant n = steady_answer tt
steady_clear_way Family n = steady_answer tt
steady_clear_way Size n = steady_answer tt
steady_clear_way Foreground n = steady_answer tt
steady_clear_way Nothing n = steady_answer tt

steady_make_wrapper : (command : Command) (v : List ℕ) (n : ℕ) → Steady (make_wrapper command v n)
unfolding make_wrapper
steady_make_wrapper command v n =
    steady_bind (clear_way (subject command) n) _ (steady_clear_way (subject command) n)
    (λ _. steady_look_at _ (λ s. steady_make_element _ _ (plain_wrapper s.flags.css_styling command v).steady))

steady_style_by : (u : Subject) (command : Command) (v : List ℕ) (p : ℕ) → Steady (style_by u command v p)
steady_style_by Link command v p = search (steady_parts, steady_set_style)
steady_style_by Background command v p = search (steady_parts, steady_set_style)
steady_style_by Script command v p = search (steady_parts, steady_set_style)
steady_style_by (Line line) command v p = steady_set_style p (codes "text-decoration") v
steady_style_by Weight command v p = search (steady_parts, steady_set_style)
steady_style_by Slant command v p = search (steady_parts, steady_set_style)
steady_style_by Family command v p = search (steady_parts, steady_set_style)
steady_style_by Size command v p = search (steady_parts, steady_set_style)
steady_style_by Foreground command v p = search (steady_parts, steady_set_style)
steady_style_by Nothing command v p = search (steady_parts, steady_set_style)

steady_style_wrapper : (command : Command) (v : List ℕ) (p : ℕ) → Steady (style_wrapper command v p)
unfolding style_wrapper
steady_style_wrapper command v p = search (steady_parts, steady_style_by)

steady_taken_back : (n p : ℕ) → Steady (taken_back n p)
unfolding taken_back
steady_taken_back n p = search (steady_parts, steady_moves)

steady_confirm_value : (command : Command) (v : List ℕ) (n p : ℕ) → Steady (confirm_value command v n p)
unfolding confirm_value
steady_confirm_value command v n p = search (steady_parts, steady_taken_back)

steady_put_in : (command : Command) (v : List ℕ) (n p : ℕ) → Steady (put_in command v n p)
unfolding put_in
steady_put_in command v n p = search (steady_parts, steady_moves, steady_style_wrapper, steady_confirm_value)

steady_wrapped : (command : Command) (v : List ℕ) (n : ℕ) → Steady (wrapped command v n)
unfolding wrapped
steady_wrapped command v n = search (steady_parts, steady_make_wrapper, steady_put_in)

-- ---- the whole

fit_joined : (command : Command) (v : List ℕ) (n : ℕ) → Fit (joined command v n)
fit_joined command v n = fit (order_preserving_joined command v n) (steady_joined command v n)

fit_wrapped : (command : Command) (v : List ℕ) (n : ℕ) → Fit (wrapped command v n)
fit_wrapped command v n = fit (order_preserving_wrapped command v n) (steady_wrapped command v n)

fit_unless : (command : Command) (v : List ℕ) (n : ℕ) → Fit (unless_alike command v n)
unfolding unless_alike
fit_unless command v n = search (fits, fit_wrapped)

fit_node : (command : Command) (v : List ℕ) (n : ℕ) → Fit (force_node command v n)
unfolding force_node
fit_node command v n = search (fits, fit_joined, fit_unless)

fit_self : (command : Command) (v : List ℕ) (n : ℕ) → Fit (force_self command v n)
unfolding force_self
fit_self command v n = search (fits, fit_node)

fit_child : (again : ℕ → Run (Unit {0})) → ((k : ℕ) → Fit (again k)) → (command : Command) (v : List ℕ) (k : ℕ) → Fit (force_child again command v k)
unfolding force_child
fit_child again t command v k = fit_look _ (λ s. fit_if _ done (again k) (fit_answer tt) (t k))

fit_heirs : (again : ℕ → Run (Unit {0})) → ((k : ℕ) → Fit (again k)) → (command : Command) (v : List ℕ) (n : ℕ) (wanted : Bool) → Fit (force_heirs again command v n wanted)
unfolding force_heirs
fit_heirs again t command v n wanted =
    fit_if wanted _ done (fit_look _ (λ s. fit_each (heirs s n) (force_child again command v) (λ k. fit_child again t command v k))) (fit_answer tt)

fit_forced : (fuel : ℕ) (command : Command) (v : List ℕ) (n : ℕ) → Fit (forced fuel command v n)
unfolding forced
fit_forced zero command v n = fit_answer tt
fit_forced (suc fuel) command v n =
    fit_bind (force_self command v n) (force_heirs (forced fuel command v) command v n) (fit_self command v n)
    (λ wanted. fit_heirs (forced fuel command v) (λ k. fit_forced fuel command v k) command v n wanted)

fit_force_value : (command : Command) (v : List ℕ) (n : ℕ) → Fit (force_value command v n)
unfolding force_value
fit_force_value command v n = search (fits, fit_forced)

pub fit_force : (command : Command) (v : Option (List ℕ)) (n : ℕ) → Fit (force command v n)
unfolding force
fit_force command v n = search (fits, fit_force_value)
