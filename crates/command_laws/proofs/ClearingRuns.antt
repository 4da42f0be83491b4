-- Clearing the value of an element keeps the order, and leaves the states of contenteditable.
use Rattle.std.proofs.Common.{◌≡◌, ℕ, Bool, true, false, if◌then◌else◌, ◌||◌, not, List, [], ◌∷◌, Option, Some, None, refl, sym, ap, ◌∙◌, true≢false}
use Rattle.std.specs.Prelude.{codes, bytes_eq, is_none}
use Rattle.std.specs.Option.{option_and_then}
use Rattle.edit_model.specs.DomModel.declared.attributes.Attribute.{Attribute}
use Rattle.edit_model.specs.DomModel.declared.Content.{Content}
use Rattle.edit_model.specs.DomModel.declared.Content.TheVariants.{Document, Element, Words, Remark}
use Rattle.edit_model.specs.DomModel.Contents.{name_in, name_of}
use Rattle.edit_model.specs.DomModel.Forest.{children_of, content_of}
use Rattle.inline_value.specs.CssValue.declared.decoration.DecorationLine.{DecorationLine}
use Rattle.edit_model.specs.HtmlNames.declared.commands.Command.{Command}
use Rattle.inline_value.specs.CommandValue.Subjects.{subject}
use Rattle.inline_value.specs.CommandValue.declared.subject.Subject.{Subject}
use Rattle.inline_value.specs.CommandValue.declared.subject.Subject.TheVariants.{Link, Background, Script, Line, Weight, Slant, Family, Size, Foreground, Nothing}
use Rattle.inline_value.specs.CommandValue.Modifiable.{is_simple_modifiable}
use Rattle.inline_value.specs.CommandValue.SpecifiedValues.{specified_in, specified}
use Rattle.edit_model.specs.State.{State}
use Rattle.edit_model.specs.Confined.{is_editable_for}
use Rattle.edit_model.specs.Compositions.{set_tag_name}
use Rattle.edit_model.specs.Edit.{Unset}
use Rattle.edit_model.specs.Kept.{borne_by, is_thing}
use Rattle.edit_model.specs.Moves.{unwrap}
use Rattle.edit_model.specs.Run.{Run, final, ◌>>=◌, ◌>>◌, answer, done, given, unset_attribute}
use Rattle.edit_model.proofs.Steps.{final-bind, final-look}
use Rattle.edit_laws.specs.MoveLaws.{IsBare}
use Rattle.edit_laws.specs.Order.{KeepsOrder, IsKeeping}
use Rattle.edit_laws.specs.Steady.{Steady}
use Rattle.edit_laws.specs.OrderPreserving.{OrderPreserving}
use Rattle.edit_laws.proofs.Subsequences.{keeps_trans}
use Rattle.edit_laws.proofs.QuietActions.{keeping_final}
use Rattle.edit_laws.proofs.Renaming.{tag_name_keeps}
use Rattle.edit_laws.proofs.SteadyRuns.{steady_parts, steady_bind, steady_answer, steady_edit, steady_if, steady_look_at}
use Rattle.edit_laws.proofs.OrderPreserving.{order_preserving, order_preserving_answer}
use Rattle.edit_laws.proofs.Unwrapping.{unwrap_keeps, steady_unwrap}
use Rattle.inline_value.specs.Clearing.{write_words, drop_line, drop_word, drop_property, hint_of, drop_attribute, drop_hint, drop_link, span_for, stripped, unwrapped, clear_value}
use Rattle.command_laws.proofs.ClearedValues.{dropped, thing_cleared}
use Rattle.command_laws.proofs.Criteria.{modifiable_bare}
use Rattle.command_laws.proofs.Fits.{Fit, fit}
use Rattle.command_laws.proofs.KeptNames.{named_stays}
use Rattle.command_laws.proofs.Splitting.{then_order_preserving, then_order_preserving_on}
use Rattle.command_laws.proofs.StylingRuns.{order_preserving_set_style, order_preserving_unset_style, steady_set_style, steady_unset_style}

-- ---- the order

order_preserving_words : (e : ℕ) (text : List ℕ) → OrderPreserving (write_words e text)
unfolding write_words
order_preserving_words e text = search (order_preserving, order_preserving_set_style, order_preserving_unset_style)

order_preserving_line : (line : DecorationLine) (e : ℕ) → OrderPreserving (drop_line line e)
unfolding drop_line
order_preserving_line line e = search (order_preserving, order_preserving_words)

order_preserving_word : (u : Subject) (e : ℕ) → OrderPreserving (drop_word u e)
order_preserving_word Link e = order_preserving_answer tt
order_preserving_word Background e = order_preserving_answer tt
order_preserving_word Script e = order_preserving_answer tt
order_preserving_word (Line line) e = order_preserving_line line e
order_preserving_word Weight e = order_preserving_answer tt
order_preserving_word Slant e = order_preserving_answer tt
order_preserving_word Family e = order_preserving_answer tt
order_preserving_word Size e = order_preserving_answer tt
order_preserving_word Foreground e = order_preserving_answer tt
order_preserving_word Nothing e = order_preserving_answer tt

order_preserving_property : (command : Command) (e : ℕ) → OrderPreserving (drop_property command e)
unfolding drop_property
order_preserving_property command e = search (order_preserving, order_preserving_unset_style)

order_preserving_attribute : (name attribute : List ℕ) (e : ℕ) → OrderPreserving (drop_attribute name attribute e)
unfolding drop_attribute
order_preserving_attribute name attribute e = search order_preserving

order_preserving_hint : (command : Command) (e : ℕ) → OrderPreserving (drop_hint command e)
unfolding drop_hint
order_preserving_hint command e = search (order_preserving, order_preserving_attribute)

order_preserving_link : (u : Subject) (e : ℕ) → OrderPreserving (drop_link u e)
order_preserving_link Link e = order_preserving_attribute (codes "a") (codes "href") e
order_preserving_link Background e = order_preserving_answer tt
order_preserving_link Script e = order_preserving_answer tt
order_preserving_link (Line line) e = order_preserving_answer tt
order_preserving_link Weight e = order_preserving_answer tt
order_preserving_link Slant e = order_preserving_answer tt
order_preserving_link Family e = order_preserving_answer tt
order_preserving_link Size e = order_preserving_answer tt
order_preserving_link Foreground e = order_preserving_answer tt
order_preserving_link Nothing e = order_preserving_answer tt

-- an element of another name than an image's or a rule's bears nothing itself
named_bare : (s : State) (e : ℕ) (tag : List ℕ) → name_of s.trees e ≡ Some tag → is_thing tag ≡ false → IsBare s e
unfolding borne_by
named_bare s e tag named plain Document h = refl
named_bare s e tag named plain (Element own attributes) h =
    let same : Some own ≡ Some tag = sym (ap (option_and_then name_in) h) ∙ named in
    let name : own ≡ tag = (let t = same in cc) in
    let t : is_thing own ≡ false = ap is_thing name ∙ plain in
    rw t refl
named_bare s e tag named plain (Words chars) h = absurd (let t : None ≡ Some tag = sym (ap (option_and_then name_in) h) ∙ named in cc)
named_bare s e tag named plain (Remark chars) h = refl

-- so does one that still gives a value where the steps are done, as an image or a rule gives none then
left_bare : (command : Command) (e : ℕ) (s : State) → IsKeeping s → is_editable_for s e ≡ true → is_none (specified s.trees e command) ≡ false → is_none (specified (dropped command e s).trees e command) ≡ false → IsBare (dropped command e s) e
unfolding specified specified_in
left_bare command e s is editable some still = by_content (content_of s.trees e) refl some
  where
    named_left : (tag : List ℕ) → name_of s.trees e ≡ Some tag → name_of (dropped command e s).trees e ≡ Some tag
    named_left tag h =
        let s1 : State = final (drop_word (subject command) e) s in
        let s2 : State = final (drop_property command e) s1 in
        let s3 : State = final (drop_hint command e) s2 in
        let is1 = keeping_final (drop_word (subject command) e) s is in
        let is2 = keeping_final (drop_property command e) s1 is1 in
        let is3 = keeping_final (drop_hint command e) s2 is2 in
        named_stays (drop_link (subject command) e) s3 is3 e tag
        (named_stays (drop_hint command e) s2 is2 e tag
        (named_stays (drop_property command e) s1 is1 e tag
        (named_stays (drop_word (subject command) e) s is e tag h)))

    by_thing : (tag : List ℕ) (list : List Attribute) → content_of s.trees e ≡ Some (Element tag list) → (b : Bool) → is_thing tag ≡ b → IsBare (dropped command e s) e
    by_thing tag list content true thing =
        absurd (true≢false (sym (ap is_none (thing_cleared command e s tag list is.valid editable content thing)) ∙ still))
    by_thing tag list content false plain = named_bare (dropped command e s) e tag (named_left tag (ap (option_and_then name_in) content)) plain

    by_content : (o : Option Content) → content_of s.trees e ≡ o → is_none (option_and_then (λ c. specified_in c command) o) ≡ false → IsBare (dropped command e s) e
    by_content None at some = absurd (true≢false some)
    by_content (Some Document) at some = absurd (true≢false some)
    by_content (Some (Element tag list)) at some = by_thing tag list at (is_thing tag) refl
    by_content (Some (Words chars)) at some = absurd (true≢false some)
    by_content (Some (Remark chars)) at some = absurd (true≢false some)

span_keeps : (command : Command) (e : ℕ) (s : State) → IsKeeping s → (is_none (specified s.trees e command) ≡ false → IsBare s e) → KeepsOrder s (final (span_for command e) s)
unfolding span_for
span_keeps command e s is bare = rw final-look (by_test (is_none (specified s.trees e command)) refl)
  where
    by_test : (v : Bool) → is_none (specified s.trees e command) ≡ v → KeepsOrder s (final (if v then answer [] else (set_tag_name e (codes "span") >>= (λ x. answer (x ∷ [])))) s)
    by_test true h = (order_preserving_answer []).keeps s is
    by_test false h =
        then_order_preserving_on (set_tag_name e (codes "span")) (λ x. answer (x ∷ [])) s is (tag_name_keeps e (codes "span") s is (bare h) refl) (λ x. order_preserving_answer (x ∷ []))

then_keeps : {A B : Type 0} (m : Run A) (n : Run B) (s : State) → OrderPreserving m → IsKeeping s → KeepsOrder (final m s) (final n (final m s)) → KeepsOrder s (final (m >>= (λ _. n)) s)
then_keeps m n s p is k = rw (final-bind m (λ _. n) s) (keeps_trans (p.keeps s is) k)

-- of an editable element that gives a value
stripped_keeps : (command : Command) (e : ℕ) (s : State) → IsKeeping s → is_editable_for s e ≡ true → is_none (specified s.trees e command) ≡ false → KeepsOrder s (final (stripped command e) s)
unfolding stripped
stripped_keeps command e s is editable some =
    let word = drop_word (subject command) e in
    let property = drop_property command e in
    let hint = drop_hint command e in
    let link = drop_link (subject command) e in
    let span = span_for command e in
    let s1 : State = final word s in
    let s2 : State = final property s1 in
    let s3 : State = final hint s2 in
    let is1 = keeping_final word s is in
    let is2 = keeping_final property s1 is1 in
    let is3 = keeping_final hint s2 is2 in
    then_keeps word (property >> (hint >> (link >> span))) s (order_preserving_word (subject command) e) is
    (then_keeps property (hint >> (link >> span)) s1 (order_preserving_property command e) is1
    (then_keeps hint (link >> span) s2 (order_preserving_hint command e) is2
    (then_keeps link span s3 (order_preserving_link (subject command) e) is3
    (span_keeps command e (final link s3) (keeping_final link s3 is3) (left_bare command e s is editable some)))))

unwrapped_keeps : (e : ℕ) (s : State) → IsKeeping s → IsBare s e → KeepsOrder s (final (unwrapped e) s)
unfolding unwrapped
unwrapped_keeps e s is bare = rw final-look (then_order_preserving (unwrap e) (answer (children_of s.trees e)) s is (unwrap_keeps e s is bare) (order_preserving_answer (children_of s.trees e)))

order_preserving_clear_value : (command : Command) (e : ℕ) → OrderPreserving (clear_value command e)
unfolding clear_value
order_preserving_clear_value command e = record { keeps = λ s is. rw final-look (by_test s is (is_editable_for s e) (is_none (specified s.trees e command)) (is_simple_modifiable s.trees e) refl refl refl) }
  where
    by_test : (s : State) → IsKeeping s → (u v w : Bool) → is_editable_for s e ≡ u → is_none (specified s.trees e command) ≡ v → is_simple_modifiable s.trees e ≡ w
        → KeepsOrder s (final (if not u || v then answer [] else (if w then unwrapped e else stripped command e)) s)
    by_test s is false v w g h k = (order_preserving_answer []).keeps s is
    by_test s is true true w g h k = (order_preserving_answer []).keeps s is
    by_test s is true false true g h k = unwrapped_keeps e s is (modifiable_bare s e k)
    by_test s is true false false g h k = stripped_keeps command e s is g h

-- ---- the states of contenteditable

steady_words : (e : ℕ) (text : List ℕ) → Steady (write_words e text)
unfolding write_words
steady_words e text = search (steady_parts, steady_set_style, steady_unset_style)

steady_line : (line : DecorationLine) (e : ℕ) → Steady (drop_line line e)
unfolding drop_line
steady_line line e = search (steady_parts, steady_words)

steady_word : (u : Subject) (e : ℕ) → Steady (drop_word u e)
steady_word Link e = steady_answer tt
steady_word Background e = steady_answer tt
steady_word Script e = steady_answer tt
steady_word (Line line) e = steady_line line e
steady_word Weight e = steady_answer tt
steady_word Slant e = steady_answer tt
steady_word Family e = steady_answer tt
steady_word Size e = steady_answer tt
steady_word Foreground e = steady_answer tt
steady_word Nothing e = steady_answer tt

steady_property : (command : Command) (e : ℕ) → Steady (drop_property command e)
unfolding drop_property
steady_property command e = search (steady_parts, steady_unset_style)

steady_attribute : (name attribute : List ℕ) (e : ℕ) → bytes_eq attribute (codes "contenteditable") ≡ false → Steady (drop_attribute name attribute e)
unfolding drop_attribute
steady_attribute name attribute e plain =
    steady_look_at _ (λ s. steady_if _ _ _ (steady_bind (unset_attribute e attribute) (λ _. done) (steady_edit (Unset e attribute) plain) (λ _. steady_answer tt)) (steady_answer tt))

steady_hinted : (u : Subject) (e : ℕ) → Steady (given (hint_of u) done (λ hint. drop_attribute (codes "font") hint e))
steady_hinted Link e = steady_answer tt
steady_hinted Background e = steady_answer tt
steady_hinted Script e = steady_answer tt
steady_hinted (Line line) e = steady_answer tt
steady_hinted Weight e = steady_answer tt
steady_hinted Slant e = steady_answer tt
steady_hinted Family e = steady_attribute (codes "font") (codes "face") e refl
steady_hinted Size e = steady_attribute (codes "font") (codes "size") e refl
steady_hinted Foreground e = steady_attribute (codes "font") (codes "color") e refl
steady_hinted Nothing e = steady_answer tt

steady_hint : (command : Command) (e : ℕ) → Steady (drop_hint command e)
unfolding drop_hint
steady_hint command e = steady_hinted (subject command) e

steady_link : (u : Subject) (e : ℕ) → Steady (drop_link u e)
steady_link Link e = steady_attribute (codes "a") (codes "href") e refl
steady_link Background e = steady_answer tt
steady_link Script e = steady_answer tt
steady_link (Line line) e = steady_answer tt
steady_link Weight e = steady_answer tt
steady_link Slant e = steady_answer tt
steady_link Family e = steady_answer tt
steady_link Size e = steady_answer tt
steady_link Foreground e = steady_answer tt
steady_link Nothing e = steady_answer tt

steady_span : (command : Command) (e : ℕ) → Steady (span_for command e)
unfolding span_for
steady_span command e = search steady_parts

steady_stripped : (command : Command) (e : ℕ) → Steady (stripped command e)
unfolding stripped
steady_stripped command e = search (steady_parts, steady_word, steady_property, steady_hint, steady_link, steady_span)

steady_unwrapped : (e : ℕ) → Steady (unwrapped e)
unfolding unwrapped
steady_unwrapped e = search (steady_parts, steady_unwrap)

steady_clear_value : (command : Command) (e : ℕ) → Steady (clear_value command e)
unfolding clear_value
steady_clear_value command e = search (steady_parts, steady_unwrapped, steady_stripped)

pub fit_clear_value : (command : Command) (e : ℕ) → Fit (clear_value command e)
fit_clear_value command e = fit (order_preserving_clear_value command e) (steady_clear_value command e)
