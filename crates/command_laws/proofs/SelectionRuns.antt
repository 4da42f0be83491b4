-- Setting a value on the selection keeps the order, and leaves the states of contenteditable.
use Rattle.std.proofs.Common.{◌≡◌, ℕ, Bool, true, false, if◌then◌else◌, List, Option, Some, None, refl, sym, true≢false}
use Rattle.std.specs.Option.{option_map_or}
use Rattle.edit_model.specs.DomModel.declared.Content.{Content}
use Rattle.edit_model.specs.DomModel.declared.Content.TheVariants.{Document, Element, Words, Remark}
use Rattle.edit_model.specs.DomModel.Forest.{Forest, content_of}
use Rattle.edit_model.specs.HtmlNames.declared.commands.Command.{Command}
use Rattle.edit_model.specs.HtmlNames.declared.commands.Command.TheVariants as command
use Rattle.edit_model.specs.LiveRange.declared.places.Pair.{Pair}
use Rattle.edit_model.specs.LiveRange.declared.places.Point.{Point}
use Rattle.inline_value.specs.NodeTests.CollapsedWhitespace.{is_words_content, is_words}
use Rattle.edit_model.specs.State.{State}
use Rattle.edit_model.specs.Action.{Override}
use Rattle.edit_model.specs.Compositions.{split_words}
use Rattle.edit_model.specs.Confined.{is_editable_for}
use Rattle.edit_model.specs.declared.settings.Setting.TheVariants.{Absent}
use Rattle.edit_model.specs.Run.{final, ◌>>=◌, ◌>>◌, done}
use Rattle.edit_model.proofs.Steps.{final-look}
use Rattle.edit_laws.specs.Order.{KeepsOrder, IsKeeping}
use Rattle.edit_laws.specs.Steady.{Steady}
use Rattle.edit_laws.specs.OrderPreserving.{OrderPreserving}
use Rattle.edit_laws.proofs.Splitting.{split_keeps}
use Rattle.edit_laws.proofs.SteadyRuns.{steady_parts}
use Rattle.edit_laws.proofs.OrderPreserving.{order_preserving, order_preserving_answer}
use Rattle.inline_value.specs.Selections.{is_amid, with_start, set_start, start_text, split_at_start, split_at_end, split_start, split_end, split_ends, unset_rival, set_overrides, clear_one, clear_elements, force_phrase, give_node, give_nodes, give_range, set_value}
use Rattle.command_laws.proofs.ClearingRuns.{fit_clear_value}
use Rattle.command_laws.proofs.Criteria.{first_part, second_part}
use Rattle.command_laws.proofs.Fits.{Fit, fit, fits, fit_answer, fit_perform}
use Rattle.command_laws.proofs.ForcingRuns.{fit_force}
use Rattle.command_laws.proofs.PushingRuns.{fit_push_down}
use Rattle.command_laws.proofs.Splitting.{then_order_preserving, then_order_preserving_on}

-- ---- splitting the texts at the ends

words_there : (s : State) (l : ℕ) → is_words s.trees l ≡ true → (chars : List ℕ) × (content_of s.trees l ≡ Some (Words chars))
unfolding is_words
words_there s l h = by_content (content_of s.trees l) h
  where
    by_content : (o : Option Content) → option_map_or is_words_content o false ≡ true → (chars : List ℕ) × (o ≡ Some (Words chars))
    by_content None k = absurd (true≢false (sym k))
    by_content (Some Document) k = absurd (true≢false (sym k))
    by_content (Some (Element name attributes)) k = absurd (true≢false (sym k))
    by_content (Some (Words chars)) k = (chars, refl)
    by_content (Some (Remark chars)) k = absurd (true≢false (sym k))

amid_keeps : (s : State) → IsKeeping s → (at : Point) → is_amid s at ≡ true → KeepsOrder s (final (split_words at.label at.offset) s)
unfolding is_amid
amid_keeps s is at h =
    let w = words_there s at.label (first_part (is_words s.trees at.label) _ h) in
    split_keeps at.label at.offset w.0 s is w.1 (λ _. first_part (is_editable_for s at.label) _ (second_part (is_words s.trees at.label) _ h))

order_preserving_with_start : (f : Forest Content) (pair : Pair) (at : Point) → OrderPreserving (with_start f pair at)
order_preserving_with_start f pair at = search order_preserving

order_preserving_set_start : (at : Point) → OrderPreserving (set_start at)
unfolding set_start
order_preserving_set_start at = search (order_preserving, order_preserving_with_start)

order_preserving_start_text : (n : ℕ) → OrderPreserving (start_text n)
unfolding start_text
order_preserving_start_text n = search (order_preserving, order_preserving_set_start)

order_preserving_at_start : (at : Point) → OrderPreserving (split_at_start at)
unfolding split_at_start
order_preserving_at_start at = record { keeps = λ s is. rw final-look (by_test s is (is_amid s at) refl) }
  where
    by_test : (s : State) → IsKeeping s → (v : Bool) → is_amid s at ≡ v → KeepsOrder s (final (if v then (split_words at.label at.offset >>= start_text) else done) s)
    by_test s is true h = then_order_preserving_on (split_words at.label at.offset) start_text s is (amid_keeps s is at h) order_preserving_start_text
    by_test s is false h = (order_preserving_answer tt).keeps s is

order_preserving_at_end : (at : Point) → OrderPreserving (split_at_end at)
unfolding split_at_end
order_preserving_at_end at = record { keeps = λ s is. rw final-look (by_test s is (is_amid s at) refl) }
  where
    by_test : (s : State) → IsKeeping s → (v : Bool) → is_amid s at ≡ v → KeepsOrder s (final (if v then (split_words at.label at.offset >> done) else done) s)
    by_test s is true h = then_order_preserving (split_words at.label at.offset) done s is (amid_keeps s is at h) (order_preserving_answer tt)
    by_test s is false h = (order_preserving_answer tt).keeps s is

order_preserving_start : OrderPreserving split_start
unfolding split_start
order_preserving_start = search (order_preserving, order_preserving_at_start)

order_preserving_end : OrderPreserving split_end
unfolding split_end
order_preserving_end = search (order_preserving, order_preserving_at_end)

pub order_preserving_split_ends : OrderPreserving split_ends
unfolding split_ends
order_preserving_split_ends = search (order_preserving, order_preserving_start, order_preserving_end)

-- ---- splitting leaves the states of contenteditable

steady_with_start : (f : Forest Content) (pair : Pair) (at : Point) → Steady (with_start f pair at)
steady_with_start f pair at = search steady_parts

steady_set_start : (at : Point) → Steady (set_start at)
unfolding set_start
steady_set_start at = search (steady_parts, steady_with_start)

steady_start_text : (n : ℕ) → Steady (start_text n)
unfolding start_text
steady_start_text n = search (steady_parts, steady_set_start)

steady_at_start : (at : Point) → Steady (split_at_start at)
unfolding split_at_start
steady_at_start at = search (steady_parts, steady_start_text)

steady_at_end : (at : Point) → Steady (split_at_end at)
unfolding split_at_end
steady_at_end at = search steady_parts

steady_start : Steady split_start
unfolding split_start
steady_start = search (steady_parts, steady_at_start)

steady_end : Steady split_end
unfolding split_end
steady_end = search (steady_parts, steady_at_end)

pub steady_split_ends : Steady split_ends
unfolding split_ends
steady_split_ends = search (steady_parts, steady_start, steady_end)

fit_split_ends : Fit split_ends
fit_split_ends = fit order_preserving_split_ends steady_split_ends

-- ---- the overrides

fit_rival : (c : Command) → Fit (unset_rival c)
fit_rival command.Bold = fit_answer tt
fit_rival command.Italic = fit_answer tt
fit_rival command.Underline = fit_answer tt
fit_rival command.Strikethrough = fit_answer tt
fit_rival command.Subscript = fit_perform (Override command.Superscript Absent) tt tt
fit_rival command.Superscript = fit_perform (Override command.Subscript Absent) tt tt
fit_rival command.CreateLink = fit_answer tt
fit_rival command.Unlink = fit_answer tt
fit_rival command.FontName = fit_answer tt
fit_rival command.FontSize = fit_answer tt
fit_rival command.ForeColor = fit_answer tt
fit_rival command.BackColor = fit_answer tt
fit_rival command.HiliteColor = fit_answer tt
fit_rival command.RemoveFormat = fit_answer tt
fit_rival command.FormatBlock = fit_answer tt
fit_rival command.JustifyLeft = fit_answer tt
fit_rival command.JustifyCenter = fit_answer tt
fit_rival command.JustifyRight = fit_answer tt
fit_rival command.JustifyFull = fit_answer tt
fit_rival command.Indent = fit_answer tt
fit_rival command.Outdent = fit_answer tt
fit_rival command.Delete = fit_answer tt
fit_rival command.InsertText = fit_answer tt
fit_rival command.InsertParagraph = fit_answer tt
fit_rival command.StyleWithCss = fit_answer tt
fit_rival command.UseCss = fit_answer tt
fit_rival command.DefaultParagraphSeparator = fit_answer tt
fit_rival command.InsertOrderedList = fit_answer tt
fit_rival command.InsertUnorderedList = fit_answer tt
fit_rival command.InsertLineBreak = fit_answer tt
fit_rival command.InsertHorizontalRule = fit_answer tt
fit_rival command.InsertImage = fit_answer tt

fit_set_overrides : (c : Command) (v : Option (List ℕ)) → Fit (set_overrides c v)
unfolding set_overrides
fit_set_overrides c v = search (fits, fit_rival)

-- ---- the whole

pub fit_clear_one : (c : Command) (e : ℕ) → Fit (clear_one c e)
unfolding clear_one
fit_clear_one c e = search (fits, fit_clear_value)

fit_clear_elements : (c : Command) → Fit (clear_elements c)
unfolding clear_elements
fit_clear_elements c = search (fits, fit_clear_one)

fit_force_phrase : (c : Command) (v : Option (List ℕ)) (n : ℕ) → Fit (force_phrase c v n)
unfolding force_phrase
fit_force_phrase c v n = search (fits, fit_force)

fit_give_node : (c : Command) (v : Option (List ℕ)) (n : ℕ) → Fit (give_node c v n)
unfolding give_node
fit_give_node c v n = search (fits, fit_push_down, fit_force_phrase)

fit_give_nodes : (c : Command) (v : Option (List ℕ)) → Fit (give_nodes c v)
unfolding give_nodes
fit_give_nodes c v = search (fits, fit_give_node)

fit_give_range : (c : Command) (v : Option (List ℕ)) → Fit (give_range c v)
unfolding give_range
fit_give_range c v = search (fits, fit_split_ends, fit_clear_elements, fit_give_nodes)

pub fit_set_value : (c : Command) (v : Option (List ℕ)) → Fit (set_value c v)
unfolding set_value
fit_set_value c v = search (fits, fit_set_overrides, fit_give_range)

-- ---- each certificate by itself

pub order_preserving_set_value : (c : Command) (v : Option (List ℕ)) → OrderPreserving (set_value c v)
order_preserving_set_value c v = (fit_set_value c v).order

pub steady_set_value : (c : Command) (v : Option (List ℕ)) → Steady (set_value c v)
steady_set_value c v = (fit_set_value c v).states
