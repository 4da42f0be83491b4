-- The block commands keep the order, and leave the states of contenteditable.
use Rattle.std.proofs.Common.{◌≡◌, ℕ, Bool, true, false, if◌then◌else◌, List, take, Option, refl}
use Rattle.std.specs.Prelude.{bytes_eq, codes, ◌||◌}
use Rattle.edit_model.specs.DomModel.Contents.{has_name}
use Rattle.edit_model.specs.DomModel.Forest.{children_of}
use Rattle.edit_model.specs.HtmlNames.ElementNames as names
use Rattle.edit_model.specs.HtmlNames.ElementNames.{formattable_block_names}
use Rattle.edit_model.specs.State.{State}
use Rattle.edit_model.specs.Compositions.{set_tag_name}
use Rattle.edit_model.specs.Kept.{is_thing}
use Rattle.edit_model.specs.Run.{final, ◌>>=◌, ◌>>◌, done, answer}
use Rattle.edit_model.proofs.Steps.{final-answer, final-bind, final-look}
use Rattle.edit_laws.specs.Order.{KeepsOrder, IsKeeping}
use Rattle.edit_laws.specs.Steady.{Steady}
use Rattle.edit_laws.specs.OrderPreserving.{OrderPreserving}
use Rattle.edit_laws.proofs.QuietActions.{keeping_final}
use Rattle.edit_laws.proofs.Renaming.{tag_name_keeps}
use Rattle.edit_laws.proofs.SteadyRuns.{steady_parts, steady_answer, steady_bind, steady_look_at}
use Rattle.edit_laws.proofs.Subsequences.{keeps_trans}
use Rattle.edit_laws.proofs.OrderPreserving.{order_preserving_answer}
use Rattle.inline_value.specs.WrapSplit.declared.rule.Criterion.TheVariants.{Never, Named, Aligned}
use Rattle.inline_value.specs.WrapSplit.declared.rule.Recipe.TheVariants.{Make}
use Rattle.inline_value.specs.WrapSplit.Split.{remove_keeping_children}
use Rattle.inline_value.specs.WrapSplit.Wrap.{wrap}
use Rattle.inline_value.specs.Recording.{record_values, restore_values}
use Rattle.inline_value.specs.Wrappers.{bare}
use Rattle.block_commands.specs.FormatBlock.{block_name, leave_blocks, split_blocks, is_next_on_line, same_block, fixed, make_block, format_container, format_line, format_next, format_range, format_block}
use Rattle.block_commands.specs.Justify.{is_plain, drop_plain, clear_alignment, clear_alignments, aligned_div, align_next, justify}
use Rattle.block_commands.specs.Series.{in_turns}
use Rattle.inline_value.specs.BlockExtend.Series.{count_series, is_next}
use Rattle.command_laws.specs.WrapLaws.{NamesNoThing}
use Rattle.command_laws.proofs.Criteria.{no_thing, named_bare}
use Rattle.command_laws.proofs.PushingRuns.{order_preserving_restore_values, steady_record_values, steady_restore_values, fit_record_values, fit_restore_values}
use Rattle.command_laws.proofs.Series.{next_is, next_on_line, series_keeps}
use Rattle.command_laws.proofs.Splitting.{then_order_preserving, then_order_preserving_on, order_preserving_unwrap}
use Rattle.command_laws.proofs.SteadySplits.{steady_keeping_children}
use Rattle.command_laws.proofs.SteadyWraps.{steady_wrap}
use Rattle.command_laws.proofs.Unwrapped.{children_stay_together}
use Rattle.command_laws.proofs.Fits.{Fit, fit, fits, fit_answer}
use Rattle.command_laws.proofs.Walks.{fit_split_around, fit_unwrap, fit_fix, fit_unset_style}
use Rattle.command_laws.proofs.Wrapping.{together_keeps}

-- ---- formatBlock, step 3

fit_leave : (n : ℕ) → Fit (leave_blocks n)
unfolding leave_blocks
fit_leave n = search (fits, fit_split_around)

fit_split_blocks : (list : List ℕ) → Fit (split_blocks list)
unfolding split_blocks
fit_split_blocks list = search (fits, fit_record_values, fit_leave, fit_restore_values) depth 8

-- ---- formatBlock, step 4

fit_fixed : (made : Option ℕ) → Fit (fixed made)
fit_fixed made = search (fits, fit_fix)

-- no block is an image or a rule
block_img : names.is_formattable_block (codes "img") ≡ false
unfolding names.is_formattable_block formattable_block_names
block_img = refl

block_hr : names.is_formattable_block (codes "hr") ≡ false
unfolding names.is_formattable_block formattable_block_names
block_hr = refl

block_no_thing : (name : List ℕ) → names.is_formattable_block name ≡ true → is_thing name ≡ false
block_no_thing name h = no_thing names.is_formattable_block block_img block_hr name h

module _ (name : List ℕ) (plain : is_thing name ≡ false) where
  same_no_thing : NamesNoThing (same_block name)
  same_no_thing = by (bytes_eq name (codes "div") || bytes_eq name (codes "p"))
    where
      by : (v : Bool) → NamesNoThing (if v then Never else Named name true)
      by true = tt
      by false = plain

  wrapped_keeps : (s : State) → IsKeeping s → (list : List ℕ) → KeepsOrder s (final (wrap (same_block name) (Make (bare name)) list) s) → KeepsOrder s (final (make_block name list) s)
  unfolding make_block
  wrapped_keeps s is list keeps = then_order_preserving_on (wrap (same_block name) (Make (bare name)) list) fixed s is keeps (λ made. (fit_fixed made).order)

  steady_made : (list : List ℕ) → Steady (make_block name list)
  unfolding make_block
  steady_made list = steady_bind _ fixed (steady_wrap (same_block name) (Make (bare name)) refl list) (λ made. (fit_fixed made).states)

  -- the children of a container that went are wrapped
  container_keeps : (n : ℕ) (s : State) → IsKeeping s → KeepsOrder s (final (format_container name n) s)
  unfolding format_container record_values
  container_keeps n s is =
      let children = children_of s.trees n in
      let t : State = final (remove_keeping_children n) s in
      let is_t = keeping_final (remove_keeping_children n) s is in
      let stay = children_stay_together n s is.valid in
      let made = wrapped_keeps t is_t children (together_keeps (same_block name) (Make (bare name)) same_no_thing plain t is_t children stay.siblings) in
      rw (final-look, final-bind, final-look, final-answer, final-bind)
      (keeps_trans ((order_preserving_unwrap n).keeps s is) (then_order_preserving (make_block name children) _ t is_t made (order_preserving_restore_values _)))

  steady_children : (n : ℕ) (children : List ℕ) → Steady (record_values children >>= λ values. remove_keeping_children n >> (make_block name children >> restore_values values))
  steady_children n children = search (steady_parts, steady_record_values, steady_keeping_children, steady_made, steady_restore_values)

  fit_container : (n : ℕ) → Fit (format_container name n)
  unfolding format_container
  fit_container n = fit (record { keeps = container_keeps n }) (steady_look_at _ (λ s. steady_children n (children_of s.trees n)))

  -- a line is wrapped
  line_keeps : (list : List ℕ) (s : State) → IsKeeping s → KeepsOrder s (final (make_block name (take (count_series (is_next_on_line s) list) list)) s)
  line_keeps list s is =
      wrapped_keeps s is (take (count_series (is_next_on_line s) list) list) (series_keeps (same_block name) (Make (bare name)) same_no_thing plain s is (is_next_on_line s) (next_on_line s) list)

  fit_line : (list : List ℕ) → Fit (format_line name list)
  unfolding format_line
  fit_line list =
      fit (record { keeps = λ s is. rw final-look (then_order_preserving _ _ s is (line_keeps list s is) (order_preserving_answer _)) })
      (steady_look_at _ (λ s. steady_bind _ _ (steady_made (take (count_series (is_next_on_line s) list) list)) (λ _. steady_answer _)))

  fit_next : (list : List ℕ) → Fit (format_next name list)
  unfolding format_next
  fit_next list = search (fits, fit_container, fit_line) depth 8

  fit_turns : (list : List ℕ) → Fit (in_turns (format_next name) list)
  fit_turns list = search (fits, fit_next)

  fit_range : Fit (format_range name)
  unfolding format_range
  fit_range = search (fits, fit_split_blocks, fit_turns)

fit_format_block : (v : List ℕ) → Fit (format_block v)
unfolding format_block
fit_format_block v = by_name (names.is_formattable_block (block_name v)) refl
  where
    by_name : (b : Bool) → names.is_formattable_block (block_name v) ≡ b → Fit (if b then format_range (block_name v) else answer false)
    by_name true h = fit_range (block_name v) (block_no_thing (block_name v) h)
    by_name false h = fit_answer false

pub order_preserving_format_block : (v : List ℕ) → OrderPreserving (format_block v)
order_preserving_format_block v = (fit_format_block v).order

pub steady_format_block : (v : List ℕ) → Steady (format_block v)
steady_format_block v = (fit_format_block v).states

-- ---- justify, step 1

named_div_keeps : (e : ℕ) (s : State) → IsKeeping s → (v : Bool) → has_name s.trees e (codes "center") ≡ v → KeepsOrder s (final (if v then set_tag_name e (codes "div") >> done else done) s)
named_div_keeps e s is true h = then_order_preserving (set_tag_name e (codes "div")) done s is (tag_name_keeps e (codes "div") s is (named_bare s e (codes "center") refl h) refl) (order_preserving_answer tt)
named_div_keeps e s is false h = (order_preserving_answer tt).keeps s is

dropped_keeps : (e : ℕ) (s : State) → IsKeeping s → (v : Bool) → KeepsOrder s (final (if v then remove_keeping_children e else (if has_name s.trees e (codes "center") then set_tag_name e (codes "div") >> done else done)) s)
dropped_keeps e s is true = (order_preserving_unwrap e).keeps s is
dropped_keeps e s is false = named_div_keeps e s is (has_name s.trees e (codes "center")) refl

fit_drop_plain : (e : ℕ) → Fit (drop_plain e)
unfolding drop_plain
fit_drop_plain e = fit (record { keeps = λ s is. rw final-look (dropped_keeps e s is (is_plain s.trees e)) }) (search (steady_parts, steady_keeping_children) depth 8)

fit_clear : (e : ℕ) → Fit (clear_alignment e)
unfolding clear_alignment
fit_clear e = search (fits, fit_unset_style, fit_drop_plain)

fit_clear_all : Fit clear_alignments
unfolding clear_alignments
fit_clear_all = search (fits, fit_clear)

-- ---- justify, step 3

fit_align : (alignment list : List ℕ) → Fit (align_next alignment list)
unfolding align_next
fit_align alignment list =
    fit (record { keeps = λ s is. rw final-look (then_order_preserving _ _ s is (align_keeps s is) (order_preserving_answer _)) })
    (steady_look_at _ (λ s. steady_bind _ _ (steady_wrap (Aligned alignment) (Make (aligned_div alignment)) refl (take (count_series (is_next s.trees) list) list)) (λ _. steady_answer _)))
  where
    align_keeps : (s : State) → IsKeeping s → KeepsOrder s (final (wrap (Aligned alignment) (Make (aligned_div alignment)) (take (count_series (is_next s.trees) list) list)) s)
    align_keeps s is = series_keeps (Aligned alignment) (Make (aligned_div alignment)) tt refl s is (is_next s.trees) (next_is s) list

fit_align_all : (alignment list : List ℕ) → Fit (in_turns (align_next alignment) list)
fit_align_all alignment list = search (fits, fit_align)

fit_justify : (alignment : List ℕ) → Fit (justify alignment)
unfolding justify
fit_justify alignment = search (fits, fit_clear_all, fit_align_all)

pub order_preserving_justify : (alignment : List ℕ) → OrderPreserving (justify alignment)
order_preserving_justify alignment = (fit_justify alignment).order

pub steady_justify : (alignment : List ℕ) → Steady (justify alignment)
steady_justify alignment = (fit_justify alignment).states
