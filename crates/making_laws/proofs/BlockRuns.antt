-- The block commands are tame.
use Rattle.std.proofs.Common.{◌≡◌, ℕ, Bool, true, false, if◌then◌else◌, List, Option, refl, [], ◌∷◌, sym, subst, true≢false, inl, inr}
use Rattle.std.specs.Prelude.{bytes_eq}
use Rattle.std.proofs.lemmas.Bool.{or_cases}
use Rattle.std.proofs.lemmas.Slice.Eq.{bytes_eq-Decides}
use Rattle.edit_model.specs.HtmlNames.ElementNames.{formattable_block_names, is_one_of}
use Rattle.edit_model.specs.Run.{answer}
use Rattle.inline_value.specs.WrapSplit.declared.rule.Criterion.TheVariants.{Aligned}
use Rattle.inline_value.specs.WrapSplit.declared.rule.Recipe.TheVariants.{Make}
use Rattle.inline_value.specs.WrapSplit.Wrap.{wrap}
use Rattle.inline_value.specs.Wrappers.{bare}
use Rattle.block_commands.specs.FormatBlock.{block_name, leave_blocks, split_blocks, same_block, make_block, format_container, format_line, format_next, format_range, format_block}
use Rattle.block_commands.specs.Justify.{drop_plain, clear_alignment, clear_alignments, aligned_div, align_next, justify}
use Rattle.inline_value.specs.ForestChanges.Named.{Each}
use Rattle.making_laws.specs.Names.{made_names, is_made_name}
use Rattle.making_laws.specs.Tame.{Tame}
use Rattle.making_laws.proofs.TameRuns.{made_div, set_style_name, tame_answer, tame_bind, tame_if, tame_parts}
use Rattle.making_laws.proofs.AncestorRuns.{tame_fix_ancestors}
use Rattle.making_laws.proofs.Splits.{tame_keeping_children, tame_split_around}
use Rattle.making_laws.proofs.PushingRuns.{tame_record_values, tame_restore_values}
use Rattle.making_laws.proofs.StylingRuns.{tame_unset_style}
use Rattle.making_laws.proofs.Wraps.{tame_wrap}
use Rattle.edit_model.specs.HtmlNames.ElementNames as names
use Rattle.block_commands.specs.FormatBlock as blocks

-- ---- formatBlock

tame_leave : (n : ℕ) → Tame (leave_blocks n)
unfolding leave_blocks
tame_leave n = search (tame_parts, tame_split_around)

tame_split_blocks : (list : List ℕ) → Tame (split_blocks list)
unfolding split_blocks
tame_split_blocks list = search (tame_parts, tame_record_values, tame_leave, tame_restore_values) depth 9

tame_fixed : (made : Option ℕ) → Tame (blocks.fixed made)
tame_fixed made = search (tame_parts, tame_fix_ancestors)

module _ (name : List ℕ) (made : is_made_name name ≡ true) where
  tame_made : (list : List ℕ) → Tame (make_block name list)
  unfolding make_block
  tame_made list = tame_bind _ blocks.fixed (tame_wrap (same_block name) (Make (bare name)) (made, tt) list) tame_fixed

  tame_container : (n : ℕ) → Tame (format_container name n)
  unfolding format_container
  tame_container n = search (tame_parts, tame_record_values, tame_keeping_children, tame_made, tame_restore_values) depth 9

  tame_line : (list : List ℕ) → Tame (format_line name list)
  unfolding format_line
  tame_line list = search (tame_parts, tame_made)

  tame_next : (list : List ℕ) → Tame (format_next name list)
  unfolding format_next
  tame_next list = search (tame_parts, tame_container, tame_line) depth 9

  tame_to : Tame (format_range name)
  unfolding format_range
  tame_to = search (tame_parts, tame_split_blocks, tame_next) depth 10

-- a table within another one
one_of_both : (table wider : List (List ℕ)) (name : List ℕ) → Each (λ (row : List ℕ). is_one_of wider row ≡ true) table → is_one_of table name ≡ true → is_one_of wider name ≡ true
one_of_both [] wider name every h = absurd (true≢false (sym h))
one_of_both (row ∷ rows) wider name every h = elim (or_cases (bytes_eq row name) (is_one_of rows name) h) [
  | inl t ↦ subst (λ n. is_one_of wider n ≡ true) ((bytes_eq-Decides row name).0 t) every.0
  | inr t ↦ one_of_both rows wider name every.1 t
]

-- blocks have names that commands make
made_formattable : (name : List ℕ) → names.is_formattable_block name ≡ true → is_made_name name ≡ true
unfolding names.is_formattable_block formattable_block_names is_made_name made_names
made_formattable name h = one_of_both formattable_block_names made_names name every h
  where
    every : Each (λ (row : List ℕ). is_one_of made_names row ≡ true) formattable_block_names
    every = (refl, (refl, (refl, (refl, (refl, (refl, (refl, (refl, (refl, (refl, (refl, (refl, tt))))))))))))

pub tame_format_block : (v : List ℕ) → Tame (format_block v)
unfolding format_block
tame_format_block v = by_name (names.is_formattable_block (block_name v)) refl
  where
    by_name : (b : Bool) → names.is_formattable_block (block_name v) ≡ b → Tame (if b then format_range (block_name v) else answer false)
    by_name true h = tame_to (block_name v) (made_formattable (block_name v) h)
    by_name false h = tame_answer false

-- ---- justify

tame_drop_plain : (e : ℕ) → Tame (drop_plain e)
unfolding drop_plain
tame_drop_plain e = search (tame_parts, made_div, tame_keeping_children) depth 9

tame_clear : (e : ℕ) → Tame (clear_alignment e)
unfolding clear_alignment
tame_clear e = search (tame_parts, tame_unset_style, tame_drop_plain)

tame_clear_all : Tame clear_alignments
unfolding clear_alignments
tame_clear_all = search (tame_parts, tame_clear)

tame_aligned : (alignment list : List ℕ) → Tame (wrap (Aligned alignment) (Make (aligned_div alignment)) list)
tame_aligned alignment list = tame_wrap (Aligned alignment) (Make (aligned_div alignment)) (made_div, (set_style_name, tt)) list

tame_align_next : (alignment list : List ℕ) → Tame (align_next alignment list)
unfolding align_next
tame_align_next alignment list = search (tame_parts, tame_aligned)

pub tame_justify : (alignment : List ℕ) → Tame (justify alignment)
unfolding justify
tame_justify alignment = search (tame_parts, tame_clear_all, tame_align_next) depth 10
