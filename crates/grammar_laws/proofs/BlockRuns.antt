-- The block commands keep to the grammar.
use Rattle.std.proofs.Common.{◌≡◌, ℕ, Bool, true, false, if◌then◌else◌, List, Option, refl, [], ◌∷◌, sym, subst, true≢false, inl, inr}
use Rattle.std.specs.Prelude.{bytes_eq, codes, ◌++◌}
use Rattle.std.proofs.lemmas.Bool.{or_cases}
use Rattle.std.proofs.lemmas.Slice.Eq.{bytes_eq-Decides}
use Rattle.edit_model.specs.HtmlNames.ElementNames.{formattable_block_names, is_one_of}
use Rattle.edit_model.specs.Run.{answer}
use Rattle.inline_value.specs.WrapSplit.declared.rule.Criterion.TheVariants.{Aligned}
use Rattle.inline_value.specs.WrapSplit.declared.rule.Recipe.TheVariants.{Make}
use Rattle.inline_value.specs.WrapSplit.Wrap.{wrap}
use Rattle.inline_value.specs.Wrappers.{bare}
use Rattle.block_commands.specs.FormatBlock.{block_name, leave_blocks, split_blocks, same_block, make_block, format_container, format_line, format_next, format_range, format_block}
use Rattle.block_commands.specs.Justify.{drop_plain, clear_alignment, clear_alignments, aligned_div, align_next, justify}
use Rattle.inline_value.specs.ForestChanges.Named.{Each}
use Rattle.making_laws.specs.Names.{made_names, is_made_name}
use Rattle.grammar_laws.specs.Proper.{IsText}
use Rattle.grammar_laws.specs.Runs.{Proper}
use Rattle.grammar_laws.proofs.Lists.{list_none, list_one}
use Rattle.grammar_laws.proofs.Texts.{text_append}
use Rattle.making_laws.proofs.TameRuns.{made_div, set_style_name}
use Rattle.grammar_laws.proofs.ProperRuns.{proper_answer, proper_bind, proper_parts}
use Rattle.grammar_laws.proofs.AncestorRuns.{proper_fix_ancestors}
use Rattle.grammar_laws.proofs.Splits.{proper_keeping_children, proper_split_around}
use Rattle.grammar_laws.proofs.PushingRuns.{proper_recorded, proper_restore_values}
use Rattle.grammar_laws.proofs.StylingRuns.{proper_unset_style}
use Rattle.grammar_laws.proofs.Wraps.{proper_wrap}
use Rattle.edit_model.specs.HtmlNames.ElementNames as names
use Rattle.block_commands.specs.FormatBlock as blocks

-- ---- formatBlock

proper_leave : (n : ℕ) → Proper (leave_blocks n)
unfolding leave_blocks
proper_leave n = search (proper_parts, proper_split_around)

proper_split_blocks : (list : List ℕ) → Proper (split_blocks list)
unfolding split_blocks
proper_split_blocks list = search (proper_recorded, proper_parts, proper_leave, proper_restore_values) depth 9

proper_fixed : (made : Option ℕ) → Proper (blocks.fixed made)
proper_fixed made = search (proper_parts, proper_fix_ancestors)

module _ (name : List ℕ) (made : is_made_name name ≡ true) where
  proper_made : (list : List ℕ) → Proper (make_block name list)
  unfolding make_block
  proper_made list = proper_bind _ blocks.fixed (proper_wrap (same_block name) (Make (bare name)) (made, list_none) list) proper_fixed

  proper_container : (n : ℕ) → Proper (format_container name n)
  unfolding format_container
  proper_container n = search (proper_recorded, proper_parts, proper_keeping_children, proper_made, proper_restore_values) depth 9

  proper_line : (list : List ℕ) → Proper (format_line name list)
  unfolding format_line
  proper_line list = search (proper_parts, proper_made)

  proper_next : (list : List ℕ) → Proper (format_next name list)
  unfolding format_next
  proper_next list = search (proper_parts, proper_container, proper_line) depth 9

  proper_to : Proper (format_range name)
  unfolding format_range
  proper_to = search (proper_parts, proper_split_blocks, proper_next) depth 10

-- a table within another one
one_of_both : (table wider : List (List ℕ)) (name : List ℕ) → Each (λ (row : List ℕ). is_one_of wider row ≡ true) table → is_one_of table name ≡ true → is_one_of wider name ≡ true
one_of_both [] wider name every h = absurd (true≢false (sym h))
one_of_both (row ∷ rows) wider name every h = elim (or_cases (bytes_eq row name) (is_one_of rows name) h) [
  | inl t ↦ subst (λ n. is_one_of wider n ≡ true) ((bytes_eq-Decides row name).0 t) every.0
  | inr t ↦ one_of_both rows wider name every.1 t
]

-- blocks have names that commands make
made_formattable : (name : List ℕ) → names.is_formattable_block name ≡ true → is_made_name name ≡ true
unfolding names.is_formattable_block formattable_block_names is_made_name made_names
made_formattable name h = one_of_both formattable_block_names made_names name every h
  where
    every : Each (λ (row : List ℕ). is_one_of made_names row ≡ true) formattable_block_names
    every = (refl, (refl, (refl, (refl, (refl, (refl, (refl, (refl, (refl, (refl, (refl, (refl, tt))))))))))))

pub proper_format_block : (v : List ℕ) → Proper (format_block v)
unfolding format_block
proper_format_block v = by_name (names.is_formattable_block (block_name v)) refl
  where
    by_name : (b : Bool) → names.is_formattable_block (block_name v) ≡ b → Proper (if b then format_range (block_name v) else answer false)
    by_name true h = proper_to (block_name v) (made_formattable (block_name v) h)
    by_name false h = proper_answer false

-- ---- justify

proper_drop_plain : (e : ℕ) → Proper (drop_plain e)
unfolding drop_plain
proper_drop_plain e = search (proper_parts, made_div, proper_keeping_children) depth 9

proper_clear : (e : ℕ) → Proper (clear_alignment e)
unfolding clear_alignment
proper_clear e = search (proper_parts, proper_unset_style, proper_drop_plain)

proper_clear_all : Proper clear_alignments
unfolding clear_alignments
proper_clear_all = search (proper_parts, proper_clear)

aligned_text : (alignment : List ℕ) → IsText alignment → IsText (codes "text-align: " ++ (alignment ++ codes ";"))
aligned_text alignment own = text_append (codes "text-align: ") (alignment ++ codes ";") refl (text_append alignment (codes ";") own refl)

proper_aligned : (alignment list : List ℕ) → IsText alignment → Proper (wrap (Aligned alignment) (Make (aligned_div alignment)) list)
proper_aligned alignment list own = proper_wrap (Aligned alignment) (Make (aligned_div alignment)) (made_div, list_one (codes "style") (codes "text-align: " ++ (alignment ++ codes ";")) set_style_name (aligned_text alignment own)) list

proper_align_next : (alignment list : List ℕ) → IsText alignment → Proper (align_next alignment list)
unfolding align_next
proper_align_next alignment list own = search (proper_parts, proper_aligned)

pub proper_justify : (alignment : List ℕ) → IsText alignment → Proper (justify alignment)
unfolding justify
proper_justify alignment own = search (proper_parts, proper_clear_all, proper_align_next) depth 10
