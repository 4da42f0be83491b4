-- The block commands ignore marks and the cap.
use Rattle.std.proofs.Common.{ℕ, List}
use Rattle.edit_model.specs.Confined.{is_editable_for}
use Rattle.inline_value.specs.EditQuery.Gathered.{outermost}
use Rattle.block_commands.specs.FormatBlock.{leave_blocks, has_outer_block, is_outer_block, split_blocks, make_block, format_container, format_line, is_next_on_line, format_next, format_range, is_formatted, format_block}
use Rattle.block_commands.specs.Justify.{drop_plain, clear_alignment, clear_alignments, is_aligning, align_next, justify, is_misaligned}
use Rattle.block_commands.specs.Gathered.{contained}
use Rattle.independence_laws.proofs.SplitRuns.{ignores_split_around, ignores_remove_keeping_children}
use Rattle.independence_laws.proofs.PushingRuns.{ignores_record_values, ignores_restore_values}
use Rattle.independence_laws.proofs.WrapRuns.{ignores_wrap}
use Rattle.independence_laws.proofs.SelectionRuns.{ignores_fix_ancestors}
use Rattle.independence_laws.proofs.MoveRuns.{ignores_set_tag_name}
use Rattle.independence_laws.proofs.ClearingRuns.{ignores_unset_style}
use Rattle.independence_laws.specs.Ignoring.{IgnoresMarks}
use Rattle.independence_laws.proofs.IgnoringRuns.{ignoring_parts}

-- ---- formatting blocks

ignores_leave_blocks : (n : ℕ) → IgnoresMarks (leave_blocks n)
unfolding leave_blocks has_outer_block is_outer_block is_editable_for
ignores_leave_blocks n = search (ignoring_parts, ignores_split_around)

ignores_split_blocks : (list : List ℕ) → IgnoresMarks (split_blocks list)
unfolding split_blocks
ignores_split_blocks list = search (ignoring_parts, ignores_record_values, ignores_leave_blocks, ignores_restore_values)

ignores_make_block : (name list : List ℕ) → IgnoresMarks (make_block name list)
unfolding make_block
ignores_make_block name list = search (ignoring_parts, ignores_wrap, ignores_fix_ancestors)

ignores_format_container : (name : List ℕ) (n : ℕ) → IgnoresMarks (format_container name n)
unfolding format_container
ignores_format_container name n = search (ignoring_parts, ignores_record_values, ignores_remove_keeping_children, ignores_make_block, ignores_restore_values)

ignores_format_line : (name list : List ℕ) → IgnoresMarks (format_line name list)
unfolding format_line is_next_on_line
ignores_format_line name list = search (ignoring_parts, ignores_make_block)

ignores_format_next : (name list : List ℕ) → IgnoresMarks (format_next name list)
unfolding format_next
ignores_format_next name list = search (ignoring_parts, ignores_format_container, ignores_format_line)

ignores_format_range : (name : List ℕ) → IgnoresMarks (format_range name)
unfolding format_range outermost is_formatted is_editable_for
ignores_format_range name = search (ignoring_parts, ignores_split_blocks, ignores_format_next) depth 8

pub ignores_format_block : (value : List ℕ) → IgnoresMarks (format_block value)
unfolding format_block
ignores_format_block value = search (ignoring_parts, ignores_format_range)

-- ---- justifying

ignores_drop_plain : (e : ℕ) → IgnoresMarks (drop_plain e)
unfolding drop_plain
ignores_drop_plain e = search (ignoring_parts, ignores_remove_keeping_children, ignores_set_tag_name)

ignores_clear_alignment : (e : ℕ) → IgnoresMarks (clear_alignment e)
unfolding clear_alignment
ignores_clear_alignment e = search (ignoring_parts, ignores_unset_style, ignores_drop_plain)

ignores_clear_alignments : IgnoresMarks clear_alignments
unfolding clear_alignments contained is_aligning is_editable_for
ignores_clear_alignments = search (ignoring_parts, ignores_clear_alignment)

ignores_align_next : (alignment list : List ℕ) → IgnoresMarks (align_next alignment list)
unfolding align_next
ignores_align_next alignment list = search (ignoring_parts, ignores_wrap)

pub ignores_justify : (alignment : List ℕ) → IgnoresMarks (justify alignment)
unfolding justify outermost is_misaligned is_editable_for
ignores_justify alignment = search (ignoring_parts, ignores_clear_alignments, ignores_align_next) depth 8
