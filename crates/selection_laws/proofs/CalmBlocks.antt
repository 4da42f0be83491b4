-- The commands on blocks place no point by themselves.
use Rattle.block_commands.specs.FormatBlock.{format_block, format_container, format_line, format_next, format_range, leave_blocks, make_block, split_blocks}
use Rattle.block_commands.specs.Justify.{align_next, clear_alignment, clear_alignments, drop_plain, justify}
use Rattle.edit_laws.proofs.HostRuns.{Calm, calm_parts}
use Rattle.selection_laws.proofs.CalmMoves.{calm_set_tag_name}
use Rattle.selection_laws.proofs.CalmValues.{calm_fix_ancestors, calm_record_values, calm_restore_values, calm_unset_style}
use Rattle.selection_laws.proofs.CalmWraps.{calm_remove_keeping_children, calm_split_around, calm_wrap}

pub calm_leave_blocks : (n : _) → Calm (leave_blocks n)
unfolding leave_blocks
calm_leave_blocks n = search (calm_parts, calm_split_around)

pub calm_split_blocks : (list : _) → Calm (split_blocks list)
unfolding split_blocks
calm_split_blocks list = search (calm_parts, calm_leave_blocks, calm_record_values, calm_restore_values)

pub calm_make_block : (name : _) (list : _) → Calm (make_block name list)
unfolding make_block
calm_make_block name list = search (calm_parts, calm_fix_ancestors, calm_wrap)

pub calm_format_container : (name : _) (n : _) → Calm (format_container name n)
unfolding format_container
calm_format_container name n = search (calm_parts, calm_make_block, calm_record_values, calm_restore_values, calm_remove_keeping_children) depth 10

pub calm_format_line : (name : _) (list : _) → Calm (format_line name list)
unfolding format_line
calm_format_line name list = search (calm_parts, calm_make_block)

pub calm_format_next : (name : _) (list : _) → Calm (format_next name list)
unfolding format_next
calm_format_next name list = search (calm_parts, calm_format_container, calm_format_line)

pub calm_format_range : (name : _) → Calm (format_range name)
unfolding format_range
calm_format_range name = search (calm_parts, calm_format_next, calm_split_blocks) depth 12

pub calm_format_block : (value : _) → Calm (format_block value)
unfolding format_block
calm_format_block value = search (calm_parts, calm_format_range)

pub calm_drop_plain : (e : _) → Calm (drop_plain e)
unfolding drop_plain
calm_drop_plain e = search (calm_parts, calm_set_tag_name, calm_remove_keeping_children)

pub calm_clear_alignment : (e : _) → Calm (clear_alignment e)
unfolding clear_alignment
calm_clear_alignment e = search (calm_parts, calm_drop_plain, calm_unset_style)

pub calm_clear_alignments : Calm clear_alignments
unfolding clear_alignments
calm_clear_alignments = search (calm_parts, calm_clear_alignment)

pub calm_align_next : (alignment : _) (list : _) → Calm (align_next alignment list)
unfolding align_next
calm_align_next alignment list = search (calm_parts, calm_wrap)

pub calm_justify : (alignment : _) → Calm (justify alignment)
unfolding justify
calm_justify alignment = search (calm_parts, calm_align_next, calm_clear_alignments) depth 12
