-- Canonicalizing whitespace, and what a deletion removes and moves, place no point by themselves.
use Rattle.std.specs.Prelude.{Some, None}
use Rattle.delete_core.specs.Ends.{canonicalize_end, canonicalize_start}
use Rattle.delete_core.specs.Erasing.{cut_after, cut_before, fill_hollow, remove_node, remove_nodes, remove_under, removed_up, strip_empty, strip_from}
use Rattle.delete_core.specs.Merging.{drop_block, drop_break_before, drop_emptied, drop_last_break, drop_parted, drop_prop, drop_sole, drop_soles, fill_empty, finish, finish_if, join_lists, join_lists_at, join_next, join_once, merge_content, part_lines, remove_own, split_line, split_out, take_children, take_following, take_line, take_out_line}
use Rattle.delete_core.specs.Whitespace.{canonicalize, canonicalize_from, laid_between, lay_all, lay_char, lay_out, lay_text, lay_turn, put_space, scan_blank, scan_blanks, scan_char, scan_turn, trim_char, trim_turn, trimmed, trimmed_if}
use Rattle.edit_laws.proofs.HostRuns.{Calm, calm_parts}
use Rattle.selection_laws.proofs.CalmMoves.{calm_insert_after, calm_make_break, calm_move_each_last}
use Rattle.selection_laws.proofs.CalmValues.{calm_restore_values}
use Rattle.selection_laws.proofs.CalmWraps.{calm_append_break, calm_breaks_at_end, calm_split_parent}

pub calm_scan_blank : (fix : _) (a : _) (c : _) → Calm (scan_blank fix a c)
unfolding scan_blank
calm_scan_blank fix a c = search calm_parts

pub calm_scan_char : (fix : _) (a : _) → Calm (scan_char fix a)
unfolding scan_char
calm_scan_char fix a = search (calm_parts, calm_scan_blank)

pub calm_scan_turn : (fix : _) (a : _) → Calm (scan_turn fix a)
unfolding scan_turn
calm_scan_turn fix a = search (calm_parts, calm_scan_char)

pub calm_scan_blanks : (fix : _) (p : _) → Calm (scan_blanks fix p)
unfolding scan_blanks
calm_scan_blanks fix p = search (calm_parts, calm_scan_turn)

pub calm_trim_char : (a : _) → Calm (trim_char a)
unfolding trim_char
calm_trim_char a = search calm_parts

pub calm_trim_turn : (a : _) → Calm (trim_turn a)
unfolding trim_turn
calm_trim_turn a = search (calm_parts, calm_trim_char)

pub calm_trimmed : (p : _) (a : _) → Calm (trimmed p a)
unfolding trimmed
calm_trimmed p a = search (calm_parts, calm_trim_turn)

pub calm_trimmed_if : (fix : _) (p : _) (a : _) → Calm (trimmed_if fix p a)
unfolding trimmed_if
calm_trimmed_if fix p a = search (calm_parts, calm_trimmed)

pub calm_put_space : (p : _) (c : _) (space : _) → Calm (put_space p c space)
unfolding put_space
calm_put_space p c space = search calm_parts

pub calm_lay_char : (spaces : _) (a : _) (c : _) → Calm (lay_char spaces a c)
unfolding lay_char
calm_lay_char spaces a c = search (calm_parts, calm_put_space)

pub calm_lay_out : (a : _) → Calm (lay_out a)
unfolding lay_out
calm_lay_out a = search calm_parts

pub calm_lay_text : (spaces : _) (a : _) → Calm (lay_text spaces a)
unfolding lay_text
calm_lay_text spaces a = search (calm_parts, calm_lay_char, calm_lay_out)

pub calm_lay_turn : (spaces : _) (a : _) → Calm (lay_turn spaces a)
unfolding lay_turn
calm_lay_turn spaces a = search (calm_parts, calm_lay_text)

pub calm_lay_all : (spaces : _) (start : _) (end : _) → Calm (lay_all spaces start end)
unfolding lay_all
calm_lay_all spaces start end = search (calm_parts, calm_lay_turn)

pub calm_laid_between : (p : _) (a : _) → Calm (laid_between p a)
unfolding laid_between
calm_laid_between p a = search (calm_parts, calm_lay_all)

pub calm_canonicalize_from : (fix : _) (p : _) → Calm (canonicalize_from fix p)
unfolding canonicalize_from
calm_canonicalize_from fix p = search (calm_parts, calm_laid_between, calm_scan_blanks, calm_trimmed_if) depth 9

pub calm_canonicalize : (fix : _) (p : _) → Calm (canonicalize fix p)
unfolding canonicalize
calm_canonicalize fix p = search (calm_parts, calm_canonicalize_from)

pub calm_canonicalize_start : (fix : _) → Calm (canonicalize_start fix)
unfolding canonicalize_start
calm_canonicalize_start fix = search (calm_parts, calm_canonicalize)

pub calm_canonicalize_end : (fix : _) → Calm (canonicalize_end fix)
unfolding canonicalize_end
calm_canonicalize_end fix = search (calm_parts, calm_canonicalize)

pub calm_cut_after : (p : _) → Calm (cut_after p)
unfolding cut_after
calm_cut_after p = search calm_parts

pub calm_cut_before : (q : _) → Calm (cut_before q)
unfolding cut_before
calm_cut_before q = search calm_parts

pub calm_fill_hollow : (p : _) → Calm (fill_hollow p)
unfolding fill_hollow
calm_fill_hollow p = search (calm_parts, calm_append_break)

pub calm_removed_up : (a : _) → Calm (removed_up a)
calm_removed_up None = search calm_parts
calm_removed_up (Some p) = search calm_parts

pub calm_strip_empty : (p : _) → Calm (strip_empty p)
unfolding strip_empty
calm_strip_empty p = search (calm_parts, calm_removed_up)

pub calm_strip_from : (strip : _) (start : _) (p : _) → Calm (strip_from strip start p)
unfolding strip_from
calm_strip_from strip start p = search (calm_parts, calm_strip_empty)

pub calm_remove_under : (strip : _) (start : _) (n : _) (p : _) → Calm (remove_under strip start n p)
unfolding remove_under
calm_remove_under strip start n p = search (calm_parts, calm_fill_hollow, calm_strip_from)

pub calm_remove_node : (strip : _) (start : _) (n : _) → Calm (remove_node strip start n)
unfolding remove_node
calm_remove_node strip start n = search (calm_parts, calm_remove_under)

pub calm_remove_nodes : (strip : _) (start : _) → Calm (remove_nodes strip start)
unfolding remove_nodes
calm_remove_nodes strip start = search (calm_parts, calm_remove_node)

pub calm_drop_prop : (b : _) → Calm (drop_prop b)
unfolding drop_prop
calm_drop_prop b = search calm_parts

pub calm_drop_sole : (c : _) → Calm (drop_sole c)
unfolding drop_sole
calm_drop_sole c = search calm_parts

pub calm_part_lines : (c : _) → Calm (part_lines c)
unfolding part_lines
calm_part_lines c = search (calm_parts, calm_insert_after, calm_make_break)

pub calm_remove_own : (c : _) → Calm (remove_own c)
unfolding remove_own
calm_remove_own c = search calm_parts

pub calm_drop_parted : (c : _) → Calm (drop_parted c)
unfolding drop_parted
calm_drop_parted c = search (calm_parts, calm_part_lines, calm_remove_own)

pub calm_drop_soles : (b : _) (c : _) → Calm (drop_soles b c)
unfolding drop_soles
calm_drop_soles b c = search (calm_parts, calm_drop_sole)

pub calm_drop_block : (b : _) (c : _) → Calm (drop_block b c)
unfolding drop_block
calm_drop_block b c = search (calm_parts, calm_drop_parted, calm_drop_soles)

pub calm_split_line : (list : _) (k : _) → Calm (split_line list k)
unfolding split_line
calm_split_line list k = search (calm_parts, calm_split_parent)

pub calm_split_out : (b : _) (list : _) (k : _) → Calm (split_out b list k)
unfolding split_out
calm_split_out b list k = search (calm_parts, calm_split_line)

pub calm_drop_break_before : (k : _) → Calm (drop_break_before k)
unfolding drop_break_before
calm_drop_break_before k = search calm_parts

pub calm_take_out_line : (b : _) (k : _) → Calm (take_out_line b k)
unfolding take_out_line
calm_take_out_line b k = search (calm_parts, calm_drop_break_before, calm_split_out)

pub calm_take_line : (b : _) (k : _) → Calm (take_line b k)
unfolding take_line
calm_take_line b k = search (calm_parts, calm_take_out_line)

pub calm_merge_content : (b : _) (c : _) → Calm (merge_content b c)
unfolding merge_content
calm_merge_content b c = search (calm_parts, calm_drop_block, calm_take_line)

pub calm_drop_last_break : (b : _) (after : _) → Calm (drop_last_break b after)
unfolding drop_last_break
calm_drop_last_break b after = search calm_parts

pub calm_take_following : (b : _) (q : _) → Calm (take_following b q)
unfolding take_following
calm_take_following b q = search (calm_parts, calm_move_each_last)

pub calm_drop_emptied : (c : _) → Calm (drop_emptied c)
unfolding drop_emptied
calm_drop_emptied c = search (calm_parts, calm_removed_up)

pub calm_take_children : (b : _) (c : _) → Calm (take_children b c)
unfolding take_children
calm_take_children b c = search (calm_parts, calm_drop_emptied, calm_move_each_last)

pub calm_join_lists_at : (l : _) (n : _) → Calm (join_lists_at l n)
unfolding join_lists_at
calm_join_lists_at l n = search (calm_parts, calm_move_each_last)

pub calm_join_next : (l : _) → Calm (join_next l)
unfolding join_next
calm_join_next l = search (calm_parts, calm_join_lists_at)

pub calm_join_once : (b : _) → Calm (join_once b)
unfolding join_once
calm_join_once b = search (calm_parts, calm_join_next)

pub calm_join_lists : (b : _) → Calm (join_lists b)
unfolding join_lists
calm_join_lists b = search (calm_parts, calm_join_once)

pub calm_fill_empty : (b : _) → Calm (fill_empty b)
unfolding fill_empty
calm_fill_empty b = search (calm_parts, calm_append_break)

pub calm_finish : (b : _) (values : _) → Calm (finish b values)
unfolding finish
calm_finish b values = search (calm_parts, calm_fill_empty, calm_join_lists, calm_restore_values, calm_breaks_at_end)

pub calm_finish_if : (b : _) (values : _) → Calm (finish_if b values)
unfolding finish_if
calm_finish_if b values = search (calm_parts, calm_finish)
