-- Canonicalizing whitespace and deleting the selection leave the states of contenteditable.
use Rattle.std.proofs.Common.{ℕ, Bool, List, Option, Some, None}
use Rattle.edit_model.specs.LiveRange.declared.places.Point.{Point}
use Rattle.edit_laws.specs.Steady.{Steady}
use Rattle.edit_laws.proofs.SteadyRuns.{steady_parts, steady_answer}
use Rattle.inline_value.specs.Recording.{Recorded}
use Rattle.delete_core.specs.Deletion.{erase_across, erase, delete_recorded, delete_selected, delete_range, delete_between, delete_selection}
use Rattle.delete_core.specs.Ends.{collapse_selection, canonicalize_start, canonicalize_end}
use Rattle.delete_core.specs.Erasing.{erase_within, cut_after, cut_before, fill_hollow, removed_up, strip_empty, strip_from, remove_under, remove_node, remove_nodes}
use Rattle.delete_core.specs.Merging.{drop_prop, drop_sole, part_lines, remove_own, drop_parted, drop_soles, drop_block, split_line, split_out, drop_break_before, take_out_line, take_line, merge_content, merge_inner, drop_last_break, take_following, merge_outer, drop_emptied, take_children, merge_beside, merged, join_lists_at, join_next, join_once, join_lists, fill_empty, finish, finish_if, merge, merge_both, merge_if}
use Rattle.delete_core.specs.Whitespace.{scan_blank, scan_char, scan_turn, scan_blanks, trim_char, trim_turn, trimmed, trimmed_if, put_space, lay_char, lay_out, lay_text, lay_turn, lay_all, laid_between, canonicalize_from, canonicalize}
use Rattle.command_laws.proofs.PushingRuns.{steady_restore_values}
use Rattle.command_laws.proofs.SteadyMoves.{steady_moves}
use Rattle.command_laws.proofs.SteadySplits.{steady_split, steady_breaks_at_end}
use Rattle.command_laws.proofs.SteadyWraps.{steady_append_break}

-- ---- canonicalizing whitespace

steady_scan_blank : (fix : Bool) (a : _) (c : ℕ) → Steady (scan_blank fix a c)
unfolding scan_blank
steady_scan_blank fix a c = search steady_parts

steady_scan_char : (fix : Bool) (a : _) → Steady (scan_char fix a)
unfolding scan_char
steady_scan_char fix a = search (steady_parts, steady_scan_blank)

steady_scan_turn : (fix : Bool) (a : _) → Steady (scan_turn fix a)
unfolding scan_turn
steady_scan_turn fix a = search (steady_parts, steady_scan_char)

steady_scan_blanks : (fix : Bool) (p : Point) → Steady (scan_blanks fix p)
unfolding scan_blanks
steady_scan_blanks fix p = search (steady_parts, steady_scan_turn)

steady_trim_char : (a : _) → Steady (trim_char a)
unfolding trim_char
steady_trim_char a = search steady_parts

steady_trim_turn : (a : _) → Steady (trim_turn a)
unfolding trim_turn
steady_trim_turn a = search (steady_parts, steady_trim_char)

steady_trimmed : (p : Point) (a : _) → Steady (trimmed p a)
unfolding trimmed
steady_trimmed p a = search (steady_parts, steady_trim_turn)

steady_trimmed_if : (fix : Bool) (p : Point) (a : _) → Steady (trimmed_if fix p a)
unfolding trimmed_if
steady_trimmed_if fix p a = search (steady_parts, steady_trimmed)

steady_put_space : (p : Point) (c space : ℕ) → Steady (put_space p c space)
unfolding put_space
steady_put_space p c space = search steady_parts

steady_lay_char : (spaces : List ℕ) (a : _) (c : ℕ) → Steady (lay_char spaces a c)
unfolding lay_char
steady_lay_char spaces a c = search (steady_parts, steady_put_space)

steady_lay_out : (a : _) → Steady (lay_out a)
unfolding lay_out
steady_lay_out a = search steady_parts

steady_lay_text : (spaces : List ℕ) (a : _) → Steady (lay_text spaces a)
unfolding lay_text
steady_lay_text spaces a = search (steady_parts, steady_lay_out, steady_lay_char)

steady_lay_turn : (spaces : List ℕ) (a : _) → Steady (lay_turn spaces a)
unfolding lay_turn
steady_lay_turn spaces a = search (steady_parts, steady_lay_text)

steady_lay_all : (spaces : List ℕ) (start end : Point) → Steady (lay_all spaces start end)
unfolding lay_all
steady_lay_all spaces start end = search (steady_parts, steady_lay_turn)

steady_laid_between : (p : Point) (a : _) → Steady (laid_between p a)
unfolding laid_between
steady_laid_between p a = search (steady_parts, steady_lay_all)

steady_canonicalize_from : (fix : Bool) (p : Point) → Steady (canonicalize_from fix p)
unfolding canonicalize_from
steady_canonicalize_from fix p = search (steady_parts, steady_scan_blanks, steady_trimmed_if, steady_laid_between)

pub steady_canonicalize : (fix : Bool) (p : Point) → Steady (canonicalize fix p)
unfolding canonicalize
steady_canonicalize fix p = search (steady_parts, steady_canonicalize_from)

-- ---- the ends of a deletion

pub steady_canonicalize_start : (fix : Bool) → Steady (canonicalize_start fix)
unfolding canonicalize_start
steady_canonicalize_start fix = search (steady_parts, steady_canonicalize)

pub steady_canonicalize_end : (fix : Bool) → Steady (canonicalize_end fix)
unfolding canonicalize_end
steady_canonicalize_end fix = search (steady_parts, steady_canonicalize)

pub steady_collapse_selection : (backward : Bool) → Steady (collapse_selection backward)
unfolding collapse_selection
steady_collapse_selection backward = search steady_parts

-- ---- what a deletion removes

steady_erase_within : (backward : Bool) (p q : Point) → Steady (erase_within backward p q)
unfolding erase_within
steady_erase_within backward p q = search (steady_parts, steady_canonicalize, steady_collapse_selection)

steady_cut_after : (p : Point) → Steady (cut_after p)
unfolding cut_after
steady_cut_after p = search steady_parts

steady_cut_before : (q : Point) → Steady (cut_before q)
unfolding cut_before
steady_cut_before q = search steady_parts

steady_fill_hollow : (p : ℕ) → Steady (fill_hollow p)
unfolding fill_hollow
steady_fill_hollow p = search (steady_parts, steady_append_break)

steady_removed_up : (o : Option ℕ) → Steady (removed_up o)
steady_removed_up None = steady_answer None
steady_removed_up (Some p) = search steady_parts

steady_strip_empty : (p : ℕ) → Steady (strip_empty p)
unfolding strip_empty
steady_strip_empty p = search (steady_parts, steady_removed_up)

steady_strip_from : (strip : Bool) (start p : ℕ) → Steady (strip_from strip start p)
unfolding strip_from
steady_strip_from strip start p = search (steady_parts, steady_strip_empty)

steady_remove_under : (strip : Bool) (start n p : ℕ) → Steady (remove_under strip start n p)
unfolding remove_under
steady_remove_under strip start n p = search (steady_parts, steady_fill_hollow, steady_strip_from)

steady_remove_node : (strip : Bool) (start n : ℕ) → Steady (remove_node strip start n)
unfolding remove_node
steady_remove_node strip start n = search (steady_parts, steady_remove_under)

steady_remove_nodes : (strip : Bool) (start : ℕ) → Steady (remove_nodes strip start)
unfolding remove_nodes
steady_remove_nodes strip start = search (steady_parts, steady_remove_node)

-- ---- merging a block with one that stands in it

steady_drop_prop : (b : ℕ) → Steady (drop_prop b)
unfolding drop_prop
steady_drop_prop b = search steady_parts depth 8

steady_drop_sole : (c : ℕ) → Steady (drop_sole c)
unfolding drop_sole
steady_drop_sole c = search steady_parts

steady_part_lines : (c : ℕ) → Steady (part_lines c)
unfolding part_lines
steady_part_lines c = search (steady_parts, steady_moves)

steady_remove_own : (c : ℕ) → Steady (remove_own c)
unfolding remove_own
steady_remove_own c = search steady_parts

steady_drop_parted : (c : ℕ) → Steady (drop_parted c)
unfolding drop_parted
steady_drop_parted c = search (steady_parts, steady_part_lines, steady_remove_own)

steady_drop_soles : (b c : ℕ) → Steady (drop_soles b c)
unfolding drop_soles
steady_drop_soles b c = search (steady_parts, steady_drop_sole)

steady_drop_block : (b c : ℕ) → Steady (drop_block b c)
unfolding drop_block
steady_drop_block b c = search (steady_parts, steady_drop_soles, steady_drop_parted)

steady_split_line : (list : List ℕ) (k : ℕ) → Steady (split_line list k)
unfolding split_line
steady_split_line list k = search (steady_parts, steady_split)

steady_split_out : (b : ℕ) (list : List ℕ) (k : ℕ) → Steady (split_out b list k)
unfolding split_out
steady_split_out b list k = search (steady_parts, steady_split_line)

steady_drop_break_before : (k : ℕ) → Steady (drop_break_before k)
unfolding drop_break_before
steady_drop_break_before k = search steady_parts depth 8

steady_take_out_line : (b k : ℕ) → Steady (take_out_line b k)
unfolding take_out_line
steady_take_out_line b k = search (steady_parts, steady_split_out, steady_drop_break_before)

steady_take_line : (b k : ℕ) → Steady (take_line b k)
unfolding take_line
steady_take_line b k = search (steady_parts, steady_take_out_line)

steady_merge_content : (b c : ℕ) → Steady (merge_content b c)
unfolding merge_content
steady_merge_content b c = search (steady_parts, steady_drop_block, steady_take_line)

steady_merge_inner : (b c : ℕ) → Steady (merge_inner b c)
unfolding merge_inner
steady_merge_inner b c = search (steady_parts, steady_merge_content)

-- ---- merging it with one in which it stands, or with one beside it

steady_drop_last_break : (b : ℕ) (after : Option ℕ) → Steady (drop_last_break b after)
unfolding drop_last_break
steady_drop_last_break b after = search steady_parts depth 8

steady_take_following : (b q : ℕ) → Steady (take_following b q)
unfolding take_following
steady_take_following b q = search (steady_parts, steady_moves)

steady_merge_outer : (b c : ℕ) → Steady (merge_outer b c)
unfolding merge_outer
steady_merge_outer b c = search (steady_parts, steady_drop_last_break, steady_take_following)

steady_drop_emptied : (c : ℕ) → Steady (drop_emptied c)
unfolding drop_emptied
steady_drop_emptied c = search (steady_parts, steady_removed_up)

steady_take_children : (b c : ℕ) → Steady (take_children b c)
unfolding take_children
steady_take_children b c = search (steady_parts, steady_moves, steady_drop_emptied)

steady_merge_beside : (b c : ℕ) → Steady (merge_beside b c)
unfolding merge_beside
steady_merge_beside b c = search (steady_parts, steady_drop_last_break, steady_take_children)

steady_merged : (b c : ℕ) → Steady (merged b c)
unfolding merged
steady_merged b c = search (steady_parts, steady_merge_inner, steady_merge_outer, steady_merge_beside)

-- ---- lists that are joined, and the end of a merging

steady_join_lists_at : (l n : ℕ) → Steady (join_lists_at l n)
unfolding join_lists_at
steady_join_lists_at l n = search (steady_parts, steady_moves)

steady_join_next : (l : ℕ) → Steady (join_next l)
unfolding join_next
steady_join_next l = search (steady_parts, steady_join_lists_at)

steady_join_once : (b : ℕ) → Steady (join_once b)
unfolding join_once
steady_join_once b = search (steady_parts, steady_join_next)

steady_join_lists : (b : ℕ) → Steady (join_lists b)
unfolding join_lists
steady_join_lists b = search (steady_parts, steady_join_once)

pub steady_fill_empty : (b : ℕ) → Steady (fill_empty b)
unfolding fill_empty
steady_fill_empty b = search (steady_parts, steady_append_break)

steady_finish : (b : ℕ) (values : List Recorded) → Steady (finish b values)
unfolding finish
steady_finish b values = search (steady_parts, steady_join_lists, steady_restore_values, steady_fill_empty, steady_breaks_at_end)

steady_finish_if : (b : ℕ) (values : Option (List Recorded)) → Steady (finish_if b values)
unfolding finish_if
steady_finish_if b values = search (steady_parts, steady_finish)

steady_merge : (b c : ℕ) → Steady (merge b c)
unfolding merge
steady_merge b c = search (steady_parts, steady_drop_prop, steady_merged, steady_finish_if)

steady_merge_both : (backward : Bool) (b c : ℕ) → Steady (merge_both backward b c)
unfolding merge_both
steady_merge_both backward b c = search (steady_parts, steady_merge, steady_collapse_selection)

steady_merge_if : (merging backward : Bool) (b c : Option ℕ) → Steady (merge_if merging backward b c)
unfolding merge_if
steady_merge_if merging backward b c = search (steady_parts, steady_merge_both, steady_collapse_selection)

-- ---- deleting the selection

steady_erase_across : (m : _) (p q : Point) (b c : Option ℕ) → Steady (erase_across m p q b c)
unfolding erase_across
steady_erase_across m p q b c =
    search (steady_parts, steady_cut_after, steady_remove_nodes, steady_cut_before, steady_canonicalize_start, steady_canonicalize_end, steady_merge_if) depth 9

steady_erase : (m : _) (p q : Point) (b c : Option ℕ) → Steady (erase m p q b c)
unfolding erase
steady_erase m p q b c = search (steady_parts, steady_erase_within, steady_erase_across)

steady_delete_recorded : (m : _) (p q : Point) → Steady (delete_recorded m p q)
unfolding delete_recorded
steady_delete_recorded m p q = search (steady_parts, steady_erase)

steady_delete_selected : (m : _) (p q : Point) → Steady (delete_selected m p q)
unfolding delete_selected
steady_delete_selected m p q = search (steady_parts, steady_delete_recorded)

steady_delete_range : (m : _) (p q : Point) → Steady (delete_range m p q)
unfolding delete_range
steady_delete_range m p q = search (steady_parts, steady_delete_selected, steady_collapse_selection)

steady_delete_between : (m : _) → Steady (delete_between m)
unfolding delete_between
steady_delete_between m = search (steady_parts, steady_delete_range)

pub steady_delete_selection : (m : _) → Steady (delete_selection m)
unfolding delete_selection
steady_delete_selection m = search (steady_parts, steady_canonicalize_start, steady_canonicalize_end, steady_delete_between)
