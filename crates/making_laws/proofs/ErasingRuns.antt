-- Deleting the selection is tame.
use Rattle.std.proofs.Common.{◌≡◌, ℕ, ◌+◌, Bool, true, List, [], ◌∷◌, slice_get, Option, Some, None, IfSome}
use Rattle.edit_model.specs.LiveRange.declared.places.Point.{Point}
use Rattle.inline_value.specs.Recording.{Recorded}
use Rattle.edit_model.specs.Edit.{Replace}
use Rattle.edit_model.specs.Run.{◌>>◌, answer, given}
use Rattle.delete_core.specs.Spaces.{is_blank}
use Rattle.delete_core.specs.Deletion.{erase_across, erase, delete_recorded, delete_selected, delete_range, delete_between, delete_selection}
use Rattle.delete_core.specs.Ends.{collapse_selection, canonicalize_start, canonicalize_end}
use Rattle.delete_core.specs.Erasing.{erase_within, cut_after, cut_before, fill_hollow, removed_up, strip_empty, strip_from, remove_under, remove_node, remove_nodes}
use Rattle.delete_core.specs.Merging.{drop_prop, drop_sole, part_lines, remove_own, drop_parted, drop_soles, drop_block, split_line, split_out, drop_break_before, take_out_line, take_line, merge_content, merge_inner, drop_last_break, take_following, merge_outer, drop_emptied, take_children, merge_beside, merged, join_lists_at, join_next, join_once, join_lists, fill_empty, finish, finish_if, merge, merge_both, merge_if}
use Rattle.delete_core.specs.Whitespace.{scan_blank, scan_char, scan_turn, scan_blanks, trim_char, trim_turn, trimmed, trimmed_if, starts_line, ends_line, spaces_for, put_space, next_laid, lay_char, lay_out, lay_text, lay_turn, lay_all, laid_between, canonicalize_from, canonicalize}
use Rattle.making_laws.specs.Tame.{Tame}
use Rattle.making_laws.proofs.Characters.{AreBlanks, canonical_blanks, each_get}
use Rattle.making_laws.proofs.TameRuns.{tame_answer, tame_bind, tame_edit, tame_if, tame_look, tame_moves, tame_parts}
use Rattle.making_laws.proofs.Wraps.{tame_append_break}
use Rattle.making_laws.proofs.Splits.{tame_breaks_at_end, tame_split}
use Rattle.making_laws.proofs.PushingRuns.{tame_restore_values}

-- ---- canonicalizing whitespace

tame_scan_blank : (fix : Bool) (a : _) (c : ℕ) → Tame (scan_blank fix a c)
unfolding scan_blank
tame_scan_blank fix a c = search tame_parts

tame_scan_char : (fix : Bool) (a : _) → Tame (scan_char fix a)
unfolding scan_char
tame_scan_char fix a = search (tame_parts, tame_scan_blank)

tame_scan_turn : (fix : Bool) (a : _) → Tame (scan_turn fix a)
unfolding scan_turn
tame_scan_turn fix a = search (tame_parts, tame_scan_char)

tame_scan_blanks : (fix : Bool) (p : Point) → Tame (scan_blanks fix p)
unfolding scan_blanks
tame_scan_blanks fix p = search (tame_parts, tame_scan_turn)

tame_trim_char : (a : _) → Tame (trim_char a)
unfolding trim_char
tame_trim_char a = search tame_parts

tame_trim_turn : (a : _) → Tame (trim_turn a)
unfolding trim_turn
tame_trim_turn a = search (tame_parts, tame_trim_char)

tame_trimmed : (p : Point) (a : _) → Tame (trimmed p a)
unfolding trimmed
tame_trimmed p a = search (tame_parts, tame_trim_turn)

tame_trimmed_if : (fix : Bool) (p : Point) (a : _) → Tame (trimmed_if fix p a)
unfolding trimmed_if
tame_trimmed_if fix p a = search (tame_parts, tame_trimmed)

tame_put_space : (p : Point) (c space : ℕ) → is_blank space ≡ true → Tame (put_space p c space)
unfolding put_space
tame_put_space p c space blank =
    tame_if _ _ _ (tame_answer tt)
    (tame_bind _ _ (tame_edit (Replace p.label p.offset 0 (space ∷ [])) (blank, tt)) (λ _. tame_bind _ _ (tame_edit (Replace p.label (p.offset + 1) 1 []) tt) (λ _. tame_answer tt)))

tame_lay_out : (a : _) → Tame (lay_out a)
unfolding lay_out
tame_lay_out a = search tame_parts

module _ (spaces : List ℕ) (blanks : AreBlanks spaces) where
  tame_lay_char : (a : _) (c : ℕ) → Tame (lay_char spaces a c)
  unfolding lay_char
  tame_lay_char a c = by_space (slice_get spaces a.laid) (each_get (λ (space : ℕ). is_blank space ≡ true) spaces a.laid blanks)
    where
      by_space : (o : Option ℕ) → IfSome o (λ (space : ℕ). is_blank space ≡ true)
          → Tame (given o (answer a) λ space. put_space a.place c space >> answer (next_laid a))
      by_space None blank = tame_answer a
      by_space (Some space) blank =
          tame_bind (put_space a.place c space) (λ _. answer (next_laid a)) (tame_put_space a.place c space blank) (λ _. tame_answer (next_laid a))

  tame_lay_text : (a : _) → Tame (lay_text spaces a)
  unfolding lay_text
  tame_lay_text a = search (tame_parts, tame_lay_out, tame_lay_char)

  tame_lay_turn : (a : _) → Tame (lay_turn spaces a)
  unfolding lay_turn
  tame_lay_turn a = search (tame_parts, tame_lay_text)

  tame_lay_all : (start end : Point) → Tame (lay_all spaces start end)
  unfolding lay_all
  tame_lay_all start end = search (tame_parts, tame_lay_turn)

tame_laid_between : (p : Point) (a : _) → Tame (laid_between p a)
unfolding laid_between spaces_for
tame_laid_between p a =
    tame_look (λ s. lay_all (spaces_for s p a) p a.end)
    (λ s. tame_lay_all (spaces_for s p a) (canonical_blanks a.count (starts_line s.trees p) (ends_line s.trees a.end)) p a.end)

tame_canonicalize_from : (fix : Bool) (p : Point) → Tame (canonicalize_from fix p)
unfolding canonicalize_from
tame_canonicalize_from fix p = search (tame_parts, tame_scan_blanks, tame_trimmed_if, tame_laid_between)

pub tame_canonicalize : (fix : Bool) (p : Point) → Tame (canonicalize fix p)
unfolding canonicalize
tame_canonicalize fix p = search (tame_parts, tame_canonicalize_from)

-- ---- the ends of a deletion

pub tame_canonicalize_start : (fix : Bool) → Tame (canonicalize_start fix)
unfolding canonicalize_start
tame_canonicalize_start fix = search (tame_parts, tame_canonicalize)

pub tame_canonicalize_end : (fix : Bool) → Tame (canonicalize_end fix)
unfolding canonicalize_end
tame_canonicalize_end fix = search (tame_parts, tame_canonicalize)

pub tame_collapse_selection : (backward : Bool) → Tame (collapse_selection backward)
unfolding collapse_selection
tame_collapse_selection backward = search tame_parts

-- ---- what a deletion removes

tame_erase_within : (backward : Bool) (p q : Point) → Tame (erase_within backward p q)
unfolding erase_within
tame_erase_within backward p q = search (tame_parts, tame_canonicalize, tame_collapse_selection)

tame_cut_after : (p : Point) → Tame (cut_after p)
unfolding cut_after
tame_cut_after p = search tame_parts

tame_cut_before : (q : Point) → Tame (cut_before q)
unfolding cut_before
tame_cut_before q = search tame_parts

tame_fill_hollow : (p : ℕ) → Tame (fill_hollow p)
unfolding fill_hollow
tame_fill_hollow p = search (tame_parts, tame_append_break)

tame_removed_up : (o : Option ℕ) → Tame (removed_up o)
tame_removed_up None = tame_answer None
tame_removed_up (Some p) = search tame_parts

tame_strip_empty : (p : ℕ) → Tame (strip_empty p)
unfolding strip_empty
tame_strip_empty p = search (tame_parts, tame_removed_up)

tame_strip_from : (strip : Bool) (start p : ℕ) → Tame (strip_from strip start p)
unfolding strip_from
tame_strip_from strip start p = search (tame_parts, tame_strip_empty)

tame_remove_under : (strip : Bool) (start n p : ℕ) → Tame (remove_under strip start n p)
unfolding remove_under
tame_remove_under strip start n p = search (tame_parts, tame_fill_hollow, tame_strip_from)

tame_remove_node : (strip : Bool) (start n : ℕ) → Tame (remove_node strip start n)
unfolding remove_node
tame_remove_node strip start n = search (tame_parts, tame_remove_under)

tame_remove_nodes : (strip : Bool) (start : ℕ) → Tame (remove_nodes strip start)
unfolding remove_nodes
tame_remove_nodes strip start = search (tame_parts, tame_remove_node)

-- ---- merging a block with one that stands in it

tame_drop_prop : (b : ℕ) → Tame (drop_prop b)
unfolding drop_prop
tame_drop_prop b = search tame_parts depth 8

tame_drop_sole : (c : ℕ) → Tame (drop_sole c)
unfolding drop_sole
tame_drop_sole c = search tame_parts

tame_part_lines : (c : ℕ) → Tame (part_lines c)
unfolding part_lines
tame_part_lines c = search (tame_parts, tame_moves)

tame_remove_own : (c : ℕ) → Tame (remove_own c)
unfolding remove_own
tame_remove_own c = search tame_parts

tame_drop_parted : (c : ℕ) → Tame (drop_parted c)
unfolding drop_parted
tame_drop_parted c = search (tame_parts, tame_part_lines, tame_remove_own)

tame_drop_soles : (b c : ℕ) → Tame (drop_soles b c)
unfolding drop_soles
tame_drop_soles b c = search (tame_parts, tame_drop_sole)

tame_drop_block : (b c : ℕ) → Tame (drop_block b c)
unfolding drop_block
tame_drop_block b c = search (tame_parts, tame_drop_soles, tame_drop_parted)

tame_split_line : (list : List ℕ) (k : ℕ) → Tame (split_line list k)
unfolding split_line
tame_split_line list k = search (tame_parts, tame_split)

tame_split_out : (b : ℕ) (list : List ℕ) (k : ℕ) → Tame (split_out b list k)
unfolding split_out
tame_split_out b list k = search (tame_parts, tame_split_line)

tame_drop_break_before : (k : ℕ) → Tame (drop_break_before k)
unfolding drop_break_before
tame_drop_break_before k = search tame_parts depth 8

tame_take_out_line : (b k : ℕ) → Tame (take_out_line b k)
unfolding take_out_line
tame_take_out_line b k = search (tame_parts, tame_split_out, tame_drop_break_before)

tame_take_line : (b k : ℕ) → Tame (take_line b k)
unfolding take_line
tame_take_line b k = search (tame_parts, tame_take_out_line)

tame_merge_content : (b c : ℕ) → Tame (merge_content b c)
unfolding merge_content
tame_merge_content b c = search (tame_parts, tame_drop_block, tame_take_line)

tame_merge_inner : (b c : ℕ) → Tame (merge_inner b c)
unfolding merge_inner
tame_merge_inner b c = search (tame_parts, tame_merge_content)

-- ---- merging it with one in which it stands, or with one beside it

tame_drop_last_break : (b : ℕ) (after : Option ℕ) → Tame (drop_last_break b after)
unfolding drop_last_break
tame_drop_last_break b after = search tame_parts depth 8

tame_take_following : (b q : ℕ) → Tame (take_following b q)
unfolding take_following
tame_take_following b q = search (tame_parts, tame_moves)

tame_merge_outer : (b c : ℕ) → Tame (merge_outer b c)
unfolding merge_outer
tame_merge_outer b c = search (tame_parts, tame_drop_last_break, tame_take_following)

tame_drop_emptied : (c : ℕ) → Tame (drop_emptied c)
unfolding drop_emptied
tame_drop_emptied c = search (tame_parts, tame_removed_up)

tame_take_children : (b c : ℕ) → Tame (take_children b c)
unfolding take_children
tame_take_children b c = search (tame_parts, tame_moves, tame_drop_emptied)

tame_merge_beside : (b c : ℕ) → Tame (merge_beside b c)
unfolding merge_beside
tame_merge_beside b c = search (tame_parts, tame_drop_last_break, tame_take_children)

tame_merged : (b c : ℕ) → Tame (merged b c)
unfolding merged
tame_merged b c = search (tame_parts, tame_merge_inner, tame_merge_outer, tame_merge_beside)

-- ---- lists that are joined, and the end of a merging

tame_join_lists_at : (l n : ℕ) → Tame (join_lists_at l n)
unfolding join_lists_at
tame_join_lists_at l n = search (tame_parts, tame_moves)

tame_join_next : (l : ℕ) → Tame (join_next l)
unfolding join_next
tame_join_next l = search (tame_parts, tame_join_lists_at)

tame_join_once : (b : ℕ) → Tame (join_once b)
unfolding join_once
tame_join_once b = search (tame_parts, tame_join_next)

tame_join_lists : (b : ℕ) → Tame (join_lists b)
unfolding join_lists
tame_join_lists b = search (tame_parts, tame_join_once)

pub tame_fill_empty : (b : ℕ) → Tame (fill_empty b)
unfolding fill_empty
tame_fill_empty b = search (tame_parts, tame_append_break)

tame_finish : (b : ℕ) (values : List Recorded) → Tame (finish b values)
unfolding finish
tame_finish b values = search (tame_parts, tame_join_lists, tame_restore_values, tame_fill_empty, tame_breaks_at_end)

tame_finish_if : (b : ℕ) (values : Option (List Recorded)) → Tame (finish_if b values)
unfolding finish_if
tame_finish_if b values = search (tame_parts, tame_finish)

tame_merge : (b c : ℕ) → Tame (merge b c)
unfolding merge
tame_merge b c = search (tame_parts, tame_drop_prop, tame_merged, tame_finish_if)

tame_merge_both : (backward : Bool) (b c : ℕ) → Tame (merge_both backward b c)
unfolding merge_both
tame_merge_both backward b c = search (tame_parts, tame_merge, tame_collapse_selection)

tame_merge_if : (merging backward : Bool) (b c : Option ℕ) → Tame (merge_if merging backward b c)
unfolding merge_if
tame_merge_if merging backward b c = search (tame_parts, tame_merge_both, tame_collapse_selection)

-- ---- deleting the selection

tame_erase_across : (m : _) (p q : Point) (b c : Option ℕ) → Tame (erase_across m p q b c)
unfolding erase_across
tame_erase_across m p q b c =
    search (tame_parts, tame_cut_after, tame_remove_nodes, tame_cut_before, tame_canonicalize_start, tame_canonicalize_end, tame_merge_if) depth 9

tame_erase : (m : _) (p q : Point) (b c : Option ℕ) → Tame (erase m p q b c)
unfolding erase
tame_erase m p q b c = search (tame_parts, tame_erase_within, tame_erase_across)

tame_delete_recorded : (m : _) (p q : Point) → Tame (delete_recorded m p q)
unfolding delete_recorded
tame_delete_recorded m p q = search (tame_parts, tame_erase)

tame_delete_selected : (m : _) (p q : Point) → Tame (delete_selected m p q)
unfolding delete_selected
tame_delete_selected m p q = search (tame_parts, tame_delete_recorded)

tame_delete_range : (m : _) (p q : Point) → Tame (delete_range m p q)
unfolding delete_range
tame_delete_range m p q = search (tame_parts, tame_delete_selected, tame_collapse_selection)

tame_delete_between : (m : _) → Tame (delete_between m)
unfolding delete_between
tame_delete_between m = search (tame_parts, tame_delete_range)

pub tame_delete_selection : (m : _) → Tame (delete_selection m)
unfolding delete_selection
tame_delete_selection m = search (tame_parts, tame_canonicalize_start, tame_canonicalize_end, tame_delete_between)
