-- Deleting the selection keeps to the grammar.
use Rattle.std.proofs.Common.{◌≡◌, ℕ, ◌+◌, Bool, true, refl, arith, List, [], ◌∷◌, slice_get, Option, Some, None, IfSome}
use Rattle.edit_model.specs.LiveRange.declared.places.Point.{Point}
use Rattle.inline_value.specs.Recording.{Recorded, restore_values}
use Rattle.edit_model.specs.Edit.{Replace}
use Rattle.std.proofs.lemmas.Bool.Decides.{nat_tests}
use Rattle.edit_model.specs.DomModel.Forest.{children_of, first_of, next_of}
use Rattle.edit_model.specs.PointOrder.PointOrder.{child_toward}
use Rattle.edit_model.specs.Run.{◌>>◌, answer, done, given}
use Rattle.inline_value.specs.ForestChanges.Named.{Each}
use Rattle.inline_value.specs.Overrides.{states_of}
use Rattle.delete_core.specs.Spaces.{is_blank}
use Rattle.delete_core.specs.Deletion.{erase_across, erase, delete_recorded, delete_selected, delete_range, delete_between, delete_selection}
use Rattle.delete_core.specs.Ends.{collapse_selection, canonicalize_start, canonicalize_end, out_of_start, out_of_end, block_of_end}
use Rattle.delete_core.specs.Erasing.{erase_within, cut_after, cut_before, fill_hollow, removed_up, strip_empty, strip_from, remove_under, remove_node, remove_nodes}
use Rattle.delete_core.specs.Merging.{line_from, line_at, drop_prop, drop_sole, part_lines, remove_own, drop_parted, drop_soles, drop_block, split_line, split_out, drop_break_before, take_out_line, take_line, merge_content, merge_inner, drop_last_break, take_following, merge_outer, drop_emptied, take_children, merge_beside, merged, join_lists_at, join_next, join_once, join_lists, fill_empty, finish, finish_if, merge, merge_both, merge_if}
use Rattle.delete_core.specs.Whitespace.{scan_blank, scan_char, scan_turn, scan_blanks, trim_char, trim_turn, trimmed, trimmed_if, starts_line, ends_line, spaces_for, put_space, next_laid, lay_char, lay_out, lay_text, lay_turn, lay_all, laid_between, canonicalize_from, canonicalize}
use Rattle.grammar_laws.specs.Proper.{IsText}
use Rattle.grammar_laws.specs.Runs.{Proper}
use Rattle.grammar_laws.proofs.Texts.{low_letter, text}
use Rattle.grammar_laws.proofs.Values.{IsRecorded, IsOverride, recorded_values, states_proper}
use Rattle.making_laws.proofs.Characters.{AreBlanks, canonical_blanks, each_get}
use Rattle.grammar_laws.proofs.ProperRuns.{Gives, gives_after, gives_answer, gives_given, gives_if, gives_look, proper_after, proper_answer, proper_bind, proper_each_last, proper_edit, proper_if, proper_look, proper_moves, proper_parts, proper_select, proper_some}
use Rattle.grammar_laws.proofs.Wraps.{proper_append_break}
use Rattle.grammar_laws.proofs.Splits.{proper_breaks_at_end, proper_split}
use Rattle.grammar_laws.proofs.PushingRuns.{proper_restore_values}

-- ---- canonicalizing whitespace

proper_scan_blank : (fix : Bool) (a : _) (c : ℕ) → Proper (scan_blank fix a c)
unfolding scan_blank
proper_scan_blank fix a c = search proper_parts

proper_scan_char : (fix : Bool) (a : _) → Proper (scan_char fix a)
unfolding scan_char
proper_scan_char fix a = search (proper_parts, proper_scan_blank)

proper_scan_turn : (fix : Bool) (a : _) → Proper (scan_turn fix a)
unfolding scan_turn
proper_scan_turn fix a = search (proper_parts, proper_scan_char)

proper_scan_blanks : (fix : Bool) (p : Point) → Proper (scan_blanks fix p)
unfolding scan_blanks
proper_scan_blanks fix p = search (proper_parts, proper_scan_turn)

proper_trim_char : (a : _) → Proper (trim_char a)
unfolding trim_char
proper_trim_char a = search proper_parts

proper_trim_turn : (a : _) → Proper (trim_turn a)
unfolding trim_turn
proper_trim_turn a = search (proper_parts, proper_trim_char)

proper_trimmed : (p : Point) (a : _) → Proper (trimmed p a)
unfolding trimmed
proper_trimmed p a = search (proper_parts, proper_trim_turn)

proper_trimmed_if : (fix : Bool) (p : Point) (a : _) → Proper (trimmed_if fix p a)
unfolding trimmed_if
proper_trimmed_if fix p a = search (proper_parts, proper_trimmed)

blank_text : (c : ℕ) → is_blank c ≡ true → IsText (c ∷ [])
blank_text c blank = text (c ∷ []) (low_letter c (grind (arith, nat_tests)), tt)

proper_put_space : (p : Point) (c space : ℕ) → is_blank space ≡ true → Proper (put_space p c space)
unfolding put_space
proper_put_space p c space blank =
    proper_if _ _ _ (proper_answer tt)
    (proper_bind _ _ (proper_edit (Replace p.label p.offset 0 (space ∷ [])) (blank_text space blank)) (λ _. proper_bind _ _ (proper_edit (Replace p.label (p.offset + 1) 1 []) refl) (λ _. proper_answer tt)))

proper_lay_out : (a : _) → Proper (lay_out a)
unfolding lay_out
proper_lay_out a = search proper_parts

module _ (spaces : List ℕ) (blanks : AreBlanks spaces) where
  proper_lay_char : (a : _) (c : ℕ) → Proper (lay_char spaces a c)
  unfolding lay_char
  proper_lay_char a c = by_space (slice_get spaces a.laid) (each_get (λ (space : ℕ). is_blank space ≡ true) spaces a.laid blanks)
    where
      by_space : (o : Option ℕ) → IfSome o (λ (space : ℕ). is_blank space ≡ true)
          → Proper (given o (answer a) λ space. put_space a.place c space >> answer (next_laid a))
      by_space None blank = proper_answer a
      by_space (Some space) blank =
          proper_bind (put_space a.place c space) (λ _. answer (next_laid a)) (proper_put_space a.place c space blank) (λ _. proper_answer (next_laid a))

  proper_lay_text : (a : _) → Proper (lay_text spaces a)
  unfolding lay_text
  proper_lay_text a = search (proper_parts, proper_lay_out, proper_lay_char)

  proper_lay_turn : (a : _) → Proper (lay_turn spaces a)
  unfolding lay_turn
  proper_lay_turn a = search (proper_parts, proper_lay_text)

  proper_lay_all : (start end : Point) → Proper (lay_all spaces start end)
  unfolding lay_all
  proper_lay_all start end = search (proper_parts, proper_lay_turn)

proper_laid_between : (p : Point) (a : _) → Proper (laid_between p a)
unfolding laid_between spaces_for
proper_laid_between p a =
    proper_look (λ s. lay_all (spaces_for s p a) p a.end)
    (λ s proper. proper_lay_all (spaces_for s p a) (canonical_blanks a.count (starts_line s.trees p) (ends_line s.trees a.end)) p a.end)

proper_canonicalize_from : (fix : Bool) (p : Point) → Proper (canonicalize_from fix p)
unfolding canonicalize_from
proper_canonicalize_from fix p = search (proper_parts, proper_scan_blanks, proper_trimmed_if, proper_laid_between)

pub proper_canonicalize : (fix : Bool) (p : Point) → Proper (canonicalize fix p)
unfolding canonicalize
proper_canonicalize fix p = search (proper_parts, proper_canonicalize_from)

-- ---- the ends of a deletion

pub proper_canonicalize_start : (fix : Bool) → Proper (canonicalize_start fix)
unfolding canonicalize_start
proper_canonicalize_start fix = search (proper_parts, proper_canonicalize)

pub proper_canonicalize_end : (fix : Bool) → Proper (canonicalize_end fix)
unfolding canonicalize_end
proper_canonicalize_end fix = search (proper_parts, proper_canonicalize)

pub proper_collapse_selection : (backward : Bool) → Proper (collapse_selection backward)
unfolding collapse_selection
proper_collapse_selection backward = search proper_parts

-- ---- what a deletion removes

proper_erase_within : (backward : Bool) (p q : Point) → Proper (erase_within backward p q)
unfolding erase_within
proper_erase_within backward p q = search (proper_parts, proper_canonicalize, proper_collapse_selection)

proper_cut_after : (p : Point) → Proper (cut_after p)
unfolding cut_after
proper_cut_after p = search proper_parts

proper_cut_before : (q : Point) → Proper (cut_before q)
unfolding cut_before
proper_cut_before q = search proper_parts

proper_fill_hollow : (p : ℕ) → Proper (fill_hollow p)
unfolding fill_hollow
proper_fill_hollow p = search (proper_parts, proper_append_break)

proper_removed_up : (o : Option ℕ) → Proper (removed_up o)
proper_removed_up None = proper_answer None
proper_removed_up (Some p) = search proper_parts

proper_strip_empty : (p : ℕ) → Proper (strip_empty p)
unfolding strip_empty
proper_strip_empty p = search (proper_parts, proper_removed_up)

proper_strip_from : (strip : Bool) (start p : ℕ) → Proper (strip_from strip start p)
unfolding strip_from
proper_strip_from strip start p = search (proper_parts, proper_strip_empty)

proper_remove_under : (strip : Bool) (start n p : ℕ) → Proper (remove_under strip start n p)
unfolding remove_under
proper_remove_under strip start n p = search (proper_parts, proper_fill_hollow, proper_strip_from)

proper_remove_node : (strip : Bool) (start n : ℕ) → Proper (remove_node strip start n)
unfolding remove_node
proper_remove_node strip start n = search (proper_parts, proper_remove_under)

proper_remove_nodes : (strip : Bool) (start : ℕ) → Proper (remove_nodes strip start)
unfolding remove_nodes
proper_remove_nodes strip start = search (proper_parts, proper_remove_node)

-- ---- merging a block with one that stands in it

-- the values that are answered, if any, are texts
abbrev AreRecorded : Option (List Recorded) → Type 0
AreRecorded o = IfSome o (Each IsRecorded)

proper_drop_prop : (b : ℕ) → Proper (drop_prop b)
unfolding drop_prop
proper_drop_prop b = search proper_parts depth 8

proper_drop_sole : (c : ℕ) → Proper (drop_sole c)
unfolding drop_sole
proper_drop_sole c = search proper_parts

proper_part_lines : (c : ℕ) → Proper (part_lines c)
unfolding part_lines
proper_part_lines c = search (proper_parts, proper_moves)

proper_remove_own : (c : ℕ) → Proper (remove_own c)
unfolding remove_own
proper_remove_own c = search proper_parts

proper_drop_parted : (c : ℕ) → Proper (drop_parted c)
unfolding drop_parted
proper_drop_parted c = search (proper_parts, proper_part_lines, proper_remove_own)

proper_drop_soles : (b c : ℕ) → Proper (drop_soles b c)
unfolding drop_soles
proper_drop_soles b c = search (proper_parts, proper_drop_sole)

proper_drop_block : (b c : ℕ) → Proper (drop_block b c)
unfolding drop_block
proper_drop_block b c = search (proper_parts, proper_drop_soles, proper_drop_parted)

proper_split_line : (list : List ℕ) (k : ℕ) → Proper (split_line list k)
unfolding split_line
proper_split_line list k = search (proper_parts, proper_split)

proper_split_out : (b : ℕ) (list : List ℕ) (k : ℕ) → Proper (split_out b list k)
unfolding split_out
proper_split_out b list k = search (proper_parts, proper_split_line)

proper_drop_break_before : (k : ℕ) → Proper (drop_break_before k)
unfolding drop_break_before
proper_drop_break_before k = search proper_parts depth 8

proper_take_out_line : (b k : ℕ) → Gives AreRecorded (take_out_line b k)
unfolding take_out_line
proper_take_out_line b k =
    gives_look AreRecorded _ (λ s p. gives_after AreRecorded _ _ (proper_split_out b (line_from s k) k) (λ _. gives_after AreRecorded _ _ (proper_drop_break_before k) (λ _. gives_answer AreRecorded _ (recorded_values s (line_from s k) p))))

proper_take_line : (b k : ℕ) → Gives AreRecorded (take_line b k)
unfolding take_line
proper_take_line b k = gives_look AreRecorded _ (λ s p. gives_if AreRecorded _ (answer None) (take_out_line b k) (gives_answer AreRecorded None tt) (proper_take_out_line b k))

proper_merge_content : (b c : ℕ) → Gives AreRecorded (merge_content b c)
unfolding merge_content
proper_merge_content b c =
    gives_look AreRecorded _ (λ s p. gives_given AreRecorded (first_of s.trees c) _ (take_line b) (gives_after AreRecorded (drop_block b c) _ (proper_drop_block b c) (λ _. gives_answer AreRecorded None tt)) (proper_take_line b))

proper_merge_inner : (b c : ℕ) → Gives AreRecorded (merge_inner b c)
unfolding merge_inner
proper_merge_inner b c =
    gives_look AreRecorded _ (λ s p. gives_given AreRecorded (child_toward s.trees b c) (answer None) _ (gives_answer AreRecorded None tt)
    (λ q. gives_after AreRecorded _ (λ _. merge_content b c) (proper_select _ _) (λ _. proper_merge_content b c)))

-- ---- merging it with one in which it stands, or with one beside it

proper_drop_last_break : (b : ℕ) (after : Option ℕ) → Proper (drop_last_break b after)
unfolding drop_last_break
proper_drop_last_break b after = search proper_parts depth 8

proper_take_following : (b q : ℕ) → Gives AreRecorded (take_following b q)
unfolding take_following
proper_take_following b q =
    gives_look AreRecorded _ (λ s p. gives_after AreRecorded _ _ (proper_each_last (line_at s (next_of s.trees q)) b) (λ _. gives_answer AreRecorded _ (recorded_values s (line_at s (next_of s.trees q)) p)))

proper_merge_outer : (b c : ℕ) → Gives AreRecorded (merge_outer b c)
unfolding merge_outer
proper_merge_outer b c =
    gives_look AreRecorded _ (λ s p. gives_given AreRecorded (child_toward s.trees c b) (answer None) _ (gives_answer AreRecorded None tt)
    (λ q. gives_after AreRecorded _ _ (proper_select _ _) (λ _. gives_after AreRecorded _ (λ _. take_following b q) (proper_drop_last_break b (next_of s.trees q)) (λ _. proper_take_following b q))))

proper_drop_emptied : (c : ℕ) → Proper (drop_emptied c)
unfolding drop_emptied
proper_drop_emptied c = search (proper_parts, proper_removed_up)

proper_take_children : (b c : ℕ) → Gives AreRecorded (take_children b c)
unfolding take_children
proper_take_children b c =
    gives_look AreRecorded _ (λ s p. gives_after AreRecorded _ _ (proper_each_last (children_of s.trees c) b) (λ _. gives_after AreRecorded _ _ (proper_drop_emptied c)
    (λ _. gives_answer AreRecorded _ (recorded_values s (children_of s.trees c) p))))

proper_merge_beside : (b c : ℕ) → Gives AreRecorded (merge_beside b c)
unfolding merge_beside
proper_merge_beside b c =
    gives_look AreRecorded _ (λ s p. gives_after AreRecorded _ _ (proper_select _ _) (λ _. gives_after AreRecorded _ (λ _. take_children b c) (proper_drop_last_break b (first_of s.trees c)) (λ _. proper_take_children b c)))

proper_merged : (b c : ℕ) → Gives AreRecorded (merged b c)
unfolding merged
proper_merged b c =
    gives_look AreRecorded _ (λ s p. gives_if AreRecorded _ (merge_inner b c) _ (proper_merge_inner b c) (gives_if AreRecorded _ (merge_outer b c) (merge_beside b c) (proper_merge_outer b c) (proper_merge_beside b c)))

-- ---- lists that are joined, and the end of a merging

proper_join_lists_at : (l n : ℕ) → Proper (join_lists_at l n)
unfolding join_lists_at
proper_join_lists_at l n = search (proper_parts, proper_moves)

proper_join_next : (l : ℕ) → Proper (join_next l)
unfolding join_next
proper_join_next l = search (proper_parts, proper_join_lists_at)

proper_join_once : (b : ℕ) → Proper (join_once b)
unfolding join_once
proper_join_once b = search (proper_parts, proper_join_next)

proper_join_lists : (b : ℕ) → Proper (join_lists b)
unfolding join_lists
proper_join_lists b = search (proper_parts, proper_join_once)

pub proper_fill_empty : (b : ℕ) → Proper (fill_empty b)
unfolding fill_empty
proper_fill_empty b = search (proper_parts, proper_append_break)

proper_finish : (b : ℕ) (values : List Recorded) → Each IsRecorded values → Proper (finish b values)
unfolding finish
proper_finish b values own =
    proper_bind (join_lists b) _ (proper_join_lists b) (λ _. proper_bind (restore_values values) _ (proper_restore_values values own) (λ _. proper_bind (fill_empty b) _ (proper_fill_empty b) (λ _. proper_breaks_at_end b)))

proper_finish_if : (b : ℕ) (values : Option (List Recorded)) → AreRecorded values → Proper (finish_if b values)
unfolding finish_if
proper_finish_if b values own = proper_some (Each IsRecorded) values done (finish b) own (proper_answer tt) (proper_finish b)

proper_merge : (b c : ℕ) → Proper (merge b c)
unfolding merge
proper_merge b c = proper_bind (drop_prop b) _ (proper_drop_prop b) (λ _. proper_after AreRecorded (merged b c) (finish_if b) (proper_merged b c) (proper_finish_if b))

proper_merge_both : (backward : Bool) (b c : ℕ) → Proper (merge_both backward b c)
unfolding merge_both
proper_merge_both backward b c = search (proper_parts, proper_merge, proper_collapse_selection)

proper_merge_if : (merging backward : Bool) (b c : Option ℕ) → Proper (merge_if merging backward b c)
unfolding merge_if
proper_merge_if merging backward b c = search (proper_parts, proper_merge_both, proper_collapse_selection)

-- ---- deleting the selection

proper_erase_across : (m : _) (p q : Point) (b c : Option ℕ) → Proper (erase_across m p q b c)
unfolding erase_across
proper_erase_across m p q b c =
    search (proper_parts, proper_cut_after, proper_remove_nodes, proper_cut_before, proper_canonicalize_start, proper_canonicalize_end, proper_merge_if) depth 9

proper_erase : (m : _) (p q : Point) (b c : Option ℕ) → Proper (erase m p q b c)
unfolding erase
proper_erase m p q b c = search (proper_parts, proper_erase_within, proper_erase_across)

proper_delete_recorded : (m : _) (p q : Point) → Gives (Each IsOverride) (delete_recorded m p q)
unfolding delete_recorded
proper_delete_recorded m p q =
    gives_look (Each IsOverride) _ (λ s h. gives_after (Each IsOverride) _ _ (proper_erase m p q (block_of_end s p.label) (block_of_end s q.label)) (λ _. gives_answer (Each IsOverride) (states_of s) (states_proper s h)))

proper_delete_selected : (m : _) (p q : Point) → Gives (Each IsOverride) (delete_selected m p q)
unfolding delete_selected
proper_delete_selected m p q = gives_after (Each IsOverride) _ (λ _. delete_recorded m p q) (proper_select _ _) (λ _. proper_delete_recorded m p q)

proper_delete_range : (m : _) (p q : Point) → Gives (Each IsOverride) (delete_range m p q)
unfolding delete_range
proper_delete_range m p q =
    gives_look (Each IsOverride) _ (λ s h. gives_if (Each IsOverride) _ (delete_selected m (out_of_start s.trees p) (out_of_end s.trees q)) _ (proper_delete_selected m (out_of_start s.trees p) (out_of_end s.trees q))
    (gives_after (Each IsOverride) _ _ (proper_collapse_selection m.backward) (λ _. gives_answer (Each IsOverride) [] tt)))

proper_delete_between : (m : _) → Gives (Each IsOverride) (delete_between m)
unfolding delete_between
proper_delete_between m =
    gives_look (Each IsOverride) _ (λ s h. gives_given (Each IsOverride) s.points.selection (answer []) _ (gives_answer (Each IsOverride) [] tt) (λ pair. proper_delete_range m _ _))

pub proper_delete_selection : (m : _) → Gives (Each IsOverride) (delete_selection m)
unfolding delete_selection
proper_delete_selection m =
    gives_after (Each IsOverride) _ _ (proper_canonicalize_start true) (λ _. gives_after (Each IsOverride) _ (λ _. delete_between m) (proper_canonicalize_end true) (λ _. proper_delete_between m))
