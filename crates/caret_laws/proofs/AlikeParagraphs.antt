-- What inserting a paragraph does besides erasing and extracting a tail is the same whether the command keeps contents or not, where
-- nothing is taken out that is kept.
use Rattle.std.proofs.Common.{◌≡◌, ℕ, zero, suc, true, if◌then◌else◌, [], ◌∷◌, refl}
use Rattle.std.proofs.lemmas.Bool.{and_parts}
use Rattle.edit_model.specs.DomModel.Forest.{next_of}
use Rattle.edit_model.specs.LiveRange.declared.places.Point.{Point}
use Rattle.edit_model.specs.Confined.{is_inside, is_editable_for}
use Rattle.edit_model.specs.Compositions.{split_words}
use Rattle.edit_model.specs.Run.{◌>>◌, done, look}
use Rattle.edit_model.specs.State.{State}
use Rattle.inline_value.specs.NodeTests.CollapsedWhitespace.{is_words}
use Rattle.inline_value.specs.WrapSplit.Breaks.{last_below}
use Rattle.inline_value.specs.WrapSplit.Wrap.{list_on}
use Rattle.inline_value.specs.Ancestors.{is_description, has_place, is_prohibited}
use Rattle.text_insertion.specs.Start.{cuts_text, insert_at, insert_at_start, active_start}
use Rattle.text_insertion.specs.Entries.{rename_stray, is_stray, leave_list}
use Rattle.text_insertion.specs.Containers.{make_container, insert_container, add_container, takes_container, wrap_line, contents_from, make_line, first_content, is_line_content, own_container, is_own_container, if_paragraph_child, contents_after}
use Rattle.text_insertion.specs.Halves.{make_second, second_name, ends_line, name_after, is_heading_at, fill_hidden, close_both, deepest_last, into_last_block}
use Rattle.text_insertion.specs.Paragraph.{leave_text, split_text, break_line}
use Rattle.caret_laws.proofs.AlikeMoves.{alike_set_tag_name, alike_make_break}
use Rattle.caret_laws.proofs.AlikeSplits.{alike_split_parent}
use Rattle.caret_laws.proofs.AlikeAncestors.{alike_fix_ancestors}
use Rattle.caret_laws.proofs.AlikeWraps.{alike_append_break, alike_wrap}
use Rattle.caret_laws.proofs.AlikeTexts.{alike_at, alike_look_at, if_at, split_at}
use Rattle.caret_laws.proofs.SparingRuns.{alike_answer, alike_bind, alike_look, alike_parts, Alike}
use Rattle.caret_laws.proofs.BlindRuns.{kept}
use Rattle.delete_core.specs.Merging.{fill_empty}

contents_after_at : (s : State) (n z : ℕ) → contents_after (kept s) n z ≡ contents_after s n z
unfolding contents_after
contents_after_at s zero z = refl
contents_after_at s (suc n) z = λ i. list_on (if_paragraph_child s (next_of s.trees z)) [] (λ q. q ∷ contents_after_at s n q i)

contents_after_same : (s : State) → contents_after (kept s) ≡ contents_after s
contents_after_same s = λ i n z. contents_after_at s n z i

-- ---- the start of the active range

pub alike_insert_at : (x : ℕ) (p : Point) → Alike (insert_at x p)
unfolding insert_at
alike_insert_at x p = search alike_parts

pub alike_insert_at_start : (x : ℕ) → Alike (insert_at_start x)
unfolding insert_at_start active_start
alike_insert_at_start x = search (alike_parts, alike_insert_at)

-- ---- entries of lists

pub alike_fill_empty : (b : ℕ) → Alike (fill_empty b)
unfolding fill_empty
alike_fill_empty b = search (alike_parts, alike_append_break)

pub alike_rename_stray : (n : ℕ) → Alike (rename_stray n)
unfolding rename_stray is_stray is_description has_place is_inside is_editable_for
alike_rename_stray n = search (alike_parts, alike_set_tag_name)

pub alike_leave_list : (c : ℕ) → Alike (leave_list c)
unfolding leave_list
alike_leave_list c = search (alike_parts, alike_split_parent, alike_fill_empty, alike_rename_stray, alike_fix_ancestors)

-- ---- containers

pub alike_make_container : Alike make_container
unfolding make_container
alike_make_container = search (alike_parts, alike_append_break)

pub alike_insert_container : Alike insert_container
unfolding insert_container
alike_insert_container = search (alike_parts, alike_make_container, alike_insert_at_start)

pub alike_add_container : Alike add_container
unfolding add_container takes_container active_start
alike_add_container = search (alike_parts, alike_insert_container)

pub alike_wrap_line : (k : ℕ) → Alike (wrap_line k)
unfolding wrap_line contents_from
alike_wrap_line k = alike_look _ (λ s. rw (contents_after_same s)) (λ s. search (alike_parts, alike_wrap))

pub alike_make_line : Alike make_line
unfolding make_line first_content is_line_content is_editable_for
alike_make_line = search (alike_parts, alike_add_container, alike_wrap_line)

pub alike_own_container : (c : ℕ) → Alike (own_container c)
unfolding own_container is_own_container is_editable_for
alike_own_container c = search (alike_parts, alike_make_line)

-- ---- the two halves

pub alike_make_second : (q : Point) (c : ℕ) → Alike (make_second q c)
unfolding make_second second_name ends_line name_after is_heading_at
alike_make_second q c = search alike_parts

pub alike_fill_hidden : (c : ℕ) → Alike (fill_hidden c)
unfolding fill_hidden
alike_fill_hidden c = search (alike_parts, alike_append_break)

pub alike_close_both : (c d : ℕ) → Alike (close_both c d)
unfolding close_both deepest_last into_last_block is_prohibited
alike_close_both c d = search (alike_parts, alike_fill_hidden)

-- ---- the command

pub alike_leave_text : (p : Point) → Alike (leave_text p)
unfolding leave_text
alike_leave_text p = search alike_parts

pub cuts_words : (s : State) (p : Point) → cuts_text s.trees p ≡ true → is_words s.trees p.label ≡ true
unfolding cuts_text
cuts_words s p e = (and_parts (is_words s.trees p.label) _ e).0

pub alike_split_text : (p : Point) → Alike (split_text p)
unfolding split_text
alike_split_text p = alike_bind (look λ s. if cuts_text s.trees p then split_words p.label p.offset >> done else done) (λ _. leave_text p)
    (alike_look_at _ (λ s. refl) (λ s.
    if_at s (cuts_text s.trees p) _ done (λ e. split_at p.label p.offset (λ _. done) (λ _. alike_answer tt) s (cuts_words s p e)) (alike_at s done (alike_answer tt))))
    (λ _. alike_leave_text p)

pub alike_break_line : (p : Point) (c : ℕ) → Alike (break_line p c)
unfolding break_line last_below
alike_break_line p c = search (alike_parts, alike_make_break, alike_insert_at_start) depth 8
