-- Inserting paragraphs and text leaves the selection in the host.
use Rattle.std.proofs.Common.{ℕ, Bool, true, ◌&&◌, if◌then◌else◌, List, [], ◌∷◌, Option, Some, None, IfSome}
use Rattle.std.specs.Prelude.{◌==◌}
use Rattle.std.proofs.lemmas.Bool.{and_parts}
use Rattle.edit_model.specs.DomModel.declared.Content.{Content}
use Rattle.edit_model.specs.DomModel.Contents.{has_chars_at, length_of}
use Rattle.edit_model.specs.DomModel.Forest.{Forest, last_of}
use Rattle.edit_model.specs.LiveRange.declared.places.Point.{Point}
use Rattle.inline_value.specs.NodeTests.CollapsedWhitespace.{is_words}
use Rattle.edit_model.specs.State.{State}
use Rattle.edit_model.specs.Run.{done}
use Rattle.edit_laws.specs.InHost.{IsNear, IsInHost}
use Rattle.edit_laws.proofs.HostRuns.{Stays, StaysWith, IsBelow, calm_edit, stays_parts, stays_calm, stays_answer, stays_bind, stays_look, stays_look_at, stays_if, stays_given, stays_perform, stays_from, gives_answer, gives_bind, gives_after, gives_look, gives_element, gives_words}
use Rattle.inline_value.specs.Ancestors.{is_prohibited}
use Rattle.inline_value.specs.Overrides.{overrides_of}
use Rattle.inline_value.specs.WrapSplit.Walks.{turn_bound}
use Rattle.delete_core.specs.declared.deletion.Manner.{Manner}
use Rattle.delete_core.specs.Places.{start_in, end_in, before_node, after_node}
use Rattle.text_insertion.specs.Containers.{make_container, insert_container, add_container, make_line, own_container}
use Rattle.text_insertion.specs.Halves.{if_prohibited, into_last_block, deepest_last, make_second, close_both, part_at, part_container}
use Rattle.text_insertion.specs.Paragraph.{out_of_text, collapsed_at, left_text, leave_text, split_text, break_line, part_line, part_paragraph, insert_paragraph_inside, insert_paragraph}
use Rattle.text_insertion.specs.Start.{erase}
use Rattle.text_insertion.specs.Typing.{if_words, end_before, start_after, into_text, put_at, put_char, close_text, type_char, insert_char_at, insert_char_inside, insert_char, insert_several, insert_chars, insert_text}
use Rattle.selection_laws.proofs.CalmErasing.{calm_canonicalize, calm_canonicalize_start, calm_canonicalize_end}
use Rattle.selection_laws.proofs.CalmLines.{calm_insert_at_start, calm_leave_list, calm_wrap_line, calm_fill_hidden, calm_drop_sole_break}
use Rattle.selection_laws.proofs.CalmMoves.{calm_insert_after, calm_make_break}
use Rattle.selection_laws.proofs.CalmWraps.{calm_append_break}
use Rattle.selection_laws.proofs.Points.{NearAt, node_walk_keeps, some_if, some_either, some_or, some_mapped, near_child_at, near_child_before, near_last, near_before, near_after, chars_off, words_off}
use Rattle.selection_laws.proofs.Selected.{stays_at_start, stays_inside}
use Rattle.selection_laws.proofs.StayingErasing.{stays_collapse_selection, stays_delete_selection}
use Rattle.selection_laws.proofs.StayingValues.{stays_restore_states}

module _ (outer : Forest Content) (h : ℕ) (kept : Bool) where
  pub stays_erase : (m : Manner) → Stays outer h kept (erase m)
  unfolding erase
  stays_erase m = search (stays_parts, stays_delete_selection, stays_restore_states)

  -- ---- the container of a line

  gives_make_container : StaysWith outer h kept (IsBelow outer h) make_container
  unfolding make_container
  gives_make_container =
      gives_look outer h kept (IsBelow outer h) _
      (λ s _. gives_bind outer h kept (IsBelow outer h) (IsBelow outer h) _ _ (gives_element outer h kept _ _)
      (λ c below. gives_after outer h kept (IsBelow outer h) _ _ (stays_calm outer h kept _ (calm_append_break c)) (λ _. gives_answer outer h kept (IsBelow outer h) c below)))

  stays_insert_container : Stays outer h kept insert_container
  unfolding insert_container
  stays_insert_container =
      stays_from outer h kept (IsBelow outer h) _ _ gives_make_container
      (λ c below. stays_bind outer h kept _ _ (stays_calm outer h kept _ (calm_insert_at_start c)) (λ _. stays_perform outer h kept _ (below.0, below.0)))

  stays_add_container : Stays outer h kept add_container
  unfolding add_container
  stays_add_container = search (stays_parts, stays_insert_container)

  stays_make_line : Stays outer h kept make_line
  unfolding make_line
  stays_make_line = search (stays_parts, stays_add_container, stays_calm, calm_wrap_line)

  stays_own_container : (c : ℕ) → Stays outer h kept (own_container c)
  unfolding own_container
  stays_own_container c = search (stays_parts, stays_make_line)

  -- ---- the second half

  module _ (s : State) (is : IsInHost outer h kept s) where
    block_near : (o : Option ℕ) → IfSome o (IsNear outer h) → IfSome (if_prohibited s o) (IsNear outer h)
    block_near None near = tt
    block_near (Some l) near = some_if (IsNear outer h) (is_prohibited s l) (Some l) None (λ _. near) (λ _. tt)

    step_near : (l : ℕ) → IsNear outer h l → IfSome (into_last_block s l) (IsNear outer h)
    unfolding into_last_block
    step_near l near = block_near (last_of s.trees l) (near_last outer h kept s is l near)

    deepest_near : (l : ℕ) → IsNear outer h l → IsNear outer h (deepest_last s l)
    unfolding deepest_last
    deepest_near l near = node_walk_keeps (IsNear outer h) (into_last_block s) (turn_bound s) l step_near near

    -- out of a text or a comment
    left_near : (p : Point) → IsNear outer h p.label → IsNear outer h (left_text s.trees p).label
    unfolding left_text out_of_text
    left_near p near =
        some_or (NearAt outer h kept)
        (if is_words s.trees p.label && (p.offset == length_of s.trees p.label) then after_node s.trees p.label else (if has_chars_at s.trees p.label then before_node s.trees p.label else None)) p
        (some_if (NearAt outer h kept) (is_words s.trees p.label && (p.offset == length_of s.trees p.label)) (after_node s.trees p.label)
        (if has_chars_at s.trees p.label then before_node s.trees p.label else None)
        (λ e. near_after outer h kept s is p.label near (words_off outer h kept s is p.label (and_parts (is_words s.trees p.label) (p.offset == length_of s.trees p.label) e).0))
        (λ _. some_if (NearAt outer h kept) (has_chars_at s.trees p.label) (before_node s.trees p.label) None
        (λ e. near_before outer h kept s is p.label near (chars_off outer h kept s is p.label e)) (λ _. tt)))
        near

    words_near : (o : Option ℕ) → IfSome o (IsNear outer h) → IfSome (if_words s.trees o) (IsNear outer h)
    words_near None near = tt
    words_near (Some k) near = some_if (IsNear outer h) (is_words s.trees k) (Some k) None (λ _. near) (λ _. tt)

    -- into a text beside
    into_near : (p : Point) → IsNear outer h p.label → IsNear outer h (into_text s.trees p).label
    unfolding into_text end_before start_after
    into_near p near =
        some_or (NearAt outer h kept) _ p
        (some_either (NearAt outer h kept) _ _
        (some_mapped (NearAt outer h kept) (end_in s.trees) _ (words_near _ (near_child_before outer h kept s is p.label p.offset near)))
        (some_mapped (NearAt outer h kept) start_in _ (words_near _ (near_child_at outer h kept s is p.label p.offset near))))
        near

  gives_make_second : (q : Point) (c : ℕ) → StaysWith outer h kept (IsBelow outer h) (make_second q c)
  unfolding make_second
  gives_make_second q c = gives_look outer h kept (IsBelow outer h) _ (λ s _. gives_element outer h kept _ _)

  stays_close_both : (c d : ℕ) → IsNear outer h d → Stays outer h kept (close_both c d)
  unfolding close_both
  stays_close_both c d near =
      stays_look outer h kept _
      (λ s is. stays_bind outer h kept _ _ (stays_calm outer h kept _ (calm_fill_hidden _))
      (λ _. stays_bind outer h kept _ _ (stays_calm outer h kept _ (calm_fill_hidden _))
      (λ _. stays_perform outer h kept _ (deepest_near s is d near, deepest_near s is d near))))

  stays_part_at : (q : Point) (c : ℕ) → Stays outer h kept (part_at q c)
  unfolding part_at
  stays_part_at q c =
      stays_from outer h kept (IsBelow outer h) _ _ (gives_make_second q c)
      (λ d below. stays_bind outer h kept _ _ (stays_calm outer h kept _ (calm_insert_after c d))
      (λ _. stays_bind outer h kept _ _ (stays_perform outer h kept _ tt) (λ _. stays_close_both c d below.0)))

  stays_part_container : (c : ℕ) → Stays outer h kept (part_container c)
  unfolding part_container
  stays_part_container c = search (stays_parts, stays_part_at)

  -- ---- the place where the line is parted

  gives_collapsed_at : (p : Point) → IsNear outer h p.label → StaysWith outer h kept (NearAt outer h kept) (collapsed_at p)
  gives_collapsed_at p near =
      gives_after outer h kept (NearAt outer h kept) _ _ (stays_perform outer h kept _ (near, near)) (λ _. gives_answer outer h kept (NearAt outer h kept) p near)

  gives_leave_text : (p : Point) → IsNear outer h p.label → StaysWith outer h kept (NearAt outer h kept) (leave_text p)
  unfolding leave_text
  gives_leave_text p near =
      gives_look outer h kept (NearAt outer h kept) _ (λ s is. gives_collapsed_at (left_text s.trees p) (left_near s is p near))

  gives_split_text : (p : Point) → IsNear outer h p.label → StaysWith outer h kept (NearAt outer h kept) (split_text p)
  unfolding split_text
  gives_split_text p near =
      gives_after outer h kept (NearAt outer h kept) _ _ (search stays_parts) (λ _. gives_leave_text p near)

  stays_break_line : (p : Point) (c : ℕ) → IsNear outer h p.label → Stays outer h kept (break_line p c)
  unfolding break_line
  stays_break_line p c near =
      stays_bind outer h kept _ _ (stays_calm outer h kept _ calm_make_break)
      (λ x. stays_bind outer h kept _ _ (stays_calm outer h kept _ (calm_insert_at_start x))
      (λ _. stays_bind outer h kept _ _ (stays_perform outer h kept _ (near, near))
      (λ _. search (stays_parts, stays_calm, calm_make_break, calm_insert_at_start))))

  stays_part_line : (p : Point) (c : ℕ) → IsNear outer h p.label → Stays outer h kept (part_line p c)
  unfolding part_line
  stays_part_line p c near =
      stays_look_at outer h kept _
      (λ s. stays_if outer h kept _ _ _ (stays_break_line p c near)
      (stays_if outer h kept _ _ _ (stays_calm outer h kept _ (calm_leave_list c)) (stays_part_container c)))

  stays_part_paragraph : (p : Point) → IsNear outer h p.label → Stays outer h kept (part_paragraph p)
  unfolding part_paragraph
  stays_part_paragraph p near =
      stays_look_at outer h kept _
      (λ s. stays_bind outer h kept _ _ (stays_own_container _)
      (λ c. stays_given outer h kept c done (part_line p) (stays_answer outer h kept tt) (λ x. stays_part_line p x near)))

  stays_paragraph_inside : Stays outer h kept insert_paragraph_inside
  unfolding insert_paragraph_inside
  stays_paragraph_inside =
      stays_inside outer h kept _ _ (stays_answer outer h kept tt)
      (λ s is p near. stays_from outer h kept (NearAt outer h kept) _ _ (gives_split_text p near) stays_part_paragraph)

  pub stays_insert_paragraph : Stays outer h kept insert_paragraph
  unfolding insert_paragraph
  stays_insert_paragraph = search (stays_parts, stays_erase, stays_paragraph_inside)

  -- ---- inserting text

  stays_put_at : (c : ℕ) (p : Point) → IsNear outer h p.label → Stays outer h kept (put_at c p)
  unfolding put_at
  stays_put_at c p near =
      stays_look_at outer h kept _
      (λ s. stays_if outer h kept _ _ _
      (stays_bind outer h kept _ _ (stays_calm outer h kept _ (calm_edit _)) (λ _. stays_perform outer h kept _ (near, near)))
      (stays_bind outer h kept _ _ (stays_calm outer h kept _ (calm_drop_sole_break _))
      (λ _. stays_from outer h kept (IsBelow outer h) _ _ (gives_words outer h kept _)
      (λ x below. stays_bind outer h kept _ _ (stays_calm outer h kept _ (calm_insert_at_start x))
      (λ _. stays_look_at outer h kept _ (λ t. stays_perform outer h kept _ (below.0, below.0)))))))

  stays_put_char : (c : ℕ) → Stays outer h kept (put_char c)
  unfolding put_char
  stays_put_char c = stays_at_start outer h kept _ _ (stays_answer outer h kept tt) (λ s is p near. stays_put_at c p near)

  stays_close_text : Stays outer h kept close_text
  unfolding close_text
  stays_close_text = search (stays_parts, stays_collapse_selection, stays_calm, calm_canonicalize_start, calm_canonicalize_end)

  stays_type_char : (c : ℕ) (p : Point) → IsNear outer h p.label → Stays outer h kept (type_char c p)
  unfolding type_char
  stays_type_char c p near =
      stays_look outer h kept _
      (λ s is. stays_bind outer h kept _ _ (stays_perform outer h kept _ (into_near s is p near, into_near s is p near))
      (λ _. stays_bind outer h kept _ _ (stays_calm outer h kept _ (calm_canonicalize true _))
      (λ _. stays_bind outer h kept _ _ (stays_put_char c)
      (λ _. stays_bind outer h kept _ _ (stays_restore_states outer h kept (overrides_of s)) (λ _. stays_close_text)))))

  stays_char_at : (c : ℕ) (p : Point) → IsNear outer h p.label → Stays outer h kept (insert_char_at c p)
  unfolding insert_char_at
  stays_char_at c p near =
      stays_if outer h kept _ _ _ (stays_bind outer h kept _ _ stays_insert_paragraph (λ _. stays_answer outer h kept tt)) (stays_type_char c p near)

  stays_char_inside : (c : ℕ) → Stays outer h kept (insert_char_inside c)
  unfolding insert_char_inside
  stays_char_inside c = stays_inside outer h kept _ _ (stays_answer outer h kept tt) (λ s is p near. stays_char_at c p near)

  stays_char : (c : ℕ) → Stays outer h kept (insert_char c)
  unfolding insert_char
  stays_char c = search (stays_parts, stays_erase, stays_char_inside)

  stays_several : (value : List ℕ) → Stays outer h kept (insert_several value)
  unfolding insert_several
  stays_several value = search (stays_parts, stays_char)

  stays_chars : (value : List ℕ) → Stays outer h kept (insert_chars value)
  unfolding insert_chars
  stays_chars [] = stays_answer outer h kept tt
  stays_chars (c ∷ []) = stays_char_inside c
  stays_chars (c ∷ d ∷ rest) = stays_several (c ∷ d ∷ rest)

  pub stays_insert_text : (value : List ℕ) → Stays outer h kept (insert_text value)
  unfolding insert_text
  stays_insert_text value = search (stays_parts, stays_erase, stays_chars)
