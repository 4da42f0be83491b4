-- insertParagraph with the tail extracted by single edits, where its run has one action (step 8);
-- all else is that run. Each function gives the state in which it ends then.
use Rattle.std.specs.Prelude.{ℕ, Option, if◌then◌else◌}
use Rattle.std.specs.Option.{option_map_or}
use Rattle.edit_model.specs.LiveRange.declared.places.Point.{Point}
use Rattle.edit_model.specs.State.{State}
use Rattle.edit_model.specs.Moves.{insert_after}
use Rattle.edit_model.specs.Run.{final, value}
use Rattle.delete_core.specs.declared.deletion.TheConstants.Manner.{DEFAULT}
use Rattle.text_insertion.specs.Containers.{container_of, own_container}
use Rattle.text_insertion.specs.Entries.{is_empty_entry, leave_list}
use Rattle.text_insertion.specs.Halves.{parting_point, make_second, close_both}
use Rattle.text_insertion.specs.Paragraph.{holds_lines, break_line, split_text}
use Rattle.text_insertion.specs.Start.{active_start, start_inside, erase}
use Rattle.caret_laws.specs.SingleEdits.{extracted_singly}

-- insert a paragraph, step 8: the second container is made and inserted after c
unfoldable pub second_put : Point → ℕ → State → State
second_put q c s = final (insert_after c (value (make_second q c) s)) (final (make_second q c) s)

-- insert a paragraph, steps 8 and 9
unfoldable pub parted_at : Point → ℕ → State → State
parted_at q c s =
    final (close_both c (value (make_second q c) s))
    (extracted_singly q c (value (make_second q c) s) (second_put q c s))

-- insert a paragraph, steps 7 to 9
unfoldable pub container_parted : ℕ → State → State
container_parted c s =
    option_map_or (λ p. parted_at (parting_point s p) c s) (active_start s) s

-- insert a paragraph, step 5 or 6, or from 7 on
unfoldable pub line_parted : Point → ℕ → State → State
line_parted p c s = if holds_lines s c then final (break_line p c) s
    else (if is_empty_entry s c then final (leave_list c) s else container_parted c s)

-- insert a paragraph, from step 5 on, unless step 4 ended the algorithm
unfoldable pub line_parted_if : Point → Option ℕ → State → State
line_parted_if p o s = option_map_or (λ c. line_parted p c s) o s

-- insert a paragraph, steps 3 to 9
unfoldable pub paragraph_parted : Point → State → State
paragraph_parted p s =
    line_parted_if p (value (own_container (container_of s p.label)) s)
    (final (own_container (container_of s p.label)) s)

-- insert a paragraph, steps 2 to 9, where the start's node is inside
unfoldable pub inside_parted : State → State
inside_parted s =
    option_map_or (λ p. paragraph_parted (value (split_text p) s) (final (split_text p) s))
    (start_inside s) s

-- the whole
unfoldable pub paragraph_inserted : State → State
paragraph_inserted s = inside_parted (final (erase DEFAULT) s)
