-- Entries of lists: li, dt and dd. The steps are those of docs/ALGORITHMS.md.
use Rattle.std.specs.Prelude.{ℕ, Bool, false, ◌||◌, ◌&&◌, not, [], ◌∷◌, is_none, if◌then◌else◌}
use Rattle.std.specs.Option.{option_map_or}
use Rattle.edit_model.specs.DomModel.Contents.{is_break}
use Rattle.edit_model.specs.DomModel.Forest.{next_of, first_of}
use Rattle.edit_model.specs.State.{State}
use Rattle.edit_model.specs.Compositions.{set_tag_name}
use Rattle.edit_model.specs.Run.{Run, ◌>>=◌, ◌>>◌, answer, look}
use Rattle.inline_value.specs.EditQuery.Rows.{container_name}
use Rattle.inline_value.specs.WrapSplit.Split.{split_parent}
use Rattle.inline_value.specs.Ancestors.{is_description, has_place, fix_ancestors}
use Rattle.list_indent.specs.Sublists.{is_item}
use Rattle.delete_core.specs.Merging.{fill_empty}

unfoldable pub is_entry : State → ℕ → Bool
is_entry s n = is_item s n || is_description s n

-- a dt or dd that has no place any more becomes a default single-line container
unfoldable pub is_stray : State → ℕ → Bool
is_stray s n = is_description s n && not (has_place s n)

-- insert a paragraph, step 6, and delete, step 6: it gets the default container's name
unfoldable pub rename_stray : ℕ → Run ℕ
rename_stray n =
    look λ s. if is_stray s n then set_tag_name n (container_name s.flags.paragraphs) else answer n

-- ---- insert a paragraph, step 6: an entry with nothing in it leaves its list

-- the one child of c is a br
unfoldable pub has_sole_break : State → ℕ → Bool
has_sole_break s c =
    option_map_or (λ k. is_break s.trees k && is_none (next_of s.trees k)) (first_of s.trees c)
    false

unfoldable pub is_empty_entry : State → ℕ → Bool
is_empty_entry s c = is_entry s c && (is_none (first_of s.trees c) || has_sole_break s c)

-- insert a paragraph, step 6: the entry c leaves its list
unfoldable pub leave_list : ℕ → Run (Unit {0})
leave_list c = do
  split_parent (c ∷ [])
  fill_empty c
  kept ← rename_stray c
  fix_ancestors kept
