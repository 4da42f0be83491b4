-- Deleting the selection (HTML Editing APIs, "delete the selection"), whole. The steps are those of
-- docs/ALGORITHMS.md.
use Rattle.std.specs.Prelude.{ℕ, ◌==◌, true, false, ◌&&◌, List, [], Option, if◌then◌else◌}
use Rattle.edit_model.specs.DomModel.Forest.{Forest}
use Rattle.edit_model.specs.LiveRange.declared.places.Pair.{Pair}
use Rattle.edit_model.specs.LiveRange.declared.places.Point.{Point}
use Rattle.edit_model.specs.State.{State}
use Rattle.edit_model.specs.Run.{Run, ◌>>=◌, ◌>>◌, answer, look, given, select}
use Rattle.inline_value.specs.EditActions.ActiveRange.{start_of, end_of}
use Rattle.inline_value.specs.declared.overrides.Override.{Override}
use Rattle.inline_value.specs.Overrides.{states_of}
use Rattle.delete_core.specs.declared.deletion.Manner.{Manner}
use Rattle.delete_core.specs.Places.{comes_before}
use Rattle.delete_core.specs.Equivalent.{last_equivalent, first_equivalent}
use Rattle.delete_core.specs.Ends.{collapse_selection, canonicalize_start, canonicalize_end, out_of_start, out_of_end, block_of_end}
use Rattle.delete_core.specs.Erasing.{is_own_text, erase_within, cut_after, cut_before, remove_nodes}
use Rattle.delete_core.specs.Merging.{merge_if}

-- delete the selection, steps 6 to 15
unfoldable pub erase_across : Manner → Point → Point → Option ℕ → Option ℕ → Run (Unit {0})
erase_across m p q b c = do
  cut_after p
  remove_nodes m.strip_wrappers p.label
  cut_before q
  canonicalize_start false
  canonicalize_end false
  merge_if m.block_merging m.backward b c

-- step 5, or from 6 on
unfoldable pub erase : Manner → Point → Point → Option ℕ → Option ℕ → Run (Unit {0})
erase m p q b c = look λ s.
    if (p.label == q.label) && is_own_text s p.label then erase_within m.backward p q
    else erase_across m p q b c

-- steps 3 and 4, and then from 5 on
unfoldable pub delete_recorded : Manner → Point → Point → Run (List Override)
delete_recorded m p q =
    look λ s. erase m p q (block_of_end s p.label) (block_of_end s q.label) >> answer (states_of s)

-- the end of step 2, and then from 3 on
unfoldable pub delete_selected : Manner → Point → Point → Run (List Override)
delete_selected m p q = select p q >> delete_recorded m p q

-- the end of step 1, and then from 2 on, which begins with going out of texts
unfoldable pub delete_range : Manner → Point → Point → Run (List Override)
delete_range m p q = look λ s.
    if comes_before s.trees p q then
    delete_selected m (out_of_start s.trees p) (out_of_end s.trees q)
    else (collapse_selection m.backward >> answer [])

-- delete the selection, step 1: the equivalent points of the ends, and then from there on
unfoldable pub delete_between : Manner → Run (List Override)
delete_between m = look λ s. given s.points.selection (answer []) λ pair.
    delete_range m (last_equivalent s.trees (start_of s.trees pair))
    (first_equivalent s.trees (end_of s.trees pair))

-- delete the selection, steps 1 to 15
unfoldable pub delete_selection : Manner → Run (List Override)
delete_selection m = do
  canonicalize_start true
  canonicalize_end true
  delete_between m
