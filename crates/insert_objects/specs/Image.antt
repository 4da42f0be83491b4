-- The insertImage command (HTML Editing APIs, "the insertImage command"). The steps are those of
-- docs/ALGORITHMS.md.
use Rattle.std.specs.Prelude.{ℕ, ◌==◌, Bool, false, true, ◌&&◌, List, [], ◌∷◌, is_none, codes, if◌then◌else◌}
use Rattle.edit_model.specs.DomModel.declared.attributes.Attribute.{Attribute}
use Rattle.edit_model.specs.DomModel.Contents.{is_break}
use Rattle.edit_model.specs.DomModel.Forest.{first_of, next_of}
use Rattle.edit_model.specs.LiveRange.declared.places.Point.{Point}
use Rattle.inline_value.specs.NodeStyles.Blocks.{is_block}
use Rattle.edit_model.specs.Run.{Run, ◌>>=◌, ◌>>◌, answer, done, look, given, remove}
use Rattle.delete_core.specs.declared.deletion.TheConstants.Manner.{KEEP_WRAPPERS}
use Rattle.text_insertion.specs.Start.{erase}
use Rattle.insert_objects.specs.Putting.{from_start_inside, collapse_after, put}

-- step 3: the br that is all that a block has goes, where the point is the start of that block
unfoldable pub drop_lone_break : Point → Run (Unit {0})
drop_lone_break p = look λ s. given (first_of s.trees p.label) done λ k.
    if (p.offset == 0)
    && (is_block s.trees p.label && (is_break s.trees k && is_none (next_of s.trees k)))
    then remove k >> done else done

-- step 4: the attributes of the image
abbrev pub source : List ℕ → List Attribute
source value = record { name = codes "src"; value = value } ∷ []

-- step 4
unfoldable pub put_image : List ℕ → Run Bool
put_image value = do
  n ← put (codes "img") (source value)
  collapse_after n
  answer true

-- steps 3 and 4
unfoldable pub show_image : List ℕ → Point → Run Bool
show_image value p = drop_lone_break p >> put_image value

-- steps 2 to 4
unfoldable pub insert_source : List ℕ → Run Bool
insert_source value = erase KEEP_WRAPPERS >> from_start_inside (show_image value)

-- step 1, and then from 2 on: the empty value is refused
unfoldable pub insert_image : List ℕ → Run Bool
insert_image [] = answer false
insert_image (c ∷ v) = insert_source (c ∷ v)
