-- How a change of the forest is told to one who keeps the document alone: as an edit of the
-- document, or not at all.
use Rattle.std.specs.Prelude.{ℕ, Bool, List, [], ◌∷◌, ◌++◌, length, reverse, Option, unwrap_or, if◌then◌else◌}
use Rattle.forest_changes.specs.DomModel.declared.Content.{Content}
use Rattle.forest_changes.specs.DomModel.Change.{Change, listed}
use Rattle.forest_changes.specs.DomModel.Change as change
use Rattle.forest_changes.specs.DomModel.Contents.{chars_of}
use Rattle.forest_changes.specs.DomModel.Forest.{Forest, tree_of}
use Rattle.point_order.specs.PointOrder.{is_in_document}
use Rattle.forest_changes.specs.UndoLog.Turning.{forth, inverses_forth}
use Rattle.forest_changes.specs.Change.{applied, inverse, spliced_at}
use Rattle.document_edits.specs.declared.edit.DocumentEdit.{DocumentEdit}
use Rattle.document_edits.specs.declared.edit.DocumentEdit.TheVariants.{Remove, Insert, Move, SetAttributes}
use Rattle.document_edits.specs.Flat.{flat}
use Rattle.document_edits.specs.Replaced.{replaced}

-- the tree of a node comes into the document
abbrev pub told_tree : Forest Content → ℕ → ℕ → Option ℕ → DocumentEdit
told_tree f n p b = Insert (flat 0 (tree_of f n)) p b

-- the tree of a node comes to another place: from within the document or from outside, and to
-- within it or to outside
abbrev pub told_move : Bool → Bool → Forest Content → ℕ → ℕ → Option ℕ → List DocumentEdit
told_move was is f n p b =
    if was then (if is then Move n p b ∷ [] else Remove n ∷ [])
    else (if is then told_tree f n p b ∷ [] else [])

-- a change of the forest as edits of the document, none or one, where the forest is that before it
unfoldable pub told : Change → Forest Content → List DocumentEdit
told (change.Remove n) f = if is_in_document f n then Remove n ∷ [] else []
told (change.Insert n p b) f = if is_in_document f p then told_tree f n p b ∷ [] else []
told (change.Move n p b) f = told_move (is_in_document f n) (is_in_document f p) f n p b
told (change.SetText n words) f =
    if is_in_document f n then listed (replaced n (unwrap_or (chars_of f n) words) words) else []
told (change.Splice n at rest taken put) f =
    if is_in_document f n then listed (replaced n (unwrap_or (chars_of f n) [])
    (spliced_at f n at (length taken) put)) else []
told (change.SetAttributes n list) f =
    if is_in_document f n then SetAttributes n list ∷ [] else []

-- changes one after another, from the first to the last, each of the forest just before it
unfoldable pub told_all : List Change → Forest Content → List DocumentEdit
told_all [] f = []
told_all (x ∷ xs) f = told x f ++ told_all xs (applied x f)

-- what takes changes back that were made one after another from this forest on, from the last of
-- them to the first
abbrev pub told_back : List Change → Forest Content → List DocumentEdit
told_back xs f =
    told_all (reverse (inverses_forth applied inverse xs f)) (forth applied xs f)
