-- What a contract sees of the points that are kept: the selection, the scratch pair, the marks in
-- order, each with its name, and the names that were ever given to a mark.
use Rattle.std.specs.Prelude.{◌≡◌, ℕ, ◌≤◌, Bool, IsTrue, zero, suc, List, [], ◌∷◌, ◌++◌, length, map, Option, Some, None, IfSome, nat_eq}
use Rattle.std.specs.List.{list_any, flat_map, count_by, All, IsDistinct}
use Rattle.std.specs.Option.{option_map}
use Rattle.std.specs.Map.{keys_of, remove_entry}
use Rattle.std.specs.Str.{bytes_eq}
use Rattle.indexmap.specs.IndexMap.{insert_entry}
use Rattle.indexmap.specs.IndexSet.{insert_key, insert_all}
use Rattle.live_range.specs.declared.places.Pair.{Pair}
use Rattle.live_range.specs.PointsEdit.{PointsEdit, adjusted_pair, has_label, PairFits}

pub record LivePoints : Type 0 where
  pub selection : Option Pair
  pub scratch : Option Pair
  pub marks : List (List ℕ × Pair)
  pub names : List (List ℕ)

-- no selection, no marks, no names
abbrev pub no_points : LivePoints
no_points = record { selection = None; scratch = None; marks = []; names = [] }

-- a mark with its points changed
abbrev pub at_pair : (Pair → Pair) → List ℕ × Pair → List ℕ × Pair
at_pair f m = (m.0, f m.1)

-- every kept point, changed by the edit
abbrev pub mapped : PointsEdit → LivePoints → LivePoints
mapped e s = record s {
  selection = option_map (adjusted_pair e) s.selection;
  scratch = option_map (adjusted_pair e) s.scratch;
  marks = map (at_pair (adjusted_pair e)) s.marks;
}

-- no kept point passes the greatest offset by the edit
pub record Fits (e : PointsEdit) (s : LivePoints) : Type 0 where
  pub selection : IfSome s.selection (PairFits e)
  pub scratch : IfSome s.scratch (PairFits e)
  pub marks : All (λ m. PairFits e m.1) s.marks

-- the labels of the nodes at which the kept points stand, in the order of the points
abbrev pub pair_labels : Pair → List ℕ
pair_labels p = p.anchor.label ∷ p.focus.label ∷ []

abbrev pub option_labels : Option Pair → List ℕ
option_labels None = []
option_labels (Some p) = pair_labels p

abbrev pub labels_of : LivePoints → List ℕ
labels_of s = (option_labels s.selection ++ option_labels s.scratch)
    ++ flat_map (λ m. pair_labels m.1) s.marks

-- how many points stand at one of the nodes
abbrev pub points_at : List ℕ → LivePoints → ℕ
points_at nodes s = count_by (has_label nodes) (labels_of s)

-- the labels, each once
abbrev pub standing : LivePoints → List ℕ
standing s = insert_all nat_eq [] (labels_of s)

-- of each label at which a point stands, the one list tells what the other does
abbrev pub TellsAlike : LivePoints → List ℕ → List ℕ → Type 0
TellsAlike s xs ys = (l : ℕ) → IsTrue (has_label (labels_of s) l) → has_label xs l ≡ has_label ys l

-- the marks with the pair of the one at a place changed
abbrev pub with_value_at : List (List ℕ × Pair) → ℕ → Pair → List (List ℕ × Pair)
with_value_at [] k pair = []
with_value_at (m ∷ ms) zero pair = (m.0, pair) ∷ ms
with_value_at (m ∷ ms) (suc k) pair = m ∷ with_value_at ms k pair

-- the points with a mark set: one of that name keeps its place, and a new one goes last
abbrev pub with_mark : List ℕ → Pair → LivePoints → LivePoints
with_mark name pair s = record s {
  marks = insert_entry bytes_eq s.marks name pair;
  names = insert_key bytes_eq s.names name;
}

-- the points without the mark of that name
abbrev pub without_mark : List ℕ → LivePoints → LivePoints
without_mark name s = record s { marks = remove_entry (bytes_eq name) s.marks }

-- whether a mark has the name
abbrev pub has_mark : List ℕ → LivePoints → Bool
has_mark name s = list_any (λ m. bytes_eq name m.0) s.marks

-- what holds of all kept points
pub record IsValid (s : LivePoints) : Type 0 where
  pub few_marks : length s.marks ≤ 16
  pub distinct_marks : IsDistinct bytes_eq (keys_of s.marks)
  pub distinct_names : IsDistinct bytes_eq s.names
  pub marks_are_named : All (λ m. IsTrue (list_any (bytes_eq m.0) s.names)) s.marks
