-- Marks whose names are told by positions in a list of names.
use Rattle.std.specs.Prelude.{◌≡◌, ℕ, ◌<◌, ◌≤◌, zero, suc, List, [], ◌∷◌, ◌++◌, length, map, take, position, slice_index_or, nat_eq, IfSome}
use Rattle.std.specs.List.{All, IsDistinct, flat_map}
use Rattle.std.specs.Cmp.Lexicographic.{slice_cmp}
use Rattle.std.specs.Map.{lookup}
use Rattle.std.specs.Ordering.{is_eq, nat_cmp}
use Rattle.std.specs.Str.{bytes_eq}
use Rattle.std.specs.declared.vec.Vec.{Vec}
use Rattle.live_range.specs.declared.places.Pair.{Pair}
use Rattle.live_range.specs.declared.places.MarkPlace.{MarkPlace}
use Rattle.live_range.specs.declared.places.Places.{Places}
use Rattle.live_range.specs.PointsEdit.{PointsEdit, PairFits}
use Rattle.live_range.specs.LivePoints.{LivePoints, option_labels, pair_labels}

-- the mark with its name
abbrev pub named : List (List ℕ) → MarkPlace → List ℕ × Pair
named names m = (slice_index_or names m.name [], m.pair)

-- the marks that are in use
abbrev pub marks_of : Places → List MarkPlace
marks_of p = take p.count p.marks

-- a mark with its points changed
abbrev pub at_place : (Pair → Pair) → MarkPlace → MarkPlace
at_place f m = record { name = m.name; pair = f m.pair }

-- the marks with the pair of the one at k changed
abbrev pub with_pair : List MarkPlace → ℕ → Pair → List MarkPlace
with_pair [] k pair = []
with_pair (m ∷ ms) zero pair = record { name = m.name; pair = pair } ∷ ms
with_pair (m ∷ ms) (suc k) pair = m ∷ with_pair ms k pair

-- the labels at the places, in the order of the points
abbrev pub place_labels : Places → List ℕ
place_labels p = (option_labels p.selection ++ option_labels p.scratch)
    ++ flat_map (λ m. pair_labels m.pair) (marks_of p)

-- the points at the places, with the names
abbrev pub shown : List (List ℕ) → Places → LivePoints
shown names p = record {
  selection = p.selection;
  scratch = p.scratch;
  marks = map (named names) (marks_of p);
  names = names;
}

-- at most 16 marks are in use, each has a name of the list, and no two have the same
pub record IsOver (names : List (List ℕ)) (p : Places) : Type 0 where
  pub few : p.count ≤ 16
  pub met : All (λ m. m.name < length names) (marks_of p)
  pub distinct : IsDistinct nat_eq (map (λ m. m.name) (marks_of p))

-- no point at the places passes the greatest offset by the edit
pub record PlacesFit (e : PointsEdit) (p : Places) : Type 0 where
  pub selection : IfSome p.selection (PairFits e)
  pub scratch : IfSome p.scratch (PairFits e)
  pub marks : All (λ m. PairFits e m.pair) (marks_of p)

-- the entries of a map, whose keys are in their order, have each name with its first position in
-- the list. No public clause cites it.
abbrev pub HasPositions : {A : Type 0} → List (Vec ℕ A × ℕ) → List (List ℕ) → Type 0
HasPositions entries names = (name : List ℕ)
    → lookup (λ k. is_eq (slice_cmp nat_cmp name k.items)) entries ≡ position (bytes_eq name) names
