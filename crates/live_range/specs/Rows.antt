-- Points by number: the rows. Pair 0 is the selection, pair 1 the scratch pair, and the marks
-- follow in order; row 2k is the anchor of pair k, and row 2k + 1 its focus.
use Rattle.std.specs.Prelude.{◌≡◌, ℕ, zero, suc, ◌/◌, ◌%◌, ◌<◌, Bool, false, ◌==◌, nat_eq, List, Option, slice_get, if◌then◌else◌}
use Rattle.std.specs.Int.{bit_at}
use Rattle.std.specs.Option.{option_map, option_map_or}
use Rattle.std.specs.Map.{lookup}
use Rattle.live_range.specs.declared.places.Point.{Point}
use Rattle.live_range.specs.declared.places.Pair.{Pair}
use Rattle.live_range.specs.declared.places.Places.{Places}
use Rattle.live_range.specs.declared.rows.RowSet.{RowSet}
use Rattle.live_range.specs.Names.{marks_of, IsOver}

-- the pair of a number
abbrev pub pair_at : Places → ℕ → Option Pair
pair_at p zero = p.selection
pair_at p (suc zero) = p.scratch
pair_at p (suc (suc k)) = option_map (λ m. m.pair) (slice_get (marks_of p) k)

-- the point of a row's side of its pair
abbrev pub side : ℕ → Pair → Point
side r q = if r % 2 == 0 then q.anchor else q.focus

abbrev pub point_at : Places → ℕ → Option Point
point_at p r = option_map (side r) (pair_at p (r / 2))

-- whether a point of the row stands at the label
abbrev pub stands_at : Places → ℕ → ℕ → Bool
stands_at p l r = option_map_or (λ x. x.label == l) (point_at p r) false

-- whether a set of rows, a bit for each, has the row
abbrev pub has_row : RowSet → ℕ → Bool
has_row rows r = nat_eq (bit_at rows.bits r) 1

-- what a contract sees of the rows by node: the labels that have a list of rows, which may be
-- empty, each with its list
abbrev pub RowsByNode : Type 0
RowsByNode = List (ℕ × RowSet)

-- whether the row is listed at a label
abbrev pub listed_at : RowsByNode → ℕ → ℕ → Bool
listed_at n l r = option_map_or (λ rows. has_row rows r) (lookup (nat_eq l) n) false

-- at each label exactly the rows are listed whose points stand there
abbrev pub Lists : Places → RowsByNode → Type 0
Lists p n = (l r : ℕ) → r < 64 → listed_at n l r ≡ stands_at p l r

-- what holds of the fields of Points
pub record AreSoundRows (names : List (List ℕ)) (p : Places) (n : RowsByNode) : Type 0 where
  pub over : IsOver names p
  pub listed : Lists p n
