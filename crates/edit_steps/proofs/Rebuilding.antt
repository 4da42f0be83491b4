-- A text built from the part before a splice, what it puts, and the part behind.
use Rattle.std.proofs.Common.{◌≡◌, ℕ, ◌+◌, ◌≤◌, List, ◌++◌, length, take, drop, arith, length-append}
use Rattle.forest_changes.specs.DomModel.Room.{room_of, spliced}
use Rattle.forest_changes.proofs.DomModel.Rooms.{fits}

-- the parts together have room
pub parts_fit : (words put : List ℕ) (at gone room : ℕ) → room_of (length (spliced words at gone put)) ≤ room
    → length (take at words) + (length put + length (drop (at + gone) words)) ≤ room
parts_fit words put at gone room enough =
    omega (
      arith,
      enough,
      fits (length (spliced words at gone put)),
      length-append (take at words) (put ++ drop (at + gone) words),
      length-append put (drop (at + gone) words),
    )
