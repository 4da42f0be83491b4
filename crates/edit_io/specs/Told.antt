-- How much goes from a source and into a sink, where they tell their bytes.
use Rattle.std.specs.Prelude.{ℕ, ◌<◌, ◌≤◌, List, length, take, Option}
use Rattle.std.specs.Io.KnownBytes.{Consumes, Appends}

-- some of the piece's first bytes went behind what was taken, and nothing else
pub record TakesPrefix (old new : Option (List ℕ)) (piece : List ℕ) : Type 0 where
  pub count : ℕ
  pub within : count ≤ length piece
  pub taken : Appends old new (take count piece)

-- at most so many bytes went from the front of what was left, and nothing else
pub record GivesAtMost (old new : Option (List ℕ)) (limit : ℕ) : Type 0 where
  pub given : List ℕ
  pub within : length given ≤ limit
  pub left : Consumes old new given

-- more bytes than this went from the front of what was left, and nothing else
pub record GivesMore (old new : Option (List ℕ)) (limit : ℕ) : Type 0 where
  pub given : List ℕ
  pub beyond : limit < length given
  pub left : Consumes old new given
