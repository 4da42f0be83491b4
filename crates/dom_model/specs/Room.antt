-- How many characters a text has room for, and when a part of it can be replaced within that room.
use Rattle.std.specs.Prelude.{◌≡◌, ◌^◌, ℕ, zero, suc, ◌+◌, ◌/◌, ◌<◌, ◌≤◌, nat_le, nat_lt, ◌&&◌, List, ◌++◌, length, take, drop, if◌then◌else◌}

-- the first room for n characters of those that begin at this one, each a quarter larger than the
-- one before
unfoldable pub room_from : ℕ → ℕ → ℕ → ℕ
room_from zero room n = n
room_from (suc k) room n = if nat_le n room then room else room_from k (room + room / 4) n

-- Texts of nearby lengths have the same room, so that one takes the other's place where it stands.
-- A text without characters has none.
unfoldable pub room_of : ℕ → ℕ
room_of n = if nat_lt 0 n && nat_lt n (2 ^ 32) then room_from 100 6 n else n

-- the characters with `count` of them, from the offset `at` on, given way to others
abbrev pub spliced : List ℕ → ℕ → ℕ → List ℕ → List ℕ
spliced chars at count put = take at chars ++ (put ++ drop (at + count) chars)

-- the part is one of the text, and the text has the same room afterwards
pub record CanSplice (text : List ℕ) (at count : ℕ) (put : List ℕ) : Type 0 where
  pub within : at + count ≤ length text
  pub short : length (spliced text at count put) < 2 ^ 32
  pub room : room_of (length (spliced text at count put)) ≡ room_of (length text)
