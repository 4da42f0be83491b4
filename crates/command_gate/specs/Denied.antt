-- Names of commands that a host program denies. Case doesn't matter.
use Rattle.std.specs.Prelude.{◌≡◌, ℕ, Bool, List, map, bytes_eq}
use Rattle.std.specs.Char.{to_ascii_lowercase}
use Rattle.std.specs.List.{list_any}

abbrev pub lowered : List ℕ → List ℕ
lowered name = map to_ascii_lowercase name

-- a list of names in lower case has the name, in any case
unfoldable pub is_denied : List (List ℕ) → List ℕ → Bool
is_denied denied name = list_any (λ n. bytes_eq n (lowered name)) denied

-- a question answers true exactly for the names that are denied
abbrev pub AsksFor : List (List ℕ) → (List ℕ → Bool) → Type 0
AsksFor denied question = (name : List ℕ) → question name ≡ is_denied denied name
