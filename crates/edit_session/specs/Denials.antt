-- The names that `--deny` takes: 1 to 16 different names of 1 to 64 ASCII letters, digits and `-`,
-- with a comma between. Case doesn't matter, and a repeated name counts once.
use Rattle.std.specs.Prelude.{ℕ, Bool, ◌&&◌, ◌==◌, nat_le, List, [], ◌∷◌, length, map, Option, Some, None, if◌then◌else◌}
use Rattle.std.specs.List.{list_all}
use Rattle.script_read.specs.Acts.{is_name}
use Rattle.script_read.specs.Reading.{split}
use Rattle.command_gate.specs.Denied.{lowered, is_denied}

abbrev pub parts_of : List ℕ → List (List ℕ)
parts_of text = split 44 text

-- each name once, in lower case, where it stands last
abbrev pub different : List (List ℕ) → List (List ℕ)
different [] = []
different (part ∷ parts) =
    if is_denied (map lowered parts) part then different parts else lowered part ∷ different parts

abbrev pub names_in : List ℕ → List (List ℕ)
names_in text = different (parts_of text)

-- how many names may be denied
abbrev pub greatest_denied : ℕ
greatest_denied = 16

abbrev pub are_names : List ℕ → Bool
are_names text = list_all is_name (parts_of text) && nat_le (length (names_in text)) greatest_denied

abbrev pub names_of : List ℕ → Option (List (List ℕ))
names_of text = if are_names text then Some (names_in text) else None

-- the same of a text that may be empty, where none is denied
unfoldable pub denied_by : List ℕ → Option (List (List ℕ))
denied_by text = if length text == 0 then Some [] else names_of text
