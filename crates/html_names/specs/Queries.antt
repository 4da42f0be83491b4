-- The words that name the questions that can be asked of an editing command.
use Rattle.std.specs.Prelude.{ℕ, List, [], ◌∷◌, codes, Option}
use Rattle.std.specs.List.{find}
use Rattle.std.specs.Str.{bytes_eq}
use Rattle.html_names.specs.declared.query.QueryKind.{QueryKind}
use Rattle.html_names.specs.declared.query.QueryKind.TheVariants.{Enabled, Indeterm, State, Supported, Value}

abbrev pub query_word : QueryKind → List ℕ
query_word Enabled = codes "enabled"
query_word Indeterm = codes "indeterm"
query_word State = codes "state"
query_word Supported = codes "supported"
query_word Value = codes "value"

-- the question that a word names
abbrev pub query_kind_of : List ℕ → Option QueryKind
query_kind_of word = find (λ kind. bytes_eq (query_word kind) word)
    (Enabled ∷ Indeterm ∷ State ∷ Supported ∷ Value ∷ [])
