use Rattle.std.proofs.Common.{◌≡◌, drop}
use Rattle.std.specs.List.{find}
use Rattle.std.specs.Str.{bytes_eq}
use Rattle.html_names.specs.Queries.{query_word}
use Rattle.html_names.proofs.query.find_kind.Given as goal

-- the word names none of the kinds so far
abbrev pub invariant-loop-kind : goal.invariant-loop-kind
invariant-loop-kind l =
    find (λ kind. bytes_eq (query_word kind) l.word) (drop l.kind-index l.table) ≡ find (λ kind. bytes_eq (query_word kind) l.word) l.table
