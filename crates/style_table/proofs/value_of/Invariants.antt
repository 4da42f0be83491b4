-- The first of the rows that are left is the first of all.
use Rattle.std.proofs.Common.{◌≡◌, drop}
use Rattle.std.specs.List.{find, list_any}
use Rattle.std.specs.Str.{bytes_eq}
use Rattle.style_table.proofs.value_of.Given as goal

abbrev pub invariant-loop-row : goal.invariant-loop-row
invariant-loop-row l =
    find (λ row. list_any (λ known. bytes_eq known.now l.name) row.1.now) (drop l.row-index l.rows)
    ≡ find (λ row. list_any (λ known. bytes_eq known.now l.name) row.1.now) l.rows
