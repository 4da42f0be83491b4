use Rattle.std.proofs.Common.{◌≡◌, drop, bytes_eq}
use Rattle.std.specs.List.{list_all, list_any}
use Rattle.command_value.proofs.modifiable.has_only.Given as goal

-- the attributes that are left decide
abbrev pub invariant-loop-place : goal.invariant-loop-place
invariant-loop-place l =
    list_all (λ a. list_any (λ row. bytes_eq row.now a.name) l.names) (drop l.place l.attributes) ≡ list_all (λ a. list_any (λ row. bytes_eq row.now a.name) l.names) l.attributes
