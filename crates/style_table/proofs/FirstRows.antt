-- The value of a table is that of its first row that has the name.
use Rattle.std.proofs.Common.{◌≡◌, ℕ, Bool, true, false, cond, ◌||◌, List, [], ◌∷◌, Some, map, refl, ap}
use Rattle.std.specs.List.{find, list_any}
use Rattle.std.specs.Option.{option_map}
use Rattle.std.specs.Str.{bytes_eq}
use Rattle.style_table.specs.declared.NamedRow.{NamedRow}
use Rattle.style_table.specs.DefaultStyles.{DefaultRow, value_of}

any_mapped : {X Y : Type 0} (p : Y → Bool) (f : X → Y) (xs : List X) → list_any p (map f xs) ≡ list_any (λ x. p (f x)) xs
any_mapped p f [] = refl
any_mapped p f (x ∷ xs) = ap (λ v. p (f x) || v) (any_mapped p f xs)

pub first_row : (rows : List NamedRow) (name : List ℕ) → value_of (map (λ (row : NamedRow). (row.0.now, map (λ known. known.now) row.1.now)) rows) name ≡ option_map (λ (row : NamedRow). row.0.now) (find (λ (row : NamedRow). list_any (λ known. bytes_eq known.now name) row.1.now) rows)
unfolding value_of
first_row [] name = refl
first_row (row ∷ rows) name =
    rw (any_mapped (λ known. bytes_eq known name) (λ known. known.now) row.1.now)
    (elim (list_any (λ known. bytes_eq known.now name) row.1.now) as (λ v. option_map (λ (r : DefaultRow). r.0) (cond v (Some (row.0.now, map (λ known. known.now) row.1.now)) (find (λ (r : DefaultRow). list_any (λ known. bytes_eq known name) r.1) (map (λ (r : NamedRow). (r.0.now, map (λ known. known.now) r.1.now)) rows))) ≡ option_map (λ (r : NamedRow). r.0.now) (cond v (Some row) (find (λ (r : NamedRow). list_any (λ known. bytes_eq known.now name) r.1.now) rows))) [
      | true ↦ refl
      | false ↦ first_row rows name
    ])
