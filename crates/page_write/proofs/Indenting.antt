-- One level more of indentation.
use Rattle.std.proofs.Common.{◌≡◌, ℕ, zero, suc, ◌+◌, List, ◌∷◌, ◌++◌, sym, ap, ◌∙◌, refl, append_assoc, add-one, codes}
use Rattle.page_write.specs.Listing.{indent}

-- two spaces before an indentation are as well two behind it
indent-turned : (level : ℕ) → codes "  " ++ indent level ≡ indent level ++ codes "  "
indent-turned zero = refl
indent-turned (suc level) = ap (λ y. 32 ∷ 32 ∷ y) (indent-turned level)

pub indent-more : (level : ℕ) (old out new : List ℕ) → out ≡ old ++ indent level → new ≡ out ++ codes "  " → new ≡ old ++ indent (level + 1)
indent-more level old out new before after =
    let one : indent (level + 1) ≡ indent level ++ codes "  " = ap indent (add-one level) ∙ indent-turned level in
    let regrouped : (old ++ indent level) ++ codes "  " ≡ old ++ (indent level ++ codes "  ") = append_assoc old (indent level) (codes "  ") in
    after ∙ ap (λ y. y ++ codes "  ") before ∙ regrouped ∙ ap (λ y. old ++ y) (sym one)
