-- Names that stand in vectors.
use Rattle.std.proofs.Common.{◌≡◌, ℕ, ◌||◌, List, [], ◌∷◌, map, bytes_eq, refl, ap, ◌∙◌, Vec, Global}
use Rattle.std.specs.List.{list_any}
use Rattle.command_gate.specs.Denied.{lowered, is_denied}

abbrev pub spelled : List (Vec ℕ Global) → List (List ℕ)
spelled vs = map (λ v. v.items) vs

pub denied_by : (name : List ℕ) (vs : List (Vec ℕ Global)) → list_any (λ v. bytes_eq v.items (lowered name)) vs ≡ is_denied (spelled vs) name
unfolding is_denied
denied_by name [] = refl
denied_by name (v ∷ vs) = ap (λ b. bytes_eq v.items (lowered name) || b) (denied_by name vs)

pub denied_in : (name : List ℕ) (vs ws : List (Vec ℕ Global)) (names : List (List ℕ)) → vs ≡ ws → spelled ws ≡ names
    → list_any (λ v. bytes_eq v.items (lowered name)) vs ≡ is_denied names name
denied_in name vs ws names same are = denied_by name vs ∙ ap (λ d. is_denied d name) (ap spelled same ∙ are)
