-- Nodes of the document among all nodes.
use Rattle.std.proofs.Common.{◌≡◌, ℕ, ◌<◌, ◌≤◌, arith, cond, eqb, List, take, length, Some, None, slice_get, sym, subst, ◌∙◌, inl, inr}
use Rattle.std.specs.List.{All}
use Rattle.std.proofs.lemmas.List.Elements.{All-get_or}
use Rattle.std.proofs.lemmas.Option.{slice_get_within, get_or_from_slice_get, slice_get_cases}
use Rattle.std.proofs.Math.Seq.{take-length}
use Rattle.node_paths.specs.DomModel.Forest.{Forest, count_of, IsWithin}
use Rattle.node_paths.proofs.DomModel.Totals.{total-without}

-- what stands below a node of a forest stands in the forest
pub within_count : {C : Type 0} (f : Forest C) (n l : ℕ) → IsWithin f n l → 0 < count_of f l
within_count {C} f n l h = omega (arith, h, total-without {C = C} (λ m _. cond (eqb m l) 1 0) f n)

module _ {X : Type 0} where
  -- what holds of each holds of the one at a place
  pub each_at : (P : X → Type 0) (xs : List X) (k : ℕ) (x : X) → All P xs → slice_get xs k ≡ Some x → P x
  each_at P xs k x all e =
      let within = slice_get_within xs k x e in
      subst P (get_or_from_slice_get xs k x x e) (All-get_or P xs k x within all)

  -- up to a place where there is none, all are taken
  pub all_taken : (xs : List X) (k : ℕ) → k ≤ length xs → slice_get xs k ≡ None → take k xs ≡ xs
  all_taken xs k within e =
      elim (slice_get_cases xs k).1 [
        | inl (x, _, is, _) ↦ absurd (let t : None ≡ Some x = sym e ∙ is in cc)
        | inr (past, _) ↦ (let same : k ≡ length xs = omega (arith, past, within) in rw same (take-length xs))
      ]
