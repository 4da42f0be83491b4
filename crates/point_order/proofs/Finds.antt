-- Which label of a list a search by a test finds.
use Rattle.std.proofs.Common.{◌≡◌, ◌≢◌, ℕ, ◌<◌, Bool, true, false, cond, List, [], ◌∷◌, Some, None, refl, ap, ◌∙◌, inl, inr, arith}
use Rattle.std.proofs.lemmas.Bool.Decides.{eqb_tells}
use Rattle.std.specs.List.{find}
use Rattle.node_arena.specs.DomModel.Forest.{times}
use Rattle.node_arena.proofs.DomModel.Links.{eqb_refl_true}

head_in : (x : ℕ) (xs : List ℕ) → 0 < times (x ∷ xs) x
head_in x xs = let t = eqb_refl_true x in rw t (omega arith)

tail_in : (x k : ℕ) (xs : List ℕ) → 0 < times xs k → 0 < times (x ∷ xs) k
tail_in x k xs h = omega (arith, h)

-- two tests that agree on the list find the same
pub find-same : (p q : ℕ → Bool) (xs : List ℕ) → ((k : ℕ) → 0 < times xs k → p k ≡ q k) → find p xs ≡ find q xs
find-same p q [] h = refl
find-same p q (x ∷ xs) h = rw (h x (head_in x xs)) (ap (λ o. cond (q x) (Some x) o) (find-same p q xs (λ k t. h k (tail_in x k xs t))))

-- a test that nothing passes finds nothing
pub find-none : (p : ℕ → Bool) (xs : List ℕ) → ((k : ℕ) → 0 < times xs k → p k ≡ false) → find p xs ≡ None
find-none p [] h = refl
find-none p (x ∷ xs) h = rw (h x (head_in x xs)) (find-none p xs (λ k t. h k (tail_in x k xs t)))

-- a test that one label alone passes finds that label
pub find-one : (p : ℕ → Bool) (xs : List ℕ) (a : ℕ) → 0 < times xs a → p a ≡ true → ((k : ℕ) → 0 < times xs k → k ≢ a → p k ≡ false) → find p xs ≡ Some a
find-one p [] a h here off = absurd (omega (arith, h))
find-one p (x ∷ xs) a h here off =
    elim (eqb_tells x a) [
      | inl (_, is) ↦ rw (ap p is ∙ here) (ap Some is)
      | inr (t, other) ↦ (let h' = rw t at h in rw (off x (head_in x xs) other) (find-one p xs a (omega (arith, h')) here (λ k s. off k (tail_in x k xs s))))
    ]
