-- A list with members left out.
use Rattle.std.specs.Prelude.{List, [], ◌∷◌}

-- the first list is the second with members left out
pub data Subsequence {A : Type 0} : List A → List A → Type 0 where
  empty : Subsequence [] []
  both : {xs ys : List A} (x : A) → Subsequence xs ys → Subsequence (x ∷ xs) (x ∷ ys)
  left_out : {xs ys : List A} (y : A) → Subsequence xs ys → Subsequence xs (y ∷ ys)
