-- Counting the characters that are the same in two texts.
use Rattle.std.proofs.Common.{◌≡◌, ◌≢◌, ℕ, ◌+◌, ◌-◌, ◌<◌, ◌≤◌, true, List, [], ◌∷◌, length, drop, reverse, slice_index_or, refl, sym, ap, ◌∙◌, inl, inr, arith, eqb}
use Rattle.std.proofs.lemmas.Bool.Decides.{eqb_tells}
use Rattle.std.proofs.lemmas.List.{drop_all, get_or-reverse, length-reverse}
use Rattle.std.proofs.lemmas.List.Sums.{common_prefix_len-drop_yes, common_prefix_len-drop_no}
use Rattle.forest_changes.proofs.DomModel.Links.{eqb_refl_true}
use Rattle.document_edits.specs.Replaced.{shared_start, shared_end}

-- the first n characters of two texts are the same
pub record AreShared (xs ys : List ℕ) (n : ℕ) : Type 0 where
  pub in_xs : n ≤ length xs
  pub in_ys : n ≤ length ys
  pub rest : shared_start xs ys ≡ n + shared_start (drop n xs) (drop n ys)

shared_with_nothing : (xs : List ℕ) → shared_start xs [] ≡ 0
shared_with_nothing [] = refl
shared_with_nothing (x ∷ xs) = refl

module _ (xs ys : List ℕ) where
  pub none_shared : AreShared xs ys 0
  none_shared = record { in_xs = omega arith; in_ys = omega arith; rest = omega arith }

  module _ (n : ℕ) (h : AreShared xs ys n) where
    pub first_ends : length xs ≤ n → n ≡ shared_start xs ys
    first_ends short = omega (arith, h.rest, ap (λ w. shared_start w (drop n ys)) (drop_all n xs short))

    pub second_ends : length ys ≤ n → n ≡ shared_start xs ys
    second_ends short = omega (arith, h.rest, ap (shared_start (drop n xs)) (drop_all n ys short), shared_with_nothing (drop n xs))

    -- at the next character of both, whatever is read past their ends
    module _ (c d : ℕ) (long : n < length xs) (longer : n < length ys) where
      pub one_more : slice_index_or xs n c ≡ slice_index_or ys n d → AreShared xs ys (n + 1)
      one_more same =
          let t : eqb (slice_index_or xs n c) (slice_index_or ys n d) ≡ true = rw same (eqb_refl_true (slice_index_or ys n d)) in
          record {
            in_xs = omega arith;
            in_ys = omega arith;
            rest = omega (arith, h.rest, common_prefix_len-drop_yes eqb xs ys n c d long longer t);
          }

      pub differ : slice_index_or xs n c ≢ slice_index_or ys n d → n ≡ shared_start xs ys
      differ other = elim (eqb_tells (slice_index_or xs n c) (slice_index_or ys n d)) [
        | inl (_, same) ↦ absurd (other same)
        | inr (t, _) ↦ omega (arith, h.rest, common_prefix_len-drop_no eqb xs ys n c d long longer t)
      ]

-- the same from the ends
module _ (xs ys : List ℕ) (n : ℕ) (h : AreShared (reverse xs) (reverse ys) n) (c d : ℕ) (long : n < length xs) (longer : n < length ys) where
  x_there : slice_index_or (reverse xs) n c ≡ slice_index_or xs (length xs - 1 - n) c
  x_there = get_or-reverse xs n c long

  y_there : slice_index_or (reverse ys) n d ≡ slice_index_or ys (length ys - 1 - n) d
  y_there = get_or-reverse ys n d longer

  pub one_more_at_end : slice_index_or xs (length xs - 1 - n) c ≡ slice_index_or ys (length ys - 1 - n) d → AreShared (reverse xs) (reverse ys) (n + 1)
  one_more_at_end same =
      one_more (reverse xs) (reverse ys) n h c d (omega (arith, length-reverse xs)) (omega (arith, length-reverse ys))
      (x_there ∙ (same ∙ sym y_there))

  pub differ_at_end : slice_index_or xs (length xs - 1 - n) c ≢ slice_index_or ys (length ys - 1 - n) d → n ≡ shared_end xs ys
  differ_at_end other =
      differ (reverse xs) (reverse ys) n h c d (omega (arith, length-reverse xs)) (omega (arith, length-reverse ys))
      (λ same. other (sym x_there ∙ (same ∙ y_there)))
