-- Subsequences, and forests that bear the same in order.
use Rattle.std.proofs.Common.{◌≡◌, List, [], ◌∷◌, ◌++◌, refl, ap, ◌∙◌}
use Rattle.std.specs.List.{filter}
use Rattle.edit_model.specs.DomModel.declared.Content.{Content}
use Rattle.edit_model.specs.DomModel.Forest.{Forest}
use Rattle.edit_model.specs.Kept.{Leaf, leaves, is_kept, kept_leaves}
use Rattle.edit_laws.specs.Order.{Subsequence, empty, both, left_out, KeepsLeaves}

pub subsequence_refl : (xs : List Leaf) → Subsequence xs xs
subsequence_refl [] = empty
subsequence_refl (x ∷ xs) = both x (subsequence_refl xs)

pub subsequence_trans : {xs ys zs : List Leaf} → Subsequence xs ys → Subsequence ys zs → Subsequence xs zs
subsequence_trans p empty = p
subsequence_trans p (left_out y q) = left_out y (subsequence_trans p q)
subsequence_trans (both x p) (both y q) = both x (subsequence_trans p q)
subsequence_trans (left_out x p) (both y q) = left_out x (subsequence_trans p q)

pub subsequence_append : {xs ys us vs : List Leaf} → Subsequence xs ys → Subsequence us vs → Subsequence (xs ++ us) (ys ++ vs)
subsequence_append empty q = q
subsequence_append (both x p) q = both x (subsequence_append p q)
subsequence_append (left_out y p) q = left_out y (subsequence_append p q)

pub subsequence_nothing : (xs : List Leaf) → Subsequence [] xs
subsequence_nothing [] = empty
subsequence_nothing (x ∷ xs) = left_out x (subsequence_nothing xs)

-- ---- forests

pub kept_same : (f g : Forest Content) → leaves g ≡ leaves f → kept_leaves g ≡ kept_leaves f
unfolding kept_leaves
kept_same f g e = ap (filter is_kept) e

pub keeps_same : (f g : Forest Content) → leaves g ≡ leaves f → KeepsLeaves f g
keeps_same f g e = record { in_order = rw e (subsequence_refl (leaves f)); whole = kept_same f g e }

pub keeps_refl : (f : Forest Content) → KeepsLeaves f f
keeps_refl f = keeps_same f f refl

pub keeps_trans : {f g h : Forest Content} → KeepsLeaves f g → KeepsLeaves g h → KeepsLeaves f h
keeps_trans p q = record { in_order = subsequence_trans q.in_order p.in_order; whole = q.whole ∙ p.whole }
