-- The nodes of a forest in tree order, by its first tree.
use Rattle.std.proofs.Common.{◌≡◌, ℕ, List, [], ◌∷◌, ◌++◌, refl, sym, ap, ◌∙◌, append_assoc}
use Rattle.edit_model.specs.DomModel.declared.Content.{Content}
use Rattle.edit_model.specs.DomModel.Forest.{Forest, preorder_onto, preorder}
use Rattle.edit_model.specs.DomModel.Forest.Forest.{Nil, Tree}

preorder_split : (f : Forest Content) (ls : List ℕ) → preorder_onto f ls ≡ preorder f ++ ls
preorder_split Nil ls = refl
preorder_split (Tree m c ks rest) ls =
    ap (λ xs. m ∷ xs) (preorder_split ks (preorder_onto rest ls) ∙ (ap (λ xs. preorder ks ++ xs) (preorder_split rest ls) ∙ (sym (append_assoc (preorder ks) (preorder rest) ls) ∙ ap (λ xs. xs ++ ls) (sym (preorder_split ks (preorder rest))))))

pub preorder_tree : (m : ℕ) (c : Content) (ks rest : Forest Content) → preorder (Tree m c ks rest) ≡ (m ∷ []) ++ (preorder ks ++ preorder rest)
preorder_tree m c ks rest = ap (λ xs. m ∷ xs) (preorder_split ks (preorder rest))
