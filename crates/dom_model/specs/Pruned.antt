-- A forest without some of its trees.
use Rattle.std.specs.Prelude.{◌≡◌, ℕ, Bool, if◌then◌else◌, Some}
use Rattle.dom_model.specs.Forest.{Forest, parent_of}
use Rattle.dom_model.specs.Forest.Forest.{Nil, Tree}

module _ {C : Type 0} where
  -- without the trees whose roots have such labels
  abbrev pub pruned : (ℕ → Bool) → Forest C → Forest C
  pruned k Nil = Nil
  pruned k (Tree m c ks rest) = if k m then pruned k rest else Tree m c ks (pruned k rest)

  -- the labels are those of whole trees: a node has such a label exactly where its parent has
  pub record IsWhole (k : ℕ → Bool) (f : Forest C) : Type 0 where
    pub same : (l p : ℕ) → parent_of f l ≡ Some p → k l ≡ k p
