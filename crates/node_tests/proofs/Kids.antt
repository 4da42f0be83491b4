-- A walk over the children of a node.
use Rattle.std.proofs.Common.{◌≡◌, ℕ, ◌<◌, Option, Some, None, IfSome, sym, arith}
use Rattle.node_styles.specs.DomModel.declared.Content.{Content}
use Rattle.node_styles.specs.DomModel.Forest.{Forest, tree_of, parent_of, first_of, next_of}
use Rattle.node_styles.proofs.DomModel.Neighbours.{parent_of-first, parent_of-next}
use Rattle.node_styles.specs.NodeArena.declared.NodeRef.{NodeRef}
use Rattle.node_styles.specs.NodeArena.Held.{label}
use Rattle.node_styles.specs.NodeArena.Reads.{IsValid, Names}
use Rattle.node_tests.specs.Listing.{siblings}
use Rattle.node_tests.proofs.Inside.{nodes, fewer_kids, fewer_onward, some_node}

-- a child of p, or none after the last
pub record Kid (holds : NodeRef → Type 0) (f : Forest Content) (p : ℕ) (o : Option NodeRef) : Type 0 where
  pub held : IfSome o (λ r. holds r)
  pub under : IfSome o (λ r. parent_of f r.label ≡ Some p)
  pub less : nodes (siblings f (label o)) < nodes (tree_of f p)

module _ {holds : NodeRef → Type 0} {f : Forest Content} {upper : ℕ} (law : IsValid holds f upper) where
  pub first_kid : (r : NodeRef) (o : Option NodeRef) → holds r → Names holds o (first_of f r.label) → Kid holds f r.label o
  first_kid r o held named = record {
    held = named.held;
    under = by_option o named.is;
    less = rw named.is (fewer_kids f law.distinct r.label (law.here r held));
  }
    where
      by_option : (o : Option NodeRef) → label o ≡ first_of f r.label → IfSome o (λ k. parent_of f k.label ≡ Some r.label)
      by_option None e = tt
      by_option (Some k) e = parent_of-first f law.distinct r.label k.label (sym e)

  module _ (p : ℕ) (r : NodeRef) (kid : Kid holds f p (Some r)) where
    pub next_kid : (o : Option NodeRef) → Names holds o (next_of f r.label) → Kid holds f p o
    next_kid o named = record {
      held = named.held;
      under = by_option o named.is;
      less = rw named.is (omega (arith, kid.less, fewer_onward f law.distinct r.label p kid.under));
    }
      where
        by_option : (o : Option NodeRef) → label o ≡ next_of f r.label → IfSome o (λ k. parent_of f k.label ≡ Some p)
        by_option None e = tt
        by_option (Some k) e = parent_of-next f law.distinct r.label k.label p kid.under (sym e)

    pub next_smaller : (o : Option NodeRef) → Names holds o (next_of f r.label) → nodes (siblings f (label o)) < nodes (siblings f (Some r.label))
    next_smaller o named = rw named.is (omega (arith, fewer_onward f law.distinct r.label p kid.under, some_node f law.distinct r.label p kid.under))

    pub tree_smaller : nodes (tree_of f r.label) < nodes (tree_of f p)
    tree_smaller = omega (arith, kid.less, fewer_onward f law.distinct r.label p kid.under)
