-- The indexes of the children that a walk passes.
use Rattle.std.proofs.Common.{◌≡◌, ℕ, ◌+◌, Option, Some, None, IfSome, sym, ap, ◌∙◌}
use Rattle.node_styles.specs.DomModel.declared.Content.{Content}
use Rattle.node_styles.specs.DomModel.Forest.{Forest, first_of, next_of}
use Rattle.node_styles.specs.DomModel.Places.{index_of}
use Rattle.node_styles.proofs.DomModel.Neighbours.{parent_of-first, parent_of-next}
use Rattle.node_styles.specs.NodeArena.declared.NodeRef.{NodeRef}
use Rattle.node_styles.specs.NodeArena.Held.{label}
use Rattle.node_styles.specs.NodeArena.Reads.{IsValid}
use Rattle.node_tests.proofs.Kids.{Kid}
use Rattle.node_tests.proofs.Turning.{index_first, next_index}

module _ {holds : NodeRef → Type 0} {f : Forest Content} {upper : ℕ} (law : IsValid holds f upper) where
  pub first_place : (l : ℕ) (o : Option NodeRef) → label o ≡ first_of f l → IfSome o (λ k. 0 ≡ index_of f k.label)
  first_place l None e = tt
  first_place l (Some k) e = sym (index_first law k.label l (parent_of-first f law.distinct l k.label (sym e)) (sym e))

  pub next_place : (p : ℕ) (r : NodeRef) → Kid holds f p (Some r) → (i : ℕ) → i ≡ index_of f r.label → (o : Option NodeRef) → label o ≡ next_of f r.label → IfSome o (λ k. i + 1 ≡ index_of f k.label)
  next_place p r kid i is None e = tt
  next_place p r kid i is (Some k) e =
      ap (λ n. n + 1) is
      ∙ sym (next_index law r.label p kid.under k.label (parent_of-next f law.distinct r.label k.label p kid.under (sym e)) (sym e))
