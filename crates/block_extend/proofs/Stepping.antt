-- The places beside the children of a node, and the steps from one to the next.
use Rattle.std.proofs.Common.{◌≡◌, ℕ, ◌+◌, ◌-◌, ◌^◌, ◌<◌, Option, Some, sym, ◌∙◌, arith}
use Rattle.node_paths.specs.DomModel.declared.Content.{Content}
use Rattle.node_paths.specs.DomModel.Forest.{Forest, parent_of, prev_of, next_of}
use Rattle.node_paths.specs.DomModel.Contents.{length_of}
use Rattle.node_paths.specs.DomModel.Places.{index_of}
use Rattle.node_paths.proofs.DomModel.Few.{some_nodes}
use Rattle.node_paths.proofs.DomModel.Indexes.{index_of_low}
use Rattle.node_paths.specs.NodeArena.declared.NodeRef.{NodeRef}
use Rattle.node_paths.specs.NodeArena.Held.{label}
use Rattle.node_paths.specs.NodeArena.Reads.{IsValid, Names}
use Rattle.node_tests.specs.BlockPoints.{child_before, child_at}
use Rattle.block_extend.specs.Gaps.{Stands}
use Rattle.block_extend.specs.declared.places.Place.{Place}
use Rattle.node_tests.proofs.Reaching.{at_child}
use Rattle.block_extend.proofs.Kids.{kid_next, kid_prev, own_index, before_at}

module _ {holds : NodeRef → Type 0} {f : Forest Content} {upper : ℕ} (law : IsValid holds f upper) where
  -- the index of a node and one more are numbers of 32 bits
  pub index_fits : (r : NodeRef) → holds r → index_of f r.label + 1 < 2 ^ 32
  index_fits r held =
      omega (arith, law.few, law.small, index_of_low f law.distinct r.label (some_nodes f r.label (law.here r held)))

  -- ---- out of a node

  module _ (r p : NodeRef) (child : parent_of f r.label ≡ Some p.label) (held : holds r) (above : holds p) where
    pub stands_before : (o : Option NodeRef) → Names holds o (prev_of f r.label) → Stands holds f (record { node = p; offset = index_of f r.label; before = o; after = Some r })
    stands_before o prev =
        let at = own_index f law.distinct r.label p.label child in
        record {
          node = above;
          before = record { is = prev.is ∙ kid_prev f law.distinct p.label (index_of f r.label) r.label at; held = prev.held };
          after = record { is = sym at; held = held };
        }

    pub stands_after : (o : Option NodeRef) → Names holds o (next_of f r.label) → Stands holds f (record { node = p; offset = index_of f r.label + 1; before = Some r; after = o })
    stands_after o next =
        let at = own_index f law.distinct r.label p.label child in
        record {
          node = above;
          before = record { is = sym (before_at f law.distinct p.label (index_of f r.label + 1) (omega arith) (index_of f r.label) (omega arith) ∙ at); held = held };
          after = record { is = next.is ∙ kid_next f law.distinct p.label (index_of f r.label) r.label at; held = next.held };
        }

  -- ---- within a node

  module _ (at : Place) (stands : Stands holds f at) where
    pub stands_back : (child : NodeRef) → at.before ≡ Some child → 0 < at.offset → (o : Option NodeRef) → Names holds o (prev_of f child.label) → Stands holds f (record { node = at.node; offset = at.offset - 1; before = o; after = Some child })
    stands_back child is some o prev =
        let named : Names holds (Some child) (child_before f at.node.label at.offset) = rw is at stands.before in
        let here : child_at f at.node.label (at.offset - 1) ≡ Some child.label = sym (before_at f law.distinct at.node.label at.offset some (at.offset - 1) (omega (arith, some))) ∙ sym named.is in
        record {
          node = stands.node;
          before = record { is = prev.is ∙ kid_prev f law.distinct at.node.label (at.offset - 1) child.label here; held = prev.held };
          after = record { is = sym here; held = named.held };
        }

    pub stands_forth : (child : NodeRef) → at.after ≡ Some child → (o : Option NodeRef) → Names holds o (next_of f child.label) → Stands holds f (record { node = at.node; offset = at.offset + 1; before = Some child; after = o })
    stands_forth child is o next =
        let named : Names holds (Some child) (child_at f at.node.label at.offset) = rw is at stands.after in
        record {
          node = stands.node;
          before = record { is = sym (before_at f law.distinct at.node.label (at.offset + 1) (omega arith) at.offset (omega arith) ∙ sym named.is); held = named.held };
          after = record { is = next.is ∙ kid_next f law.distinct at.node.label at.offset child.label (sym named.is); held = next.held };
        }

    -- a place with a child after it is before the end
    pub before_child : (m : ℕ) → label at.after ≡ Some m → (index_of f m ≡ at.offset) × (at.offset < length_of f at.node.label)
    before_child m e = let r = at_child law at.node.label m at.offset (sym stands.after.is ∙ e) in (r.1, r.2)
