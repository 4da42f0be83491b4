use Rattle.std.proofs.Common.{◌≡◌, ℕ, ◌+◌, ◌-◌, sym, ap, ◌∙◌, arith, Option, Some, None}
use Rattle.std.specs.Prelude.{slice_get}
use Rattle.node_styles.specs.DomModel.declared.Content.{Content}
use Rattle.node_styles.specs.DomModel.Forest.{Forest, tops, children_of}
use Rattle.node_styles.specs.NodeArena.declared.NodeRef.{NodeRef}
use Rattle.node_styles.specs.NodeArena.Held.{label}
use Rattle.node_styles.specs.NodeArena.Reads.{IsValid, Names}
use Rattle.node_tests.specs.Listing.{siblings}
use Rattle.node_tests.proofs.Kids.{Kid, first_kid, next_kid}
use Rattle.node_tests.proofs.ChildAt.{children_are, next_at, at_none, at_some}
use Rattle.node_tests.proofs.block_points.child_at.Goals as goal

-- the child that the walk has come to is the child at the offset
arrived : {holds : NodeRef → Type 0} {f : Forest Content} {upper : ℕ} (law : IsValid holds f upper) (p offset : ℕ) (o : Option NodeRef) → Kid holds f p o → (left : ℕ) → left ≡ 0 → slice_get (children_of f p) offset ≡ slice_get (tops (siblings f (label o))) left → Names holds o (slice_get (children_of f p) offset)
arrived {f = f} law p offset None kid left none same = record { is = sym (same ∙ at_none f law.distinct left); held = tt }
arrived {f = f} law p offset (Some r) kid left none same = record {
  is = sym (same ∙ ap (slice_get (tops (siblings f (Some r.label)))) none ∙ at_some f law.distinct r.label p kid.under);
  held = kid.held;
}

pub loop-left-init : goal.loop-left-init
loop-left-init g c =
    let f = g.N.Nodes.trees c.args.nodes.now in
    let law = c.valid.ensures in
    record {
      kid = first_kid law c.args.node c.first_child-child.result c.requires c.first_child-child.ensures;
      same = ap (λ xs. slice_get xs c.args.offset) (children_are f law.distinct c.args.node.label (law.here c.args.node c.requires) ∙ ap (λ o. tops (siblings f o)) (sym c.first_child-child.ensures.is));
    }

pub next-child-requires : goal.next-child-requires
next-child-requires g c = let kid = rw c.in-Some.is at c.loop-left.invariant.kid in kid.held

pub loop-left-preserved : goal.loop-left-preserved
loop-left-preserved g c =
    let f = g.N.Nodes.trees c.args.nodes.now in
    let law = c.valid.ensures in
    let kid = rw c.in-Some.is at c.loop-left.invariant.kid in
    let same = rw c.in-Some.is at c.loop-left.invariant.same in
    let some = c.loop-left-test.true in
    let one : c.loop-left.left ≡ (c.loop-left.left - 1) + 1 = omega (arith, some) in
    record {
      kid = next_kid law c.args.node.label c.in-Some.at kid c.next-child.result c.next-child.ensures;
      same =
          same
          ∙ ap (slice_get (tops (siblings f (Some c.in-Some.at.label)))) one
          ∙ next_at f law.distinct c.in-Some.at.label c.args.node.label (c.loop-left.left - 1) kid.under (label c.next-child.result) c.next-child.ensures.is;
    }

pub returns-in-None : goal.returns-in-None
returns-in-None g c =
    let f = g.N.Nodes.trees c.args.nodes.now in
    let law = c.valid.ensures in
    let same = rw c.in-None.is at c.loop-left.invariant.same in
    record { is = sym (same ∙ at_none f law.distinct c.loop-left.left); held = tt }

pub returns : goal.returns
returns g c =
    let done = c.loop-left-test.false in
    arrived c.valid.ensures c.args.node.label c.args.offset c.loop-left.child c.loop-left.invariant.kid c.loop-left.left (omega (arith, done)) c.loop-left.invariant.same
