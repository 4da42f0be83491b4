use Rattle.std.proofs.Common.{◌≡◌, ℕ, true, Some, refl, sym, ap, ◌∙◌, arith, is_none}
use Rattle.node_styles.specs.DomModel.Forest.{first_of, last_of, tree_of}
use Rattle.node_styles.proofs.DomModel.Neighbours.{parent_of-first}
use Rattle.node_styles.specs.NodeArena.Held.{label}
use Rattle.node_tests.specs.Listing.{siblings}
use Rattle.node_tests.specs.Ranges.{all_effective}
use Rattle.node_tests.proofs.Between.{first_and_last, first_smaller, last_smaller, some_last}
use Rattle.node_tests.proofs.Effective.{touched_effective, cut_ineffective, childless_ineffective, kids_effective}
use Rattle.node_tests.proofs.Gathered.{begins_off}
use Rattle.node_tests.proofs.ranges.+is_effective.Goals as goal
use Rattle.node_tests.proofs.ranges.+is_effective.Goals.{In-Some}

pub returns-then-is_touched : goal.returns-then-is_touched
returns-then-is_touched g t c =
    let law = c.valid.ensures in
    touched_effective (g.N.Nodes.trees c.args.nodes.now) c.args.range.0 c.args.range.1 law.distinct c.args.node.label (law.here c.args.node c.requires.node_held) c.is_touched.result c.is_touched.ensures c.if-is_touched.true

pub returns-then-is_cut : goal.returns-then-is_cut
returns-then-is_cut g t c =
    let law = c.valid.ensures in
    cut_ineffective (g.N.Nodes.trees c.args.nodes.now) c.args.range.0 c.args.range.1 law.distinct c.args.node.label (law.here c.args.node c.requires.node_held) c.is_touched.result c.is_touched.ensures c.if-is_touched.false c.is_cut.result c.is_cut.ensures c.if-is_cut.true

pub returns-in_default : goal.returns-in_default
returns-in_default g t c =
    let a = c.args in
    let f = g.N.Nodes.trees a.nodes.now in
    let law = c.valid.ensures in
    let p = a.node.label in
    let here = law.here a.node c.requires.node_held in
    childless_ineffective f a.range.0 a.range.1 law.distinct p here c.is_touched.result c.is_touched.ensures c.if-is_touched.false c.is_cut.result c.is_cut.ensures c.if-is_cut.false (label c.first_child.result) c.first_child.ensures.is (ap (λ o. is_none (label o)) c.in_default.is)

-- the first child
is_first : (g : _) (t : _) (c : In-Some g t) → first_of (g.N.Nodes.trees c.args.nodes.now) c.args.node.label ≡ Some c.in-Some.first.label
is_first g t c = sym c.first_child.ensures.is ∙ ap label c.in-Some.is

-- the children tell
kids : (g : _) (t : _) (c : In-Some g t) → all_effective (g.N.Nodes.trees c.args.nodes.now) c.args.range.0 c.args.range.1 (tree_of (g.N.Nodes.trees c.args.nodes.now) c.args.node.label) ≡ all_effective (g.N.Nodes.trees c.args.nodes.now) c.args.range.0 c.args.range.1 (siblings (g.N.Nodes.trees c.args.nodes.now) (Some c.in-Some.first.label))
kids g t c =
    let a = c.args in
    let law = c.valid.ensures in
    kids_effective (g.N.Nodes.trees a.nodes.now) a.range.0 a.range.1 law.distinct a.node.label (law.here a.node c.requires.node_held) c.is_touched.result c.is_touched.ensures c.if-is_touched.false c.is_cut.result c.is_cut.ensures c.if-is_cut.false (Some c.in-Some.first.label) (sym (is_first g t c)) refl

-- with the first in effect, the last of them tells
by_last : (g : _) (t : _) (c : In-Some g t) (last : ℕ) → last_of (g.N.Nodes.trees c.args.nodes.now) c.args.node.label ≡ Some last → all_effective (g.N.Nodes.trees c.args.nodes.now) c.args.range.0 c.args.range.1 (tree_of (g.N.Nodes.trees c.args.nodes.now) c.in-Some.first.label) ≡ true
    → all_effective (g.N.Nodes.trees c.args.nodes.now) c.args.range.0 c.args.range.1 (tree_of (g.N.Nodes.trees c.args.nodes.now) c.args.node.label) ≡ all_effective (g.N.Nodes.trees c.args.nodes.now) c.args.range.0 c.args.range.1 (tree_of (g.N.Nodes.trees c.args.nodes.now) last)
by_last g t c last is_last on =
    let a = c.args in
    kids g t c ∙ first_and_last c.valid.ensures a.range.0 a.range.1 c.requires.ordered c.requires.start_held c.requires.end_held a.node.label c.in-Some.first.label last (is_first g t c) is_last on

pub is_effective-requires : goal.is_effective-requires
is_effective-requires g t c κs within =
    let a = c.args in
    let law = c.valid.ensures in
    let held = rw c.in-Some.is at c.first_child.ensures.held in
    (omega (arith, c.decreases, first_smaller law a.range.0 a.range.1 c.requires.ordered c.requires.start_held c.requires.end_held a.node.label c.in-Some.first.label (is_first g t c) (law.here a.node c.requires.node_held)), (within, (held, (c.requires.start_held, (c.requires.end_held, c.requires.ordered)))))

pub returns-then-not-is_effective : goal.returns-then-not-is_effective
returns-then-not-is_effective g t c =
    let a = c.args in
    let law = c.valid.ensures in
    let some = (goal.at.returns-then-not-is_effective g t c).In-Some in
    let first = c.in-Some.first.label in
    sym (kids g t some ∙ begins_off law a.node.label a.range.0 a.range.1 c.requires.ordered first (parent_of-first (g.N.Nodes.trees a.nodes.now) law.distinct a.node.label first (is_first g t some)) (sym c.is_effective.ensures ∙ c.if-not-is_effective.true))

pub is_effective-requires-in-Some-last_child : goal.is_effective-requires-in-Some-last_child
is_effective-requires-in-Some-last_child g t c κs within =
    let a = c.args in
    let law = c.valid.ensures in
    let some = (goal.at.is_effective-requires-in-Some-last_child g t c).In-Some in
    let held = rw c.in-Some-last_child.is at c.last_child.ensures.held in
    (omega (arith, c.decreases, last_smaller law a.range.0 a.range.1 c.requires.ordered c.requires.start_held c.requires.end_held a.node.label c.in-Some.first.label c.in-Some-last_child.last.label (is_first g t some) (sym c.last_child.ensures.is ∙ ap label c.in-Some-last_child.is) (law.here a.node c.requires.node_held)), (within, (held, (c.requires.start_held, (c.requires.end_held, c.requires.ordered)))))

pub returns-in-Some-last_child : goal.returns-in-Some-last_child
returns-in-Some-last_child g t c =
    let some = (goal.at.returns-in-Some-last_child g t c).In-Some in
    c.is_effective-in-Some-last_child.ensures ∙ sym (by_last g t some c.in-Some-last_child.last.label (sym c.last_child.ensures.is ∙ ap label c.in-Some-last_child.is) (sym c.is_effective.ensures ∙ c.if-not-is_effective.false))

pub returns-in_default-last_child : goal.returns-in_default-last_child
returns-in_default-last_child g t c =
    let some = (goal.at.returns-in_default-last_child g t c).In-Some in
    let on = sym c.is_effective.ensures ∙ c.if-not-is_effective.false in
    let same : c.in-Some-last_child.last.label ≡ c.in-Some.first.label = omega (arith, c.if-last-first.false) in
    sym (by_last g t some c.in-Some.first.label (sym c.last_child.ensures.is ∙ ap label c.in-Some-last_child.is ∙ ap Some same) on ∙ on)

pub returns-in_default-last_child-2 : goal.returns-in_default-last_child-2
returns-in_default-last_child-2 g t c =
    let a = c.args in
    absurd (some_last c.valid.ensures a.range.0 a.range.1 c.requires.ordered c.requires.start_held c.requires.end_held a.node.label c.in-Some.first.label (is_first g t (goal.at.returns-in_default-last_child-2 g t c).In-Some) (sym c.last_child.ensures.is ∙ ap label c.in_default-last_child.is))
