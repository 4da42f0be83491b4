use Rattle.std.proofs.Common.{◌≡◌, ◌++◌, sym, ap, ◌∙◌, subst, arith, append-nil}
use Rattle.std.specs.Prelude.{map}
use Rattle.std.specs.List.{All}
use Rattle.std.proofs.lemmas.Bool.{and_parts}
use Rattle.node_styles.specs.NodeArena.Held.{label}
use Rattle.node_tests.specs.Listing.{is_wanted, Lies, Lined}
use Rattle.node_tests.proofs.Gathered.{all_inserted, child_lies, ended, every_effective, every_listed, flag_init, flag_next, flag_stop, from_first, inserted, left_out, listed_above, longer, none_kid, none_left, reached_kid, stands_first, stands_next, stands_none, stop_is}
use Rattle.node_tests.proofs.Line.{cut_is, inner_lined}
use Rattle.node_tests.proofs.Kids.{next_kid, next_smaller, tree_smaller}
use Rattle.node_tests.proofs.Wanting.{listed_next}
use Rattle.node_tests.proofs.listing.+push_tree.Goals as goal
use Rattle.node_tests.proofs.listing.+push_tree.Goals.{After-is_listed}

pub returns-then-lies_between-clause-nodes : goal.returns-then-lies_between-clause-nodes
returns-then-lies_between-clause-nodes g t c =
    let f = g.N.Nodes.trees c.args.nodes.now in
    let law = c.valid.ensures in
    let k = c.args.node.label in
    let both = and_parts c.args.sides.after c.args.sides.before (sym c.lies_between.ensures ∙ c.if-lies_between.true) in
    c.in_ok-push_all.ensures.nodes
    ∙ ap (λ xs. map (λ r. r.label) c.args.found.now.items ++ xs) (sym (every_listed law c.args.range.0 c.args.range.1 c.requires.ordered k (law.here c.args.node c.requires.node_held) (c.requires.sides.after both.0) (c.requires.sides.before both.1) c.args.wanted))

pub returns-then-lies_between-clause-effective : goal.returns-then-lies_between-clause-effective
returns-then-lies_between-clause-effective g t c =
    let law = c.valid.ensures in
    let both = and_parts c.args.sides.after c.args.sides.before (sym c.lies_between.ensures ∙ c.if-lies_between.true) in
    every_effective law c.args.range.0 c.args.range.1 c.requires.ordered c.args.node.label (law.here c.args.node c.requires.node_held) (c.requires.sides.after both.0) (c.requires.sides.before both.1)

pub loop-child-init : goal.loop-child-init
loop-child-init g t c =
    let f = g.N.Nodes.trees c.args.nodes.now in
    let law = c.valid.ensures in
    let top = c.args.node.label in
    let from = c.start_reach-start.result in
    let reaches = c.start_reach-start.ensures.reaches in
    record {
      kid = reached_kid law top (law.here c.args.node c.requires.node_held) from.child reaches.held reaches.under;
      stands = stands_first law c.args.range.0 c.args.range.1 top c.args.sides c.requires.sides c.requires.ordered from c.end_reach-end.result c.first_after-stop.result reaches c.start_reach-start.ensures.first c.first_after-stop.ensures;
      held = c.requires.found_held;
      listed = ap (λ xs. map (λ r. r.label) c.args.found.now.items ++ xs) (from_first law top c.args.range.0 c.args.range.1 c.args.wanted from.child reaches.under (λ k child ahead. (reaches.before k child ahead).0));
      flag = flag_init law top c.args.range.0 c.args.range.1 c.requires.ordered c.first_child-first.result from.child c.first_child-first.ensures.is reaches.under (λ k child ahead. (reaches.before k child ahead).0) c.is_same-whole.result c.is_same-whole.ensures.same c.is_same-whole.ensures.other;
    }

pub loop-child-smaller-then-is_at : goal.loop-child-smaller-then-is_at
loop-child-smaller-then-is_at g t c =
    let law = c.valid.ensures in
    let kid = rw c.in-Some.is at c.loop-child.invariant.kid in
    rw c.in-Some.is (ended law c.args.node.label (law.here c.args.node c.requires.node_held) c.in-Some.at.label kid.under)

pub loop-child-preserved-then-is_at : goal.loop-child-preserved-then-is_at
loop-child-preserved-then-is_at g t c =
    let f = g.N.Nodes.trees c.args.nodes.now in
    let law = c.valid.ensures in
    let top = c.args.node.label in
    let k = c.in-Some.at.label in
    let kid = rw c.in-Some.is at c.loop-child.invariant.kid in
    let listed = rw c.in-Some.is at c.loop-child.invariant.listed in
    let flag = rw c.in-Some.is at c.loop-child.invariant.flag in
    let ends = c.first_after-stop.ensures in
    let at = stop_is (label c.first_after-stop.result) k (sym c.is_at.ensures ∙ c.if-is_at.true) in
    record {
      kid = none_kid law top (law.here c.args.node c.requires.node_held);
      stands = stands_none f (label c.start_reach-start.result.child) (label c.first_after-stop.result);
      held = c.loop-child.invariant.held;
      listed = ap (λ xs. map (λ r. r.label) c.loop-child.found.items ++ xs) (sym (none_left law top c.args.range.0 c.args.range.1 c.args.wanted k kid.under (λ j child high. (ends.after j k child at high).0))) ∙ listed;
      flag = flag_stop law top c.args.range.0 c.args.range.1 c.requires.ordered k kid.under (ends.after k k kid.under at (omega arith)).0 c.loop-child.whole ∙ flag;
    }

pub push_tree-requires : goal.push_tree-requires
push_tree-requires g t c κs within =
    let f = g.N.Nodes.trees c.args.nodes.now in
    let law = c.valid.ensures in
    let kid = rw c.in-Some.is at c.loop-child.invariant.kid in
    let stands = rw c.in-Some.is at c.loop-child.invariant.stands in
    let lies : Lies f c.args.range.0 c.args.range.1 c.inner_sides-inner.result c.in-Some.at.label =
    child_lies law c.args.range.0 c.args.range.1 c.args.node.label c.in-Some.at.label kid.under c.start_reach-start.result c.end_reach-end.result c.first_after-stop.result c.start_reach-start.ensures.reaches c.end_reach-end.ensures.reaches c.first_after-stop.ensures stands (sym c.is_at.ensures ∙ c.if-is_at.false) c.inner_sides-inner.result c.inner_sides-inner.ensures.after c.inner_sides-inner.ensures.before in
    let lined : Lined (g.N.Nodes.holds c.args.nodes.now) f c.args.range.0 c.args.range.1 c.args.lines.now c.inner_sides-inner.result c.in-Some.at.label =
    inner_lined (g.N.Nodes.holds c.args.nodes.now) f c.args.range.0 c.args.range.1 c.args.lines.now c.args.sides c.in-Some.at.label c.start_reach-start.result c.end_reach-end.result c.deref.result.now c.deref-2.result.now c.deref.ensures.value c.deref-2.ensures.value c.start_reach-start.ensures.leads c.end_reach-end.ensures.leads c.inner_sides-inner.result c.inner_sides-inner.ensures.after c.inner_sides-inner.ensures.before c.inner_sides-inner.ensures.start_left c.inner_sides-inner.ensures.end_left in
    (omega (arith, c.decreases, tree_smaller law c.args.node.label c.in-Some.at kid), (within, (kid.held, (c.requires.start_held, (c.requires.end_held, (lies, (lined, (c.requires.start_cuts, (c.requires.end_cuts, (c.requires.ordered, c.loop-child.invariant.held))))))))))

pub loop-child-smaller : goal.loop-child-smaller
loop-child-smaller g t c =
    let kid = rw c.in-Some.is at c.loop-child.invariant.kid in
    rw c.in-Some.is (next_smaller c.valid.ensures c.args.node.label c.in-Some.at kid c.next-child.result c.next-child.ensures)

pub loop-child-preserved : goal.loop-child-preserved
loop-child-preserved g t c =
    let f = g.N.Nodes.trees c.args.nodes.now in
    let law = c.valid.ensures in
    let top = c.args.node.label in
    let start = c.args.range.0 in
    let end = c.args.range.1 in
    let k = c.in-Some.at.label in
    let kid = rw c.in-Some.is at c.loop-child.invariant.kid in
    let stands = rw c.in-Some.is at c.loop-child.invariant.stands in
    let listed = rw c.in-Some.is at c.loop-child.invariant.listed in
    let flag = rw c.in-Some.is at c.loop-child.invariant.flag in
    record {
      kid = next_kid law top c.in-Some.at kid c.next-child.result c.next-child.ensures;
      stands = stands_next law start end top k kid.under (label c.first_after-stop.result) (sym c.is_at.ensures ∙ c.if-is_at.false) c.first_after-stop.ensures.under (label c.start_reach-start.result.child) stands (label c.next-child.result) c.next-child.ensures.is;
      held = c.in_ok-is_effective.ensures.held;
      listed = listed_next (is_wanted c.args.wanted f start end) f law.distinct k top kid.under (label c.next-child.result) c.next-child.ensures.is _ _ _ listed c.in_ok-is_effective.ensures.nodes;
      flag = flag_next law top start end c.requires.ordered k kid.under (label c.next-child.result) c.next-child.ensures.is c.loop-child.whole c.in_ok-is_effective.is_effective c.in_ok-is_effective.ensures.effective ∙ flag;
    }

pub is_effective_above-effective-requires-clause-cut : goal.is_effective_above-effective-requires-clause-cut
is_effective_above-effective-requires-clause-cut g t c =
    c.is_cut_within-cut.ensures
    ∙ cut_is (g.N.Nodes.trees c.args.nodes.now) c.valid.ensures.distinct c.args.range.0 c.args.range.1 c.args.sides c.args.node.label c.requires.sides c.requires.start_held c.requires.end_held c.args.lines.now.start_cuts c.args.lines.now.end_cuts c.requires.start_cuts c.requires.end_cuts

pub put_at-requires : goal.put_at-requires
put_at-requires g t c =
    let listed = rw c.in_default.is at c.loop-child.invariant.listed in
    omega (arith, c.count-place.ensures, longer c.args.found.now.items c.loop-child.found.items _ (sym (append-nil _) ∙ listed))

-- whether the node is wanted
told : (g : _) (t : _) (c : After-is_listed g t) → is_wanted c.args.wanted (g.N.Nodes.trees c.args.nodes.now) c.args.range.0 c.args.range.1 c.args.node.label ≡ c.is_listed.result
told g t c =
    let k = c.args.node.label in
    sym (listed_above c.valid.ensures k c.args.range.0 c.args.range.1 c.requires.ordered c.args.wanted k c.is_contained_above-contained.result c.is_effective_above-effective.result c.is_contained_above-contained.ensures c.is_effective_above-effective.ensures) ∙ sym c.is_listed.ensures

pub returns-in_ok-put_at-clause-nodes : goal.returns-in_ok-put_at-clause-nodes
returns-in_ok-put_at-clause-nodes g t c =
    let f = g.N.Nodes.trees c.args.nodes.now in
    let law = c.valid.ensures in
    let listed = rw c.in_default.is at c.loop-child.invariant.listed in
    ap (map (λ r. r.label)) c.in_ok-put_at.ensures
    ∙ inserted (is_wanted c.args.wanted f c.args.range.0 c.args.range.1) f law.distinct c.args.node (law.here c.args.node c.requires.node_held) c.args.found.now.items c.loop-child.found.items c.count-place.result c.count-place.ensures (sym (append-nil _) ∙ listed) (told g t (goal.at.returns-in_ok-put_at-clause-nodes g t c).After-is_listed ∙ c.if-is_listed.true)

pub returns-in_ok-put_at-clause-held : goal.returns-in_ok-put_at-clause-held
returns-in_ok-put_at-clause-held g t c =
    subst (All (g.N.Nodes.holds c.args.nodes.now)) (sym c.in_ok-put_at.ensures) (all_inserted (g.N.Nodes.holds c.args.nodes.now) c.loop-child.found.items c.count-place.result c.args.node c.loop-child.invariant.held c.requires.node_held)

pub returns-else-is_listed-clause-nodes : goal.returns-else-is_listed-clause-nodes
returns-else-is_listed-clause-nodes g t c =
    let f = g.N.Nodes.trees c.args.nodes.now in
    let law = c.valid.ensures in
    let listed = rw c.in_default.is at c.loop-child.invariant.listed in
    left_out (is_wanted c.args.wanted f c.args.range.0 c.args.range.1) f law.distinct c.args.node (law.here c.args.node c.requires.node_held) c.args.found.now.items c.loop-child.found.items (sym (append-nil _) ∙ listed) (told g t (goal.at.returns-else-is_listed-clause-nodes g t c).After-is_listed ∙ c.if-is_listed.false)
