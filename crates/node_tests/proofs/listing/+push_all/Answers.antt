use Rattle.std.proofs.Common.{◌++◌, ◌∷◌, [], true, sym, ap, ◌∙◌, arith, append-nil}
use Rattle.std.proofs.lemmas.List.{map-append}
use Rattle.std.specs.Prelude.{map}
use Rattle.node_styles.specs.DomModel.Forest.{tree_of}
use Rattle.node_styles.specs.NodeArena.Held.{label}
use Rattle.node_tests.proofs.Gathered.{all_pushed, passed_whole}
use Rattle.node_tests.proofs.Kids.{first_kid, next_kid, next_smaller, tree_smaller}
use Rattle.node_tests.proofs.Wanting.{listed_init, listed_next}
use Rattle.node_tests.proofs.listing.+push_all.Goals as goal

pub loop-child-init : goal.loop-child-init
loop-child-init g t c =
    let f = g.N.Nodes.trees c.args.nodes.now in
    let law = c.valid.ensures in
    record {
      kid = first_kid law c.args.node c.first_child-child.result c.requires.node_held c.first_child-child.ensures;
      held = all_pushed (g.N.Nodes.holds c.args.nodes.now) _ _ _ c.in_ok-push.ensures.items c.requires.found_held c.requires.node_held;
      listed = listed_init (λ _. true) f law.distinct c.args.node.label (law.here c.args.node c.requires.node_held) (label c.first_child-child.result) c.first_child-child.ensures.is _ _ (ap (map (λ r. r.label)) c.in_ok-push.ensures.items ∙ map-append (λ r. r.label) c.args.found.now.items (c.args.node ∷ []));
    }

pub push_all-requires : goal.push_all-requires
push_all-requires g t c κs within =
    let kid = rw c.in-Some.is at c.loop-child.invariant.kid in
    (omega (arith, c.decreases, tree_smaller c.valid.ensures c.args.node.label c.in-Some.at kid), (within, (kid.held, c.loop-child.invariant.held)))

pub next-child-requires : goal.next-child-requires
next-child-requires g t c = let kid = rw c.in-Some.is at c.loop-child.invariant.kid in kid.held

pub loop-child-smaller : goal.loop-child-smaller
loop-child-smaller g t c =
    let kid = rw c.in-Some.is at c.loop-child.invariant.kid in
    rw c.in-Some.is (next_smaller c.valid.ensures c.args.node.label c.in-Some.at kid c.next-child.result c.next-child.ensures)

pub loop-child-preserved : goal.loop-child-preserved
loop-child-preserved g t c =
    let f = g.N.Nodes.trees c.args.nodes.now in
    let law = c.valid.ensures in
    let k = c.in-Some.at.label in
    let kid = rw c.in-Some.is at c.loop-child.invariant.kid in
    let listed = rw c.in-Some.is at c.loop-child.invariant.listed in
    record {
      kid = next_kid law c.args.node.label c.in-Some.at kid c.next-child.result c.next-child.ensures;
      held = c.in_ok-push_all.ensures.held;
      listed = listed_next (λ _. true) f law.distinct k c.args.node.label kid.under (label c.next-child.result) c.next-child.ensures.is _ _ _ listed
          (c.in_ok-push_all.ensures.nodes ∙ ap (λ xs. map (λ r. r.label) c.loop-child.found.items ++ xs) (sym (passed_whole (tree_of f k))));
    }

pub returns-clause-nodes : goal.returns-clause-nodes
returns-clause-nodes g t c =
    let listed = rw c.in_default.is at c.loop-child.invariant.listed in
    sym (append-nil _) ∙ listed ∙ ap (λ xs. map (λ r. r.label) c.args.found.now.items ++ xs) (passed_whole (tree_of (g.N.Nodes.trees c.args.nodes.now) c.args.node.label))

pub returns-clause-held : goal.returns-clause-held
returns-clause-held g t c = c.loop-child.invariant.held
