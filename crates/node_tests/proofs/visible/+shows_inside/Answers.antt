use Rattle.std.proofs.Common.{◌||◌, refl, sym, ap, ◌∙◌, arith}
use Rattle.node_styles.specs.DomModel.Forest.{next_of}
use Rattle.node_styles.specs.NodeArena.Held.{label}
use Rattle.node_tests.specs.Visible.{shows_in}
use Rattle.node_tests.specs.Listing.{siblings}
use Rattle.node_tests.proofs.Kids.{first_kid, next_kid, next_smaller, tree_smaller}
use Rattle.node_tests.proofs.Showing.{boxless_hides, node_shows, kids_show, next_shows}
use Rattle.node_tests.proofs.visible.+shows_inside.Goals as goal

pub returns-then-has_no_box : goal.returns-then-has_no_box
returns-then-has_no_box g t c =
    let law = c.valid.ensures in
    boxless_hides (g.N.Nodes.trees c.args.nodes.now) law.distinct c.args.node.label (law.here c.args.node c.requires) c.has_no_box.result c.has_no_box.ensures c.if-has_no_box.true

pub returns-then-shows : goal.returns-then-shows
returns-then-shows g t c =
    let law = c.valid.ensures in
    node_shows (g.N.Nodes.trees c.args.nodes.now) law.distinct c.args.node.label (law.here c.args.node c.requires) c.has_no_box.result c.has_no_box.ensures c.shows.result c.shows.ensures c.if-has_no_box.false c.if-shows.true

pub loop-child-init : goal.loop-child-init
loop-child-init g t c =
    let law = c.valid.ensures in
    record {
      kid = first_kid law c.args.node c.first_child-child.result c.requires c.first_child-child.ensures;
      same = kids_show (g.N.Nodes.trees c.args.nodes.now) law.distinct c.args.node.label (law.here c.args.node c.requires) c.has_no_box.result c.has_no_box.ensures c.shows.result c.shows.ensures c.if-has_no_box.false (label c.first_child-child.result) c.if-shows.false c.first_child-child.ensures.is;
    }

pub shows_inside-requires : goal.shows_inside-requires
shows_inside-requires g t c κs within =
    let kid = rw c.in-Some.is at c.loop-child.invariant.kid in
    (omega (arith, c.decreases, tree_smaller c.valid.ensures c.args.node.label c.in-Some.at kid), (within, kid.held))

pub returns-then-shows_inside : goal.returns-then-shows_inside
returns-then-shows_inside g t c =
    let f = (g.N.Nodes.trees c.args.nodes.now) in
    let law = c.valid.ensures in
    let kid = rw c.in-Some.is at c.loop-child.invariant.kid in
    let same = rw c.in-Some.is at c.loop-child.invariant.same in
    let k = c.in-Some.at.label in
    sym (same ∙ next_shows f law.distinct k c.args.node.label kid.under (next_of f k) refl c.shows_inside.result c.shows_inside.ensures ∙ ap (λ b. b || shows_in f (siblings f (next_of f k))) c.if-shows_inside.true)

pub next-child-requires : goal.next-child-requires
next-child-requires g t c = let kid = rw c.in-Some.is at c.loop-child.invariant.kid in kid.held

pub loop-child-smaller : goal.loop-child-smaller
loop-child-smaller g t c =
    let kid = rw c.in-Some.is at c.loop-child.invariant.kid in
    rw c.in-Some.is (next_smaller c.valid.ensures c.args.node.label c.in-Some.at kid c.next-child.result c.next-child.ensures)

pub loop-child-preserved : goal.loop-child-preserved
loop-child-preserved g t c =
    let f = (g.N.Nodes.trees c.args.nodes.now) in
    let law = c.valid.ensures in
    let kid = rw c.in-Some.is at c.loop-child.invariant.kid in
    let same = rw c.in-Some.is at c.loop-child.invariant.same in
    let k = c.in-Some.at.label in
    record {
      kid = next_kid law c.args.node.label c.in-Some.at kid c.next-child.result c.next-child.ensures;
      same =
          same
          ∙ next_shows f law.distinct k c.args.node.label kid.under (label c.next-child.result) c.next-child.ensures.is c.shows_inside.result c.shows_inside.ensures
          ∙ ap (λ b. b || shows_in f (siblings f (label c.next-child.result))) c.if-shows_inside.false;
    }

pub returns : goal.returns
returns g t c = sym (rw c.in_default.is at c.loop-child.invariant.same)
