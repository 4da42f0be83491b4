use Rattle.std.proofs.Common.{◌≡◌, true, not, ◌||◌, ◌&&◌, refl, sym, ap, ◌∙◌, arith}
use Rattle.node_styles.specs.DomModel.Forest.{next_of}
use Rattle.node_styles.specs.NodeArena.Held.{label}
use Rattle.node_tests.specs.Visible.{is_visible}
use Rattle.node_tests.specs.BlockProps.{props_in}
use Rattle.node_tests.specs.Listing.{siblings}
use Rattle.node_tests.proofs.Kids.{first_kid, next_kid, next_smaller, tree_smaller}
use Rattle.node_tests.proofs.Propping.{break_is, not_inline, kids_are, stops, goes_on, fine_prop, fine_hidden, at_end}
use Rattle.node_tests.proofs.props.+is_block_prop.Goals as goal
use Rattle.node_tests.proofs.props.+is_block_prop.Goals.{then-not-prop+else-is_visible, else-not-prop}

pub returns-then-is_break_prop : goal.returns-then-is_break_prop
returns-then-is_break_prop g t c =
    let law = c.valid.ensures in
    break_is (g.N.Nodes.trees c.args.nodes.now) law.distinct c.args.node.label (law.here c.args.node c.requires) c.is_break_prop.result c.is_break_prop.ensures c.if-is_break_prop.true

pub returns-then-not-is_inline_element : goal.returns-then-not-is_inline_element
returns-then-not-is_inline_element g t c =
    let law = c.valid.ensures in
    not_inline (g.N.Nodes.trees c.args.nodes.now) law.distinct c.args.node.label (law.here c.args.node c.requires) c.is_break_prop.result c.is_break_prop.ensures c.is_inline_element.result c.is_inline_element.ensures c.if-is_break_prop.false c.if-not-is_inline_element.true

pub loop-child-init : goal.loop-child-init
loop-child-init g t c =
    let law = c.valid.ensures in
    record {
      kid = first_kid law c.args.node c.first_child-child.result c.requires c.first_child-child.ensures;
      same = kids_are (g.N.Nodes.trees c.args.nodes.now) law.distinct c.args.node.label (law.here c.args.node c.requires) c.is_break_prop.result c.is_break_prop.ensures c.is_inline_element.result c.is_inline_element.ensures c.if-is_break_prop.false (label c.first_child-child.result) c.if-not-is_inline_element.false c.first_child-child.ensures.is;
    }

pub is_block_prop-prop-requires : goal.is_block_prop-prop-requires
is_block_prop-prop-requires g t c κs within =
    let kid = rw c.in-Some.is at c.loop-child.invariant.kid in
    (omega (arith, c.decreases, tree_smaller c.valid.ensures c.args.node.label c.in-Some.at kid), (within, kid.held))

pub returns : goal.returns
returns g t c = let same = rw c.in_default.is at c.loop-child.invariant.same in sym (same ∙ at_end (g.N.Nodes.trees c.args.nodes.now) c.loop-child.found)

pub returns-then-is_visible : goal.returns-then-is_visible
returns-then-is_visible g t c =
    let f = (g.N.Nodes.trees c.args.nodes.now) in
    let law = c.valid.ensures in
    let kid = rw c.in-Some.is at c.loop-child.invariant.kid in
    let same = rw c.in-Some.is at c.loop-child.invariant.same in
    let k = c.in-Some.at.label in
    stops f law.distinct k c.args.node.label kid.under (next_of f k) refl c.loop-child.found c.is_block_prop-prop.result c.is_block_prop-prop.ensures c.is_visible.result c.is_visible.ensures c.if-is_visible.true c.if-not-prop.true
    ∙ sym same

pub next-child-requires : goal.next-child-requires
next-child-requires g t c = let kid = rw c.in-Some.is at c.loop-child.invariant.kid in kid.held

pub loop-child-smaller : goal.loop-child-smaller
loop-child-smaller g t c =
    let kid = rw c.in-Some.is at c.loop-child.invariant.kid in
    rw c.in-Some.is (next_smaller c.valid.ensures c.args.node.label c.in-Some.at kid c.next-child.result c.next-child.ensures)

pub loop-child-preserved : goal.loop-child-preserved
loop-child-preserved g t c =
    let f = (g.N.Nodes.trees c.args.nodes.now) in
    let law = c.valid.ensures in
    let kid = rw c.in-Some.is at c.loop-child.invariant.kid in
    let same = rw c.in-Some.is at c.loop-child.invariant.same in
    let k = c.in-Some.at.label in
    let p = c.args.node.label in
    let o = label c.next-child.result in
    let b = c.is_block_prop-prop.result in
    let own = c.is_block_prop-prop.ensures in
    let is = c.next-child.ensures.is in
    let fine : (not (is_visible f k) || b) ≡ true =
    elim c.if-not-prop.branch [
      | then-not-prop+else-is_visible w ↦ fine_hidden f law.distinct k p kid.under o is c.loop-child.found b own w.is_visible.result w.is_visible.ensures w.if-is_visible.false
      | else-not-prop w ↦ fine_prop f law.distinct k p kid.under o is c.loop-child.found b own w.if-not-prop.false
    ] in
    record {
      kid = next_kid law c.args.node.label c.in-Some.at kid c.next-child.result c.next-child.ensures;
      same =
          same
          ∙ goes_on f law.distinct k p kid.under o is c.loop-child.found b own fine
          ∙ ap (λ x. (props_in f (siblings f o)).every && (x || (props_in f (siblings f o)).some)) (sym c.either-found.ensures);
    }
