use Rattle.std.proofs.Common.{◌≡◌, ◌++◌, true, false, sym, ap, ◌∙◌, subst}
use Rattle.std.specs.Prelude.{map}
use Rattle.node_styles.specs.DomModel.Forest.{IsWithin, tree_of}
use Rattle.node_tests.specs.Listing.{is_wanted}
use Rattle.node_tests.proofs.Above.{none_wanted}
use Rattle.node_tests.proofs.Elsewhere.{all_wanted, end_inside}
use Rattle.node_tests.proofs.Wanting.{passed}
use Rattle.node_tests.proofs.listing.wanted_nodes.Goals as goal

pub line_to-requires-2-clause-inside : goal.line_to-requires-2-clause-inside
line_to-requires-2-clause-inside g c =
    let f = g.N.Nodes.trees c.args.nodes.now in
    let law = c.valid.ensures in
    let root = c.root_of-root.result in
    let inside : IsWithin f root.label c.args.range.0.label = subst (λ k. IsWithin f root.label k) c.node_of-start.ensures.label c.root_of-root.ensures.within in
    let ordered = sym c.comes_before.ensures ∙ c.if-not-comes_before.false in
    subst (λ k. IsWithin f root.label k) (sym c.node_of-end.ensures.label)
    (end_inside f law.distinct root.label (law.here root c.root_of-root.ensures.held) c.root_of-root.ensures.root c.args.range.0 c.args.range.1 inside c.requires.end_held ordered)

pub push_tree-requires-clause-sides : goal.push_tree-requires-clause-sides
push_tree-requires-clause-sides g c =
    let f = g.N.Nodes.trees c.args.nodes.now in
    let law = c.valid.ensures in
    let root = c.root_of-root.result in
    let inside : IsWithin f root.label c.args.range.0.label = subst (λ k. IsWithin f root.label k) c.node_of-start.ensures.label c.root_of-root.ensures.within in
    let ordered = sym c.comes_before.ensures ∙ c.if-not-comes_before.false in
    record {
      after = λ on. absurd (let t : true ≡ false = sym on ∙ c.root_sides-sides.ensures.after in cc);
      before = λ on. absurd (let t : true ≡ false = sym on ∙ c.root_sides-sides.ensures.before in cc);
      starts = λ _. inside;
      ends = λ _. end_inside f law.distinct root.label (law.here root c.root_of-root.ensures.held) c.root_of-root.ensures.root c.args.range.0 c.args.range.1 inside c.requires.end_held ordered;
    }

pub returns-clause-nodes : goal.returns-clause-nodes
returns-clause-nodes g c =
    let f = (g.N.Nodes.trees c.args.nodes.now) in
    let law = c.valid.ensures in
    let root = c.root_of-root.result in
    let test = is_wanted c.args.wanted f c.args.range.0 c.args.range.1 in
    let inside : IsWithin f root.label c.args.range.0.label = subst (λ k. IsWithin f root.label k) c.node_of-start.ensures.label c.root_of-root.ensures.within in
    ap (map (λ r. r.label)) c.from_vec-2.ensures
    ∙ c.in_ok-push_tree.ensures.nodes
    ∙ ap (λ xs. map (λ r. r.label) xs ++ passed test (tree_of f root.label)) c.new-found.ensures.items
    ∙ all_wanted f law.distinct root.label (law.here root c.root_of-root.ensures.held) c.root_of-root.ensures.root c.args.range.0 c.args.range.1 inside c.args.wanted c.requires.end_held

pub returns-then-not-comes_before-clause-nodes : goal.returns-then-not-comes_before-clause-nodes
returns-then-not-comes_before-clause-nodes g c =
    ap (map (λ r. r.label)) (c.from_vec.ensures ∙ c.new-found.ensures.items)
    ∙ none_wanted c.valid.ensures c.args.range.0 c.args.range.1 (sym c.comes_before.ensures ∙ c.if-not-comes_before.true) c.requires.start_held c.requires.end_held c.args.wanted
