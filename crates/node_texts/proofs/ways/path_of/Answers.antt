use Rattle.std.proofs.Common.{◌≡◌, ◌++◌, ◌∷◌, [], Some, sym, ap, ◌∙◌, arith, append_assoc}
use Rattle.std.specs.Prelude.{reverse}
use Rattle.std.proofs.lemmas.List.{reverse-append}
use Rattle.node_styles.specs.DomModel.Places.{index_of}
use Rattle.node_styles.proofs.DomModel.Within.{depth_of-parent}
use Rattle.node_styles.specs.NodeArena.Held.{label}
use Rattle.page_write.specs.NodePaths.Paths.{path_of}
use Rattle.node_texts.proofs.Upward.{path_below, parent_inside, path_top, path_leads}
use Rattle.node_texts.proofs.ways.path_of.Goals as goal
use Rattle.node_texts.proofs.ways.path_of.Goals.{After-reverse}

pub loop-parent-smaller : goal.loop-parent-smaller
loop-parent-smaller g c =
    omega (arith, depth_of-parent (g.N.Nodes.trees c.args.nodes.now) c.loop-parent.at.label c.in-Some.parent.label c.valid.ensures.distinct (sym c.in-Some.ensures.is))

pub loop-parent-preserved : goal.loop-parent-preserved
loop-parent-preserved g c =
    let f = g.N.Nodes.trees c.args.nodes.now in
    let i = c.loop-parent.invariant in
    let up = sym c.in-Some.ensures.is in
    let at = c.loop-parent.at.label in
    let noted : reverse c.push.new.self.items ≡ index_of f at ∷ reverse c.loop-parent.path.items =
    ap reverse c.in_ok-push.ensures.items ∙ reverse-append c.loop-parent.path.items (c.index.result ∷ []) ∙ ap (λ n. n ∷ reverse c.loop-parent.path.items) c.index.ensures in
    record {
      held = c.in-Some.ensures.held;
      inner = parent_inside c.valid.ensures at c.in-Some.parent.label up i.inner;
      way = λ above is.
          i.way (above ++ (index_of f at ∷ [])) (path_below c.valid.ensures at c.in-Some.parent.label up i.inner above is)
          ∙ ap Some (append_assoc above (index_of f at ∷ []) (reverse c.loop-parent.path.items) ∙ ap (λ xs. above ++ xs) (sym noted));
    }

-- the path that was noted from its end on
whole : (g : _) (c : After-reverse g) → path_of (g.N.Nodes.trees c.args.nodes.now) c.args.node.label ≡ Some c.reverse.new.self.items
whole g c =
    let i = c.loop-parent.invariant in
    let root = sym c.parent.ensures.is ∙ ap label c.in_default.is in
    i.way [] (path_top c.valid.ensures c.loop-parent.at.label root i.inner) ∙ ap Some (sym c.reverse.ensures.items)

pub returns-clause-path : goal.returns-clause-path
returns-clause-path g c = whole g c

pub returns-clause-leads : goal.returns-clause-leads
returns-clause-leads g c = path_leads (g.N.Nodes.trees c.args.nodes.now) c.args.node.label c.reverse.new.self.items (whole g c)
