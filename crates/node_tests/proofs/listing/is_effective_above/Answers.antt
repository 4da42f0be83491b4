use Rattle.std.proofs.Common.{◌||◌, refl, sym, ap, ◌∙◌}
use Rattle.node_styles.specs.NodeArena.Held.{label}
use Rattle.node_tests.specs.Ranges.{is_partial}
use Rattle.node_tests.proofs.Effective.{touched_by, touched_effective, cut_ineffective, childless_ineffective, kids_effective}
use Rattle.node_tests.proofs.listing.is_effective_above.Goals as goal

pub returns-then-contained : goal.returns-then-contained
returns-then-contained g c =
    let law = c.valid.ensures in
    let l = c.args.node.label in
    let part = is_partial (g.N.Nodes.trees c.args.nodes.now) c.args.range.0 c.args.range.1 l in
    touched_effective (g.N.Nodes.trees c.args.nodes.now) c.args.range.0 c.args.range.1 law.distinct l (law.here c.args.node c.requires.node_held) (c.args.contained || part) (touched_by (g.N.Nodes.trees c.args.nodes.now) c.args.range.0 c.args.range.1 l c.args.contained part c.requires.contained refl) (ap (λ v. v || part) c.if-contained.true)

pub returns-then-is_partial : goal.returns-then-is_partial
returns-then-is_partial g c =
    let law = c.valid.ensures in
    let l = c.args.node.label in
    touched_effective (g.N.Nodes.trees c.args.nodes.now) c.args.range.0 c.args.range.1 law.distinct l (law.here c.args.node c.requires.node_held) (c.args.contained || c.is_partial.result) (touched_by (g.N.Nodes.trees c.args.nodes.now) c.args.range.0 c.args.range.1 l c.args.contained c.is_partial.result c.requires.contained c.is_partial.ensures) (ap (λ v. v || c.is_partial.result) c.if-contained.false ∙ c.if-is_partial.true)

pub returns-then-cut : goal.returns-then-cut
returns-then-cut g c =
    let law = c.valid.ensures in
    let l = c.args.node.label in
    cut_ineffective (g.N.Nodes.trees c.args.nodes.now) c.args.range.0 c.args.range.1 law.distinct l (law.here c.args.node c.requires.node_held) (c.args.contained || c.is_partial.result) (touched_by (g.N.Nodes.trees c.args.nodes.now) c.args.range.0 c.args.range.1 l c.args.contained c.is_partial.result c.requires.contained c.is_partial.ensures) (ap (λ v. v || c.is_partial.result) c.if-contained.false ∙ c.if-is_partial.false) c.args.cut c.requires.cut c.if-cut.true

pub returns-then-is_nothing : goal.returns-then-is_nothing
returns-then-is_nothing g c =
    let law = c.valid.ensures in
    let l = c.args.node.label in
    childless_ineffective (g.N.Nodes.trees c.args.nodes.now) c.args.range.0 c.args.range.1 law.distinct l (law.here c.args.node c.requires.node_held) (c.args.contained || c.is_partial.result) (touched_by (g.N.Nodes.trees c.args.nodes.now) c.args.range.0 c.args.range.1 l c.args.contained c.is_partial.result c.requires.contained c.is_partial.ensures) (ap (λ v. v || c.is_partial.result) c.if-contained.false ∙ c.if-is_partial.false) c.args.cut c.requires.cut c.if-cut.false (label c.args.first) c.requires.first (sym c.is_nothing.ensures ∙ c.if-is_nothing.true)

pub returns : goal.returns
returns g c =
    let law = c.valid.ensures in
    let l = c.args.node.label in
    c.requires.whole
    ∙ sym (kids_effective (g.N.Nodes.trees c.args.nodes.now) c.args.range.0 c.args.range.1 law.distinct l (law.here c.args.node c.requires.node_held) (c.args.contained || c.is_partial.result) (touched_by (g.N.Nodes.trees c.args.nodes.now) c.args.range.0 c.args.range.1 l c.args.contained c.is_partial.result c.requires.contained c.is_partial.ensures) (ap (λ v. v || c.is_partial.result) c.if-contained.false ∙ c.if-is_partial.false) c.args.cut c.requires.cut c.if-cut.false (label c.args.first) c.requires.first (sym c.is_nothing.ensures ∙ c.if-is_nothing.false))
