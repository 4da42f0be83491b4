use Rattle.std.proofs.Common.{◌≡◌, ◌<◌, ◌++◌, ◌∷◌, [], Some, None, sym, ap, ◌∙◌, arith, append_assoc, reverse}
use Rattle.std.specs.Prelude.{filter}
use Rattle.std.proofs.lemmas.List.Elements.{filter-append}
use Rattle.edit_model.specs.DomModel.Forest.{parent_of, depth_of}
use Rattle.edit_model.proofs.DomModel.Parts.{at_label}
use Rattle.edit_model.proofs.DomModel.Within.{depth_of-parent}
use Rattle.inline_value.specs.NodeStyles.Lineage.{lineage}
use Rattle.inline_value.proofs.NodeStyles.Lineages.{lineage-child, lineage-root}
use Rattle.edit_model.specs.Gives.{label_of}
use Rattle.inline_commands.specs.Unlink.{is_link}
use Rattle.inline_commands.proofs.Ancestors.{labels, reverse-cons}
use Rattle.inline_commands.proofs.links.+push_above.Goals as goal

pub push_above-requires : goal.push_above-requires
push_above-requires t c =
    let f = c.args.doc.now.state.trees in
    let up : parent_of f c.args.node.label ≡ Some c.in-Some.parent.label = sym c.parent.ensures.is ∙ ap label_of c.in-Some.is in
    let deep = depth_of-parent f c.args.node.label c.in-Some.parent.label c.valid.ensures.valid.forest.distinct up in
    let whole = c.decreases in
    let smaller : depth_of f c.in-Some.parent.label < t = omega (arith, deep, whole) in
    (smaller, (rw c.in-Some.is at c.parent.ensures.held, c.requires.each_held))

pub returns-in-None-clause-ok : goal.returns-in-None-clause-ok
returns-in-None-clause-ok t c =
    let f = c.args.doc.now.state.trees in
    let once = c.valid.ensures.valid.forest.distinct in
    let at = at_label f once c.args.node.label c.requires.node_held.here in
    let root : parent_of f c.args.node.label ≡ None = sym c.parent.ensures.is ∙ ap label_of c.in-None.is in
    rw (lineage-root f once c.args.node.label at.content c.requires.node_held.here root at.content_is) c.push_if_link.ensures.ok

pub returns-in_ok-push_above-in-Some-clause-ok : goal.returns-in_ok-push_above-in-Some-clause-ok
returns-in_ok-push_above-in-Some-clause-ok t c =
    let f = c.args.doc.now.state.trees in
    let once = c.valid.ensures.valid.forest.distinct in
    let n = c.args.node.label in
    let p = c.in-Some.parent.label in
    let at = at_label f once n c.requires.node_held.here in
    let up : parent_of f n ≡ Some p = sym c.parent.ensures.is ∙ ap label_of c.in-Some.is in
    let line : filter (is_link f) (reverse (labels (lineage f n))) ≡ filter (is_link f) (reverse (labels (lineage f p))) ++ filter (is_link f) (n ∷ []) =
    ap (λ ks. filter (is_link f) (reverse (labels ks))) (lineage-child f once n p at.content up at.content_is) ∙ (ap (filter (is_link f)) (reverse-cons n (labels (lineage f p))) ∙ filter-append (is_link f) (reverse (labels (lineage f p))) (n ∷ [])) in
    let e = c.in_ok-push_above-in-Some.ensures.ok in
    rw (line, ← (append_assoc _ _ _), ← e) c.push_if_link-in-Some.ensures.ok
