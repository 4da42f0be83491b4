use Rattle.std.proofs.Common.{◌≡◌, ◌++◌, not, sym, ap, ◌∙◌}
use Rattle.std.specs.Prelude.{filter}
use Rattle.edit_model.specs.Gives.{labels_of}
use Rattle.inline_value.specs.EditActions.ActiveRange.{start_of, end_of}
use Rattle.inline_value.proofs.EditActions.Placed.{placed_inside, placed_here}
use Rattle.edit_model.specs.PointOrder.PointOrder.{is_ancestor}
use Rattle.inline_commands.specs.Merging.{links_above, links_inside, merged}
use Rattle.inline_commands.specs.Unlink.{links_in}
use Rattle.inline_commands.proofs.Touched.{InOrder, ends_ordered, links_found}
use Rattle.inline_commands.proofs.links.links_of.Goals as goal

pub returns-clause-links : goal.returns-clause-links
returns-clause-links c =
    let s = c.args.doc.now.state in
    let f = s.trees in
    let ends = c.ends_of.ensures in
    let start = c.ends_of.result.0 in
    let end = c.ends_of.result.1 in
    let ordered : InOrder f start end = rw (ends.start, ends.end) (ends_ordered f c.args.pair) in
    let whole = links_found f s.next c.valid.ensures.valid.forest start end ordered
    (placed_inside f start ends.start_placed) (placed_inside f end ends.end_placed) (placed_here f start ends.start_placed) (placed_here f end ends.end_placed) in
    let around_start : labels_of c.in_ok-list.list.items ≡ links_above f start.label = c.in_ok-list.ensures.links ∙ ap (links_above f) c.node_of-first.ensures.label in
    let beside : labels_of c.deref.result.now ≡ filter (λ l. not (is_ancestor f l start.label)) (links_above f end.label) =
    ap labels_of c.deref.ensures.value
    ∙ (c.in_ok-beside.ensures.links
    ∙ (ap (λ n. filter (λ l. not (is_ancestor f l n)) (links_above f c.node_of.result.label)) c.node_of-first.ensures.label
    ∙ ap (λ n. filter (λ l. not (is_ancestor f l start.label)) (links_above f n)) c.node_of.ensures.label)) in
    let inside : labels_of c.deref-2.result.now ≡ links_inside f start end = ap labels_of c.deref-2.ensures.value ∙ c.in_ok-inside.ensures.links in
    c.in_ok-push_merged.ensures.ok
    ∙ (ap (λ xs. xs ++ merged f (labels_of c.deref.result.now) (labels_of c.deref-2.result.now)) around_start
    ∙ (ap (λ xs. links_above f start.label ++ merged f xs (labels_of c.deref-2.result.now)) beside
    ∙ (ap (λ xs. links_above f start.label ++ merged f (filter (λ l. not (is_ancestor f l start.label)) (links_above f end.label)) xs) inside
    ∙ (whole ∙ (ap (λ p. links_in f p end) ends.start ∙ ap (λ p. links_in f (start_of f c.args.pair) p) ends.end)))))
