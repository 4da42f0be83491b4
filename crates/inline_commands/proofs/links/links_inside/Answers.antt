use Rattle.std.proofs.Common.{◌≡◌, ℕ, List, true, false, IfOk, sym, ap, subst, ◌∙◌}
use Rattle.std.specs.Prelude.{filter}
use Rattle.edit_model.specs.PointOrder.PointOrder.{is_before}
use Rattle.edit_model.specs.Gives.{labels_of}
use Rattle.inline_value.proofs.EditQuery.Lists.{labels_mapped}
use Rattle.inline_commands.specs.Merging.{links_inside}
use Rattle.inline_commands.specs.Unlink.{is_link}
use Rattle.inline_commands.proofs.links.links_inside.Goals as goal

pub returns-then-not-comes_before-clause-links : goal.returns-then-not-comes_before-clause-links
returns-then-not-comes_before-clause-links c =
    let f = c.args.doc.now.state.trees in
    let off : is_before f c.args.range.0 c.args.range.1 ≡ false = sym c.comes_before.ensures ∙ c.if-not-comes_before.true in
    rw off (ap labels_of c.new.ensures.items)

pub returns-clause-links : goal.returns-clause-links
returns-clause-links c =
    let f = c.args.doc.now.state.trees in
    let on : is_before f c.args.range.0 c.args.range.1 ≡ true = sym c.comes_before.ensures ∙ c.if-not-comes_before.false in
    let found : filter (is_link f) (labels_of c.as_slice.result.now) ≡ links_inside f c.args.range.0 c.args.range.1 =
    rw on (ap (filter (is_link f)) (ap labels_of c.as_slice.ensures ∙ sym (labels_mapped _) ∙ c.in_ok-contained.ensures.nodes)) in
    subst (λ (xs : List ℕ). IfOk c.links_among.result (λ list. labels_of list.items ≡ xs)) found c.links_among.ensures.links
