use Rattle.std.proofs.Common.{◌≡◌, ℕ, List, IfOk, ap, subst, ◌∙◌}
use Rattle.edit_model.specs.Gives.{labels_of}
use Rattle.inline_commands.specs.Linking.{links_around}
use Rattle.inline_commands.specs.Merging.{links_over}
use Rattle.inline_commands.proofs.Around.{links_are}
use Rattle.inline_commands.proofs.links.links_around.Goals as goal

pub returns-clause-links : goal.returns-clause-links
returns-clause-links c =
    let s = c.args.doc.now.state in
    let whole : links_over s.trees 0 (labels_of c.as_slice.result.now) ≡ links_around s =
    ap (links_over s.trees 0) (ap labels_of c.as_slice.ensures ∙ c.in_ok-list.ensures.nodes) ∙ links_are s c.valid.ensures.valid in
    subst (λ (xs : List ℕ). IfOk c.links_over.result (λ list. labels_of list.items ≡ xs)) whole c.links_over.ensures.links
