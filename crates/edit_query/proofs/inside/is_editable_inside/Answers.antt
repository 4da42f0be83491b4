use Rattle.std.proofs.Common.{sym, ap, ◌∙◌}
use Rattle.edit_model.specs.Gives.{label_of}
use Rattle.edit_query.proofs.Hosting.{editable_with, editable_without, inside_with}
use Rattle.edit_query.proofs.inside.is_editable_inside.Goals as goal

pub is_editable_within-requires-clause-known : goal.is_editable_within-requires-clause-known
is_editable_within-requires-clause-known c = λ on.
    let at = sym c.host.ensures.is ∙ ap label_of c.in-Some.is in
    sym (inside_with c.args.doc.now.state c.args.node.label c.in-Some.host.label at) ∙ c.requires.known on

pub returns-in-Some : goal.returns-in-Some
returns-in-Some c =
    let at = sym c.host.ensures.is ∙ ap label_of c.in-Some.is in
    c.is_editable_within.ensures ∙ sym (editable_with c.args.doc.now.state c.args.node.label c.in-Some.host.label at)

pub returns-in-None : goal.returns-in-None
returns-in-None c = sym (editable_without c.args.doc.now.state c.args.node.label (sym c.host.ensures.is ∙ ap label_of c.in-None.is))
