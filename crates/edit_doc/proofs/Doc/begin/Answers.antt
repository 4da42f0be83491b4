use Rattle.std.proofs.Common.{◌∙◌, ap, subst, sym}
use Rattle.edit_doc.specs.Whole.{Whole, opened}
use Rattle.edit_doc.specs.Held.{IfHeld}
use Rattle.edit_model.specs.Gives.{label_of}
use Rattle.edit_doc.proofs.Inner.{closed_of}
use Rattle.edit_doc.proofs.Begins.{begin_ok, begin_is}
use Rattle.edit_doc.proofs.Doc.begin.Goals as goal

pub invariant_of-self : goal.invariant_of-self
invariant_of-self c =
    let closed = closed_of c.self.inside _ c.self.view_is c.requires.closed in
    rw c.begin.ensures (begin_ok c.self.inside c.valid.ensures closed c.self.invariant c.in_ok-kept.kept c.args.host c.args.keeping c.in_ok-kept.ensures (subst (λ (w : Whole). IfHeld w c.args.host) (sym c.self.view_is) c.requires.host_held))

pub returns-clause-begun : goal.returns-clause-begun
returns-clause-begun c =
    let closed = closed_of c.self.inside _ c.self.view_is c.requires.closed in
    rw c.begin.ensures (begin_is c.self.inside c.valid.ensures closed c.self.invariant c.in_ok-kept.kept c.args.host c.args.keeping c.in_ok-kept.ensures ∙ ap (opened (label_of c.args.host) c.args.keeping _) c.self.view_is)
