use Rattle.std.proofs.Common.{sym, ap, ◌∙◌, subst}
use Rattle.css_value.specs.DeclarationMap.{declarations_of, IsStyle}
use Rattle.css_value.proofs.Entries.{back-unset_in}
use Rattle.css_value.proofs.Places.{distinct-unset}
use Rattle.css_value.proofs.declarations.Declarations.unset.Goals as goal

pub invariant_of-self : goal.invariant_of-self
invariant_of-self c =
    let list = declarations_of c.self.inside.list.items in
    subst IsStyle (c.in-Some.ensures.left ∙ sym (ap declarations_of c.remove.ensures.items))
    (back-unset_in list c.args.name.now c.self.invariant.0, distinct-unset list c.args.name.now c.self.invariant.1)
