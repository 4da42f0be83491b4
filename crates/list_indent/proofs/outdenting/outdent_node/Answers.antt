use Rattle.std.proofs.Common.{refl, sym, ◌∙◌}
use Rattle.list_indent.proofs.Keeping.{outdent_keeps}
use Rattle.list_indent.proofs.outdenting.outdent_node.Goals as goal

pub returns-then-keeps_place-clause-gives : goal.returns-then-keeps_place-clause-gives
returns-then-keeps_place-clause-gives c =
    (outdent_keeps c.args.doc.now.state c.args.node.label (sym c.keeps_place.ensures ∙ c.if-keeps_place.true), refl)
