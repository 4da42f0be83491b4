use Rattle.std.proofs.Common.{[], ◌∷◌, ◌++◌, append_assoc}
use Rattle.edit_doc.proofs.logged.mark_place.Goals as goal

pub returns-in-Some-clause-marked : goal.returns-in-Some-clause-marked
returns-in-Some-clause-marked c = rw c.in-Some.is (λ ls h.
    let ns = ls ++ c.args.node.label ∷ [] in
    let t = c.mark-in-Some.ensures.marked (ns ++ c.args.parent.label ∷ []) (c.mark-2.ensures.marked ns (c.mark.ensures.marked ls h)) in
    simp append_assoc at t)

pub returns-in-None-clause-marked : goal.returns-in-None-clause-marked
returns-in-None-clause-marked c = rw c.in-None.is (λ ls h.
    let ns = ls ++ c.args.node.label ∷ [] in
    let t = c.mark-2.ensures.marked ns (c.mark.ensures.marked ls h) in
    simp append_assoc at t)
