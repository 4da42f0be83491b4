use Rattle.std.proofs.Common.{◌≡◌, false, true≢false, eqb, sym, subst, ◌∙◌, refl, arith}
use Rattle.edit_model.specs.DomModel.Forest.{count_of}
use Rattle.edit_doc.specs.Held.{Holds}
use Rattle.edit_doc.proofs.NewlyDetached.{newly_detached_held, document_node_held, none_seen, absent_seen}
use Rattle.edit_doc.proofs.Doc.find.Goals as goal
use Rattle.edit_doc.proofs.Doc.find.Goals.{then-root-eq0, else-root-eq0}

pub returns-in_err-node-clause-absent : goal.returns-in_err-node-clause-absent
returns-in_err-node-clause-absent c = (λ _. absent_seen c.self.inside c.valid.ensures c.self.invariant _ c.self.view_is c.args.label (c.in_err-node.ensures.absent.0 refl), λ _. c.from_residual.ensures)

held : (c : goal.Then-has_newly_detached) → Holds c.args.self.now c.in_ok-node.node
held c = elim c.if-root-eq0.branch [
  | then-root-eq0 w ↦ document_node_held c.self.inside c.valid.ensures c.self.invariant _ c.self.view_is c.in_ok-node.node c.root_of-root.result c.in_ok-node.ensures.found.1 c.root_of-root.ensures.held c.root_of-root.ensures.root c.root_of-root.ensures.within w.if-root-eq0.true
  | else-root-eq0 w ↦ newly_detached_held c.self.inside c.valid.ensures c.self.invariant _ c.self.view_is c.in_ok-node.node c.root_of-root.result c.in_ok-node.ensures.found.1 c.root_of-root.ensures.held c.root_of-root.ensures.root c.root_of-root.ensures.within (sym w.has_newly_detached.ensures ∙ (sym w.value-is ∙ c.if-has_newly_detached.true))
]

pub returns-then-has_newly_detached-clause-found : goal.returns-then-has_newly_detached-clause-found
returns-then-has_newly_detached-clause-found c = (c.in_ok-node.ensures.found.0, held c)

pub returns-then-has_newly_detached-clause-absent : goal.returns-then-has_newly_detached-clause-absent
returns-then-has_newly_detached-clause-absent c = (λ e. absurd (cc), λ none. absurd (let h = (held c).here in let e = c.in_ok-node.ensures.found.0 in let none' = rw (sym e) at none in omega (arith, h, none')))

pub returns-else-has_newly_detached-clause-absent : goal.returns-else-has_newly_detached-clause-absent
returns-else-has_newly_detached-clause-absent c = (
  λ _. elim c.if-root-eq0.branch [
    | then-root-eq0 w ↦ absurd (true≢false (subst (λ n. eqb n 0 ≡ false) w.if-root-eq0.true (sym w.value-is ∙ c.if-has_newly_detached.false)))
    | else-root-eq0 w ↦ subst (λ l. count_of c.args.self.now.state.trees l ≡ 0) c.in_ok-node.ensures.found.0 (none_seen c.self.inside c.valid.ensures c.self.invariant _ c.self.view_is c.in_ok-node.node c.root_of-root.result c.in_ok-node.ensures.found.1 c.root_of-root.ensures.held c.root_of-root.ensures.root c.root_of-root.ensures.within w.if-root-eq0.false (sym w.has_newly_detached.ensures ∙ (sym w.value-is ∙ c.if-has_newly_detached.false)))
  ],
  λ _. refl,
)
