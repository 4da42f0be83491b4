use Rattle.std.proofs.Common.{◌≡◌, drop, Some, sym, ap, subst, ◌∙◌, arith}
use Rattle.std.specs.Prelude.{IsSome}
use Rattle.edit_model.specs.DomModel.Forest.{children_of}
use Rattle.edit_model.specs.PointOrder.PointOrder.{child_toward}
use Rattle.edit_model.specs.Gives.{labels_of}
use Rattle.edit_model.specs.Possible.{are_possible}
use Rattle.edit_model.specs.Tail.{carried}
use Rattle.edit_doc.specs.Extracting.{MakesSteps}
use Rattle.edit_doc.proofs.Tails.{exit_steps, tail_here, nothing_made, child_element, copy_fails, smaller, parent_stays, inner_may, inner_fault, link_may, rest_may, whole_makes}
use Rattle.edit_doc.proofs.Doc.+extract_into.Goals as goal

pub carry_from-requires-clause-possible : goal.carry_from-requires-clause-possible
carry_from-requires-clause-possible t c =
    let a = c.args in
    let s = a.self.now.state in
    let law = c.valid.ensures.valid in
    let known = c.requires.end_held.here in
    let kids : labels_of c.deref.result.now ≡ children_of s.trees a.end.label = ap labels_of c.deref.ensures.value ∙ c.in_ok-children.ensures.children in
    ap (λ ks. are_possible (carried a.target.label (drop a.from.offset ks)) s) kids ∙ (ap (λ xs. are_possible xs s) (sym (tail_here s law a.from a.end.label a.target.label known c.if-end-from.true)) ∙ c.requires.possible)

pub returns-then-end-from-clause-steps : goal.returns-then-end-from-clause-steps
returns-then-end-from-clause-steps t c =
    let a = c.args in
    let s = a.self.now.state in
    let law = c.valid.ensures.valid in
    let known = c.requires.end_held.here in
    let kids : labels_of c.deref.result.now ≡ children_of s.trees a.end.label = ap labels_of c.deref.ensures.value ∙ c.in_ok-children.ensures.children in
    subst (MakesSteps c.carry_from.result s c.carry_from.new.self.state) (ap (λ ks. carried a.target.label (drop a.from.offset ks)) kids ∙ sym (tail_here s law a.from a.end.label a.target.label known c.if-end-from.true)) c.carry_from.ensures.steps

pub returns-in_default-clause-steps : goal.returns-in_default-clause-steps
returns-in_default-clause-steps t c =
    let a = c.args in
    let s = a.self.now.state in
    let law = c.valid.ensures.valid in
    let known = c.requires.end_held.here in
    nothing_made s law a.from a.end.label a.target.label known c.if-end-from.false (ap (child_toward s.trees a.end.label) (sym c.requires.is) ∙ sym c.in_default.ensures.is)

pub copy_without_id-requires-clause-element : goal.copy_without_id-requires-clause-element
copy_without_id-requires-clause-element t c =
    let a = c.args in
    let s = a.self.now.state in
    let law = c.valid.ensures.valid in
    let known = c.requires.end_held.here in
    let toward : child_toward s.trees a.end.label a.from.label ≡ Some c.in-Some.child.label = ap (child_toward s.trees a.end.label) (sym c.requires.is) ∙ sym c.in-Some.ensures.is in
    child_element s law a.from a.end.label a.target.label known c.if-end-from.false c.in-Some.child.label toward c.requires.parent

pub returns-in_err-copy-clause-steps : goal.returns-in_err-copy-clause-steps
returns-in_err-copy-clause-steps t c =
    let a = c.args in
    let s = a.self.now.state in
    let law = c.valid.ensures.valid in
    let known = c.requires.end_held.here in
    let toward : child_toward s.trees a.end.label a.from.label ≡ Some c.in-Some.child.label = ap (child_toward s.trees a.end.label) (sym c.requires.is) ∙ sym c.in-Some.ensures.is in
    exit_steps c.from_residual-in_err-copy.result c.in_err-copy.field-0.0 s c.copy_without_id.new.self.state _ c.from_residual-in_err-copy.ensures.1 (copy_fails s law a.from a.end.label a.target.label known c.if-end-from.false c.in-Some.child.label toward c.in_err-copy.field-0.0 c.in_err-copy.ensures.steps)

pub extract_into-requires : goal.extract_into-requires
extract_into-requires t c =
    let a = c.args in
    let s = a.self.now.state in
    let law = c.valid.ensures.valid in
    let known = c.requires.end_held.here in
    let toward : child_toward s.trees a.end.label a.from.label ≡ Some c.in-Some.child.label = ap (child_toward s.trees a.end.label) (sym c.requires.is) ∙ sym c.in-Some.ensures.is in
    let keeps = c.in_ok-copy.ensures.keeps in
    let less = smaller s law a.from a.end.label a.target.label known c.if-end-from.false c.in-Some.child.label toward c.copy_without_id.new.self.state c.in_ok-copy.copy.label c.in_ok-copy.ensures.steps c.in_ok-copy.ensures.label in
    let whole = c.decreases in (
      omega (arith, less, whole),
      (
        subst IsSome (sym keeps.began) c.requires.open,
        (
          c.requires.is,
          (
            parent_stays s law a.from a.end.label a.target.label known c.if-end-from.false c.in-Some.child.label toward c.copy_without_id.new.self.state c.in_ok-copy.copy.label c.in_ok-copy.ensures.steps c.in_ok-copy.ensures.label c.requires.parent,
            (
              keeps.held a.node c.requires.node_held,
              (keeps.held c.in-Some.child c.in-Some.ensures.held, (c.in_ok-copy.ensures.held, inner_may s law a.from a.end.label a.target.label known c.if-end-from.false c.in-Some.child.label toward c.copy_without_id.new.self.state c.in_ok-copy.copy.label c.in_ok-copy.ensures.steps c.in_ok-copy.ensures.label c.requires.possible)),
            ),
          ),
        ),
      ),
    )

pub returns-in_err-extract_into-clause-steps : goal.returns-in_err-extract_into-clause-steps
returns-in_err-extract_into-clause-steps t c =
    let a = c.args in
    let s = a.self.now.state in
    let law = c.valid.ensures.valid in
    let known = c.requires.end_held.here in
    let toward : child_toward s.trees a.end.label a.from.label ≡ Some c.in-Some.child.label = ap (child_toward s.trees a.end.label) (sym c.requires.is) ∙ sym c.in-Some.ensures.is in
    exit_steps c.from_residual-in_err-extract_into.result c.in_err-extract_into.field-0.0 s c.extract_into.new.self.state _ c.from_residual-in_err-extract_into.ensures.1
    (inner_fault s law a.from a.end.label a.target.label known c.if-end-from.false c.in-Some.child.label toward c.copy_without_id.new.self.state c.in_ok-copy.copy.label c.in_ok-copy.ensures.steps c.in_ok-copy.ensures.label c.in_err-extract_into.field-0.0 c.in_err-extract_into.ensures.steps)

pub link-requires-clause-possible : goal.link-requires-clause-possible
link-requires-clause-possible t c =
    let a = c.args in
    let s = a.self.now.state in
    let law = c.valid.ensures.valid in
    let known = c.requires.end_held.here in
    let toward : child_toward s.trees a.end.label a.from.label ≡ Some c.in-Some.child.label = ap (child_toward s.trees a.end.label) (sym c.requires.is) ∙ sym c.in-Some.ensures.is in
    link_may s law a.from a.end.label a.target.label known c.if-end-from.false c.in-Some.child.label toward c.copy_without_id.new.self.state c.in_ok-copy.copy.label c.in_ok-copy.ensures.steps c.in_ok-copy.ensures.label c.extract_into.new.self.state c.in_ok-extract_into.ensures.steps c.requires.possible

pub carry_from-requires-2-clause-possible : goal.carry_from-requires-2-clause-possible
carry_from-requires-2-clause-possible t c =
    let a = c.args in
    let s = a.self.now.state in
    let law = c.valid.ensures.valid in
    let known = c.requires.end_held.here in
    let toward : child_toward s.trees a.end.label a.from.label ≡ Some c.in-Some.child.label = ap (child_toward s.trees a.end.label) (sym c.requires.is) ∙ sym c.in-Some.ensures.is in
    rest_may s law a.from a.end.label a.target.label known c.if-end-from.false c.in-Some.child.label toward c.copy_without_id.new.self.state c.in_ok-copy.copy.label c.in_ok-copy.ensures.steps c.in_ok-copy.ensures.label c.extract_into.new.self.state c.in_ok-extract_into.ensures.steps c.link.new.self.state c.in_ok-link.ensures.linked c.index_after-after.result c.index_after-after.ensures (labels_of c.deref-2.result.now) (ap labels_of c.deref-2.ensures.value ∙ c.in_ok-children.ensures.children) c.requires.possible

pub returns-clause-steps : goal.returns-clause-steps
returns-clause-steps t c =
    let a = c.args in
    let s = a.self.now.state in
    let law = c.valid.ensures.valid in
    let known = c.requires.end_held.here in
    let toward : child_toward s.trees a.end.label a.from.label ≡ Some c.in-Some.child.label = ap (child_toward s.trees a.end.label) (sym c.requires.is) ∙ sym c.in-Some.ensures.is in
    whole_makes s law a.from a.end.label a.target.label known c.if-end-from.false c.in-Some.child.label toward c.copy_without_id.new.self.state c.in_ok-copy.copy.label c.in_ok-copy.ensures.steps c.in_ok-copy.ensures.label c.extract_into.new.self.state c.in_ok-extract_into.ensures.steps c.link.new.self.state c.in_ok-link.ensures.linked c.index_after-after.result c.index_after-after.ensures (labels_of c.deref-2.result.now) (ap labels_of c.deref-2.ensures.value ∙ c.in_ok-children.ensures.children) c.carry_from-2.result c.carry_from-2.new.self.state c.carry_from-2.ensures.steps
