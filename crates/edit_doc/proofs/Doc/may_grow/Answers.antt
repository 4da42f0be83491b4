use Rattle.std.proofs.Common.{◌≡◌, true, false, refl, sym, ap, subst, ◌∙◌, nat_lt}
use Rattle.std.specs.Prelude.{◌&&◌}
use Rattle.edit_model.specs.DomModel.Contents.{length_of}
use Rattle.edit_model.specs.PointOrder.PointOrder.{is_in_document}
use Rattle.edit_model.specs.Confined.{is_open}
use Rattle.edit_doc.proofs.Asking.{first_false, second_false}
use Rattle.edit_doc.proofs.Placing.{inside_held, grow_is, grow_absent}
use Rattle.edit_doc.proofs.Doc.may_grow.Goals as goal

pub is_open-requires : goal.is_open-requires
is_open-requires c = (inside_held c.nodes-arena.ensures c.in-Some.node c.in-Some.ensures.found.1 (sym c.is_in_document.ensures ∙ c.if-not-is_in_document.false))

pub length-requires : goal.length-requires
length-requires c = inside_held c.nodes-arena.ensures c.in-Some.node c.in-Some.ensures.found.1 (sym c.is_in_document.ensures ∙ c.if-not-is_in_document.false)

pub returns-then-not-is_in_document : goal.returns-then-not-is_in_document
returns-then-not-is_in_document c = sym (grow_is c.nodes-arena.ensures c.args.at ∙ second_false (is_open c.args.self.now.state c.args.at.label) _ _ (subst (λ l. is_in_document c.nodes-arena.result.now.trees l ≡ false) c.in-Some.ensures.found.0 (sym c.is_in_document.ensures ∙ c.if-not-is_in_document.true)))

pub returns-then-is_open : goal.returns-then-is_open
returns-then-is_open c =
    let len = c.length.ensures ∙ ap (length_of c.args.self.now.state.trees) c.in-Some.ensures.found.0 in
    let opened = sym (ap (is_open c.args.self.now.state) c.in-Some.ensures.found.0) ∙ (sym c.is_open.ensures ∙ c.if-is_open.true) in
    ap (λ n. nat_lt c.args.at.offset n) len ∙ sym (grow_is c.nodes-arena.ensures c.args.at ∙ (λ i. opened i && ((subst (λ l. is_in_document c.nodes-arena.result.now.trees l ≡ true) c.in-Some.ensures.found.0 (sym c.is_in_document.ensures ∙ c.if-not-is_in_document.false)) i && nat_lt c.args.at.offset (length_of c.args.self.now.state.trees c.args.at.label))))

pub returns-else-is_open : goal.returns-else-is_open
returns-else-is_open c = c.if-is_open.false ∙ sym (grow_is c.nodes-arena.ensures c.args.at ∙ first_false (is_open c.args.self.now.state c.args.at.label) _ (sym (ap (is_open c.args.self.now.state) c.in-Some.ensures.found.0) ∙ (sym c.is_open.ensures ∙ c.if-is_open.false)))

pub returns-in-None : goal.returns-in-None
returns-in-None c = sym (grow_absent c.nodes-arena.ensures c.args.at (c.in-None.ensures.absent.0 refl))
