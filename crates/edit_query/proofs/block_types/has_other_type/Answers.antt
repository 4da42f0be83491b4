use Rattle.std.proofs.Common.{◌||◌, sym, ap, ◌∙◌, ◌+◌, drop}
use Rattle.edit_model.proofs.Steps.{labels_of_drop}
use Rattle.edit_model.specs.Gives.{labels_of}
use Rattle.edit_query.specs.BlockTypes.{has_other_type}
use Rattle.edit_query.proofs.Typing.{text_same, other_first}
use Rattle.edit_query.proofs.block_types.has_other_type.Goals as goal

pub returns-then-is_other : goal.returns-then-is_other
returns-then-is_other c =
    let f = c.args.doc.now.state.trees in
    let host = c.args.host.label in
    let type = c.type_in-wanted.result.now in
    let rest = has_other_type f host type (labels_of (drop (c.loop-node.node-index + 1) c.args.list.now)) in
    let step =
    ap (has_other_type f host type) (labels_of_drop c.args.list.now c.loop-node.node-index c.loop-node-test.true)
    ∙ other_first f host _ c.block_at-block.result.label type _ c.block_at-block.ensures.block in
    sym (ap (λ b. b || rest) (sym c.is_other.ensures ∙ c.if-is_other.true))
    ∙ (sym step ∙ (c.loop-node.invariant.same ∙ ap (λ t. has_other_type f host t (labels_of c.args.list.now)) c.type_in-wanted.ensures))

pub loop-node-preserved : goal.loop-node-preserved
loop-node-preserved c =
    let f = c.args.doc.now.state.trees in
    let host = c.args.host.label in
    let type = c.type_in-wanted.result.now in
    let rest = has_other_type f host type (labels_of (drop (c.loop-node.node-index + 1) c.args.list.now)) in
    let step =
    ap (has_other_type f host type) (labels_of_drop c.args.list.now c.loop-node.node-index c.loop-node-test.true)
    ∙ other_first f host _ c.block_at-block.result.label type _ c.block_at-block.ensures.block in
    record {
      held = c.block_at-block.ensures.held;
      alike = text_same _ _ (sym c.is_other.ensures ∙ c.if-is_other.false);
      same = sym (step ∙ ap (λ b. b || rest) (sym c.is_other.ensures ∙ c.if-is_other.false)) ∙ c.loop-node.invariant.same;
    }
