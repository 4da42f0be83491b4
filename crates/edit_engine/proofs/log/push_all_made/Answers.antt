use Rattle.std.proofs.Common.{◌++◌, sym, ap, ◌∙◌}
use Rattle.edit_engine.proofs.Logging.{made_text, made_texts, written_more, written_all}
use Rattle.edit_engine.proofs.log.push_all_made.Goals as goal

pub loop-node-preserved : goal.loop-node-preserved
loop-node-preserved c =
    let next = c.in-Some.ensures.steps in
    written_more made_text _ _ _ _ _ _ _ c.in-Some.node c.loop-node.invariant next.0 next.1 c.in_ok-push_made.ensures

pub returns : goal.returns
returns c =
    written_all made_text _ _ _ _ _ _ c.loop-node.invariant c.in-None.ensures.steps.0 c.into_iter-node-iterator.ensures.into_iter_gives.0
    ∙ ap (λ text. c.args.bytes.now.items ++ text) (sym (made_texts c.args.nodes.items))
