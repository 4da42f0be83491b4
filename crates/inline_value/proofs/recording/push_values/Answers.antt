use Rattle.std.proofs.Common.{◌++◌, [], ◌∷◌, ap, ◌∙◌, arith}
use Rattle.std.proofs.lemmas.Grind.{common_steps}
use Rattle.wrap_split.proofs.EditDoc.Children.{pushed_held}
use Rattle.inline_value.specs.Records.{nodes_of}
use Rattle.inline_value.proofs.Lists.{entries_pushed, nodes_pushed}
use Rattle.inline_value.proofs.recording.push_values.Goals as goal

pub loop-command-preserved : goal.loop-command-preserved
loop-command-preserved c =
    let pushed = entries_pushed c.loop-command.found.items c.in_ok-value_at.field-0 in
    record {
      values = grind (arith, common_steps, pushed);
      held =
          pushed_held c.args.doc.now (nodes_of c.loop-command.found.items) _ c.args.node c.loop-command.invariant.held c.requires.node_held
          (ap nodes_of c.in_ok-push.ensures.items
          ∙ (nodes_pushed c.loop-command.found.items c.in_ok-value_at.field-0
          ∙ ap (λ r. nodes_of c.loop-command.found.items ++ r ∷ []) c.in_ok-value_at.ensures.node));
    }
