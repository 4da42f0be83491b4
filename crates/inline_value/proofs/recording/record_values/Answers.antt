use Rattle.std.proofs.Common.{◌++◌, sym, ap, ◌∙◌}
use Rattle.std.proofs.lemmas.List.{append-nil}
use Rattle.edit_model.specs.Gives.{labels_of}
use Rattle.inline_value.specs.Recording.{values_at, values_of, recorded_commands}
use Rattle.inline_value.specs.Records.{entries_of}
use Rattle.inline_value.proofs.Lists.{no_entries, no_nodes, recorded_on, recorded_end}
use Rattle.inline_value.proofs.recording.record_values.Goals as goal

pub loop-node-init : goal.loop-node-init
loop-node-init c = record {
  values = ap (λ es. es ++ values_of c.args.doc.now.state (labels_of c.args.list.now)) (no_entries c.new-items.result.items c.new-items.ensures.items);
  held = no_nodes c.args.doc.now c.new-items.result.items c.new-items.ensures.items;
}

pub loop-node-preserved : goal.loop-node-preserved
unfolding values_at recorded_commands
loop-node-preserved c = record {
  values =
      recorded_on c.args.doc.now.state c.args.list.now c.loop-node.node-index c.loop-node-test.true (entries_of c.loop-node.items.items) _ _ c.in_ok-push_values.ensures.values c.loop-node.invariant.values;
  held = c.in_ok-push_values.ensures.held;
}

pub returns-clause-values : goal.returns-clause-values
returns-clause-values c =
    sym (append-nil (entries_of c.loop-node.items.items))
    ∙ (ap (λ r. entries_of c.loop-node.items.items ++ r) (sym (recorded_end c.args.doc.now.state c.args.list.now c.loop-node.node-index c.loop-node-test.false))
    ∙ c.loop-node.invariant.values)
