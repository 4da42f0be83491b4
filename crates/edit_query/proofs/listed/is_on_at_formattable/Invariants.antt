use Rattle.std.proofs.Common.{◌≡◌, drop}
use Rattle.std.specs.List.{filter, list_all}
use Rattle.block_extend.specs.NodeTests.Visible.{is_formattable}
use Rattle.command_value.specs.EffectiveValues.{is_activated}
use Rattle.edit_model.specs.Gives.{labels_of}
use Rattle.edit_query.proofs.listed.is_on_at_formattable.Given as goal

abbrev pub invariant-loop-node : goal.invariant-loop-node
invariant-loop-node l =
    list_all (λ x. is_activated l.doc.state.trees x l.command) (filter (is_formattable l.doc.state.trees l.host.label) (labels_of (drop l.node-index l.list)))
    ≡ list_all (λ x. is_activated l.doc.state.trees x l.command) (filter (is_formattable l.doc.state.trees l.host.label) (labels_of l.list))
