use Rattle.inline_value.proofs.EditActions.Placed.{placed_here}
use Rattle.edit_engine.proofs.actions.host_of_range.Goals as goal

pub affected_host-requires : goal.affected_host-requires
affected_host-requires c =
    let f = c.args.doc.now.state.trees in
    record {
      start_held = placed_here f c.ends_of.result.0 c.ends_of.ensures.start_placed;
      end_held = placed_here f c.ends_of.result.1 c.ends_of.ensures.end_placed;
    }
