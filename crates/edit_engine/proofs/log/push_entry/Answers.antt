use Rattle.edit_engine.proofs.Logging.{entry_pushed}
use Rattle.edit_engine.proofs.log.push_entry.Goals as goal

pub returns : goal.returns
returns c =
    let parts = c.into_parts-made in
    entry_pushed c.push_edits.result c.args.entry c.args.bytes.now.items c.push_line.new.bytes.items c.push_all_made.new.bytes.items c.push_edits.new.bytes.items parts.result.0.items parts.result.1.items
    parts.ensures.made parts.ensures.edits c.in_ok-push_line.ensures c.in_ok-push_all_made.ensures c.push_edits.ensures
