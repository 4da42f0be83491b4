use Rattle.std.proofs.Common.{◌++◌, sym, ap, ◌∙◌}
use Rattle.std.specs.List.{flat_map}
use Rattle.edit_engine.proofs.Logging.{entry_text, entry_texts, written_more, written_all}
use Rattle.edit_engine.proofs.log.entry_lines.Goals as goal

pub loop-entry-preserved : goal.loop-entry-preserved
loop-entry-preserved c =
    let next = c.in-Some.ensures.steps in
    written_more entry_text _ _ _ _ _ _ _ c.in-Some.entry c.loop-entry.invariant next.0 next.1 c.in_ok-push_entry.ensures

pub returns : goal.returns
returns c =
    written_all entry_text _ _ _ _ _ _ c.loop-entry.invariant c.in-None.ensures.steps.0 c.into_iter-entry-iterator.ensures.into_iter_gives.0
    ∙ ap (λ start. start ++ flat_map entry_text c.args.entries.items) c.new-bytes.ensures.items ∙ sym (entry_texts c.args.entries.items)
