use Rattle.wrap_split.proofs.EditActions.Placed.{placed_here}
use Rattle.inline_value.proofs.Selecting.{keeps_selected}
use Rattle.inline_value.proofs.selections.set_start_of.Goals as goal

pub at_least-anchor-requires-clause-other_there : goal.at_least-anchor-requires-clause-other_there
at_least-anchor-requires-clause-other_there c = placed_here c.args.doc.now.state.trees c.args.pair.anchor c.requires.placed.anchor

pub at_least-focus-requires-clause-other_there : goal.at_least-focus-requires-clause-other_there
at_least-focus-requires-clause-other_there c = placed_here c.args.doc.now.state.trees c.args.pair.focus c.requires.placed.focus

pub returns-then-is_before-clause-keeps : goal.returns-then-is_before-clause-keeps
returns-then-is_before-clause-keeps c = keeps_selected c.args.doc.now c.select.new.self _ _ c.select.ensures

pub returns-else-is_before-clause-keeps : goal.returns-else-is_before-clause-keeps
returns-else-is_before-clause-keeps c = keeps_selected c.args.doc.now c.select-else-is_before.new.self _ _ c.select-else-is_before.ensures
