use Rattle.std.proofs.Common.{◌≡◌, ◌++◌, map}
use Rattle.edit_model.specs.History.{used}
use Rattle.step_edits.specs.EditSteps.Step.{changes_of}
use Rattle.edit_doc.specs.History.{roots_from}
use Rattle.edit_doc.specs.Logged.{made_node}
use Rattle.edit_doc.proofs.logged.made_nodes.Given as goal

-- what is left to be listed follows
abbrev pub invariant-loop-label : goal.invariant-loop-label
invariant-loop-label l =
    l.nodes.items ++ map made_node (used (changes_of l.steps) (roots_from l.label l.arena.trees))
    ≡ map made_node (used (changes_of l.steps) (roots_from l.first l.arena.trees))
