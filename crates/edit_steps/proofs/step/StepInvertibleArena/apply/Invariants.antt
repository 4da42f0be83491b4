use Rattle.edit_steps.proofs.step.StepInvertibleArena.apply.Given as goal

abbrev pub ghosts-removed : goal.ghosts-removed
ghosts-removed a = record { name = a.blank.name; parts = a.blank.parts }

abbrev pub ghosts-inserted : goal.ghosts-inserted
ghosts-inserted a = record { name = a.blank.name; parts = a.blank.parts }

abbrev pub ghosts-moved : goal.ghosts-moved
ghosts-moved a = record { name = a.blank.name; parts = a.blank.parts }
