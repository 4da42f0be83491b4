use Rattle.base_trials.proofs.tests.logs.keeps_the_numbers.Given as goal

abbrev pub ghosts-run : goal.ghosts-run
ghosts-run g a = record { name = a.blank.name; parts = a.blank.parts }
