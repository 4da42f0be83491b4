use Rattle.base_trials.proofs.tests.logs.shows_an_entry.Given as goal

abbrev pub ghosts-watch_entry : goal.ghosts-watch_entry
ghosts-watch_entry g a = record { name = a.blank.name; parts = a.blank.parts }
