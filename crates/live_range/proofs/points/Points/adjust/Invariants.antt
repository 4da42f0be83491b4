use Rattle.live_range.proofs.points.Points.adjust.Given as goal

abbrev pub ghosts-adjust_by : goal.ghosts-adjust_by
ghosts-adjust_by a = record { name = a.blank.name; parts = a.blank.parts }
