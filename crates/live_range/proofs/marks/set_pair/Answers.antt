use Rattle.live_range.specs.declared.places.MarkPlace.{MarkPlace}
use Rattle.live_range.proofs.NamedMarks.{with_pair_written}
use Rattle.live_range.proofs.marks.set_pair.Goals as goal

abbrev nothing : MarkPlace
nothing = record { name = 0; pair = record { anchor = record { label = 0; offset = 0 }; focus = record { label = 0; offset = 0 } } }

pub returns-clause-marks : goal.returns-clause-marks
returns-clause-marks c = with_pair_written c.args.places.now.marks c.args.places.now.count c.args.place c.args.pair nothing c.requires.there
