use Rattle.std.proofs.Common.{map, ◌∙◌, ◌-◌, ap, arith}
use Rattle.live_range.specs.Names.{marks_of}
use Rattle.live_range.proofs.NamedMarks.{positions_stay}
use Rattle.live_range.proofs.RowPoints.{put_by_number}
use Rattle.live_range.proofs.pairs.put_pair.Goals as goal

pub returns-in_default-clause-pairs : goal.returns-in_default-clause-pairs
returns-in_default-clause-pairs c =
    put_by_number c.args.places.now c.set_pair.new.places c.args.number c.args.pair (omega arith) c.set_pair.ensures.marks c.set_pair.ensures.others c.requires.there

pub returns-in_default-clause-names : goal.returns-in_default-clause-names
returns-in_default-clause-names c =
    ap (map (λ m. m.name)) c.set_pair.ensures.marks ∙ positions_stay (marks_of c.args.places.now) (c.args.number - 2) c.args.pair
