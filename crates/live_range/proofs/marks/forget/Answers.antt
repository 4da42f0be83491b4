use Rattle.std.proofs.Common.{◌-◌, ap, ◌∙◌, take, length, arith}
use Rattle.std.proofs.lemmas.Slice.{put_mid-rotated}
use Rattle.std.proofs.lemmas.List.{take_at}
use Rattle.std.proofs.lemmas.List.Edits.{length-remove}
use Rattle.std.specs.List.{remove}
use Rattle.live_range.specs.declared.places.MarkPlace.{MarkPlace}
use Rattle.live_range.proofs.marks.forget.Goals as goal

abbrev nothing : MarkPlace
nothing = record { name = 0; pair = record { anchor = record { label = 0; offset = 0 }; focus = record { label = 0; offset = 0 } } }

pub returns : goal.returns
returns c =
    ap (take (length c.args.marks.now - 1)) (put_mid-rotated c.args.place (length c.args.marks.now - c.args.place) c.args.marks.now c.rotate_left.new.self nothing c.requires (omega arith) c.rotate_left.ensures.after)
    ∙ take_at (remove c.args.marks.now c.args.place) _ (length c.args.marks.now - 1) (omega (arith, length-remove c.args.marks.now c.args.place c.requires))
