use Rattle.std.proofs.Common.{◌∙◌, sym, arith}
use Rattle.command_value.proofs.Shown.{size_some, size_none, size_same}
use Rattle.command_value.proofs.matching.is_alike_size.Goals as goal

pub returns-then-is_pixels : goal.returns-then-is_pixels
returns-then-is_pixels c = size_same c.args.px c.args.text.now (sym c.is_pixels.ensures ∙ c.if-is_pixels.true)

pub returns-in-Some : goal.returns-in-Some
returns-in-Some c =
    size_some c.args.px c.in-Some.size c.args.text.now (omega arith) (omega (arith, c.ranges.px.fits)) (sym c.is_pixels.ensures ∙ c.if-is_pixels.false) c.in-Some.ensures

pub returns-in-None : goal.returns-in-None
returns-in-None c = size_none c.args.px c.args.text.now (sym c.is_pixels.ensures ∙ c.if-is_pixels.false) c.in-None.ensures
