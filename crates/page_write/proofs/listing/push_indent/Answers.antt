use Rattle.page_write.proofs.Indenting.{indent-more}
use Rattle.page_write.proofs.listing.push_indent.Goals as goal

pub loop-preserved : goal.loop-preserved
loop-preserved c = indent-more c.loop.counter _ _ _ c.loop.invariant c.in_ok-extend_from_slice.ensures.items
