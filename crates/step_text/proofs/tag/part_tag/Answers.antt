use Rattle.step_text.proofs.Loops.{cut_within}
use Rattle.step_text.proofs.tag.part_tag.Goals as goal

pub split_at-requires : goal.split_at-requires
split_at-requires c = cut_within 32 c.within-inner.result.now c.in-Some.name.now c.in-Some.field-0-1.now c.in-Some.ensures
