use Rattle.edit_session.proofs.Names.{name_is_text}
use Rattle.edit_session.proofs.acts.text_of.Goals as goal

pub unreachable-requires : goal.unreachable-requires
unreachable-requires c = c.in-Err.ensures.cases.0 (rw c.as_slice.ensures (name_is_text c.args.name.now c.requires))
