-- Of inserting objects, what is done beside the object places no point by itself.
use Rattle.insert_objects.specs.Image.{drop_lone_break}
use Rattle.insert_objects.specs.LineBreak.{repeat_break}
use Rattle.edit_laws.proofs.HostRuns.{Calm, calm_parts}
use Rattle.selection_laws.proofs.CalmLines.{calm_insert_at_start}
use Rattle.selection_laws.proofs.CalmMoves.{calm_make_break}

pub calm_repeat_break : (n : _) → Calm (repeat_break n)
unfolding repeat_break
calm_repeat_break n = search (calm_parts, calm_make_break, calm_insert_at_start)

pub calm_drop_lone_break : (p : _) → Calm (drop_lone_break p)
unfolding drop_lone_break
calm_drop_lone_break p = search calm_parts
