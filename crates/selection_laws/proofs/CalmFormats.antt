-- What the inline commands do once the texts at the ends are split places no point by itself.
use Rattle.inline_commands.specs.Linking.{relink, relink_range}
use Rattle.inline_commands.specs.RemovingFormat.{part_from_format, part_nodes, unwrap_candidates}
use Rattle.inline_commands.specs.RestoringStates.{override_by, set_override}
use Rattle.inline_commands.specs.Unlink.{clear_links, unlink}
use Rattle.edit_model.specs.declared.settings.Setting.TheVariants.{Absent}
use Rattle.edit_laws.proofs.HostRuns.{Calm, calm_parts, calm_answer}
use Rattle.selection_laws.proofs.CalmMoves.{calm_unwrap}
use Rattle.selection_laws.proofs.CalmValues.{calm_clear_one}
use Rattle.selection_laws.proofs.CalmWraps.{calm_split_around}

pub calm_clear_links : (list : _) → Calm (clear_links list)
unfolding clear_links
calm_clear_links list = search (calm_parts, calm_clear_one)

pub calm_unlink : Calm unlink
unfolding unlink
calm_unlink = search (calm_parts, calm_clear_links)

pub calm_relink : (v : _) (e : _) → Calm (relink v e)
unfolding relink
calm_relink v e = search calm_parts

pub calm_relink_range : (v : _) → Calm (relink_range v)
unfolding relink_range
calm_relink_range v = search (calm_parts, calm_relink)

pub calm_unwrap_candidates : Calm unwrap_candidates
unfolding unwrap_candidates
calm_unwrap_candidates = search (calm_parts, calm_unwrap)

pub calm_part_from_format : (n : _) → Calm (part_from_format n)
unfolding part_from_format
calm_part_from_format n = search (calm_parts, calm_split_around)

pub calm_part_nodes : Calm part_nodes
unfolding part_nodes
calm_part_nodes = search (calm_parts, calm_part_from_format)

pub calm_override_by : (a : _) (b : _) → Calm (override_by a b)
calm_override_by c Absent = calm_answer tt
calm_override_by c _ = search calm_parts

pub calm_set_override : (o : _) → Calm (set_override o)
unfolding set_override
calm_set_override o = search (calm_parts, calm_override_by)
