-- What the delete command does to lists places no point by itself.
use Rattle.text_deletion.specs.Entries.{lift_entry, outdent_line, part_entries, part_entry}
use Rattle.edit_laws.proofs.HostRuns.{Calm, calm_parts}
use Rattle.selection_laws.proofs.CalmIndents.{calm_normalize_sublists, calm_outdent_node}
use Rattle.selection_laws.proofs.CalmLines.{calm_rename_stray}
use Rattle.selection_laws.proofs.CalmValues.{calm_fix_ancestors, calm_split_out}
use Rattle.selection_laws.proofs.CalmWraps.{calm_append_break}

pub calm_lift_entry : (n : _) → Calm (lift_entry n)
unfolding lift_entry
calm_lift_entry n = search (calm_parts, calm_fix_ancestors, calm_split_out, calm_normalize_sublists, calm_rename_stray) depth 10

pub calm_outdent_line : (p : _) → Calm (outdent_line p)
unfolding outdent_line
calm_outdent_line p = search (calm_parts, calm_outdent_node)

pub calm_part_entry : (k : _) → Calm (part_entry k)
unfolding part_entry
calm_part_entry k = search (calm_parts, calm_append_break)

pub calm_part_entries : (p : _) → Calm (part_entries p)
unfolding part_entries
calm_part_entries p = search (calm_parts, calm_part_entry)
