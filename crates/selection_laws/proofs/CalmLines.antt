-- Of inserting a paragraph, what comes before and between the places of the caret places no point by itself.
use Rattle.text_insertion.specs.Containers.{make_container, wrap_line}
use Rattle.text_insertion.specs.Entries.{leave_list, rename_stray}
use Rattle.text_insertion.specs.Halves.{fill_hidden, make_second}
use Rattle.text_insertion.specs.Start.{insert_at, insert_at_start}
use Rattle.text_insertion.specs.Typing.{drop_sole_break}
use Rattle.edit_laws.proofs.HostRuns.{Calm, calm_parts}
use Rattle.selection_laws.proofs.CalmErasing.{calm_fill_empty}
use Rattle.selection_laws.proofs.CalmMoves.{calm_set_tag_name}
use Rattle.selection_laws.proofs.CalmValues.{calm_fix_ancestors}
use Rattle.selection_laws.proofs.CalmWraps.{calm_append_break, calm_split_parent, calm_wrap}

pub calm_insert_at : (x : _) (p : _) → Calm (insert_at x p)
unfolding insert_at
calm_insert_at x p = search calm_parts

pub calm_insert_at_start : (x : _) → Calm (insert_at_start x)
unfolding insert_at_start
calm_insert_at_start x = search (calm_parts, calm_insert_at)

pub calm_rename_stray : (n : _) → Calm (rename_stray n)
unfolding rename_stray
calm_rename_stray n = search (calm_parts, calm_set_tag_name)

pub calm_leave_list : (c : _) → Calm (leave_list c)
unfolding leave_list
calm_leave_list c = search (calm_parts, calm_fill_empty, calm_fix_ancestors, calm_rename_stray, calm_split_parent) depth 9

pub calm_make_container : Calm make_container
unfolding make_container
calm_make_container = search (calm_parts, calm_append_break) depth 9

pub calm_wrap_line : (k : _) → Calm (wrap_line k)
unfolding wrap_line
calm_wrap_line k = search (calm_parts, calm_wrap)

pub calm_make_second : (q : _) (c : _) → Calm (make_second q c)
unfolding make_second
calm_make_second q c = search calm_parts

pub calm_fill_hidden : (c : _) → Calm (fill_hidden c)
unfolding fill_hidden
calm_fill_hidden c = search (calm_parts, calm_append_break)

pub calm_drop_sole_break : (n : _) → Calm (drop_sole_break n)
unfolding drop_sole_break
calm_drop_sole_break n = search calm_parts
