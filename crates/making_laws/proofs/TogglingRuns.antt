-- The commands that toggle a style or a script, and those that take a value, are tame.
use Rattle.std.proofs.Common.{ℕ, Bool, List, Option}
use Rattle.edit_model.specs.HtmlNames.declared.commands.Command.{Command}
use Rattle.inline_commands.specs.Toggling.{set_toggled, toggle_style, set_unless, set_script, toggle_script}
use Rattle.inline_commands.specs.ValueCommands.{set_taken, take, apply_value}
use Rattle.making_laws.specs.Tame.{Tame}
use Rattle.making_laws.proofs.TameRuns.{tame_parts}
use Rattle.making_laws.proofs.SelectionRuns.{tame_set_value}

tame_toggled : (c : Command) (on : List ℕ) → Tame (set_toggled c on)
unfolding set_toggled
tame_toggled c on = search (tame_parts, tame_set_value)

pub tame_toggle_style : (c : Command) → Tame (toggle_style c)
unfolding toggle_style
tame_toggle_style c = search (tame_parts, tame_toggled)

tame_unless_on : (state : Bool) (c : Command) (on : List ℕ) → Tame (set_unless state c on)
unfolding set_unless
tame_unless_on state c on = search (tame_parts, tame_set_value)

tame_set_script : (c : Command) (on : List ℕ) → Tame (set_script c on)
unfolding set_script
tame_set_script c on = search (tame_parts, tame_set_value, tame_unless_on)

pub tame_toggle_script : (c : Command) → Tame (toggle_script c)
unfolding toggle_script
tame_toggle_script c = search (tame_parts, tame_set_script)

tame_taken : (c : Command) (v : List ℕ) → Tame (set_taken c v)
unfolding set_taken
tame_taken c v = search (tame_parts, tame_set_value)

tame_take : (c : Command) (taken : Option (List ℕ)) → Tame (take c taken)
unfolding take
tame_take c taken = search (tame_parts, tame_taken)

pub tame_apply_value : (c : Command) (v : List ℕ) → Tame (apply_value c v)
unfolding apply_value
tame_apply_value c v = search (tame_parts, tame_take)
