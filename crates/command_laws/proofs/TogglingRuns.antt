-- The commands that toggle a style or a script, and those that take a value, keep the order, and leave the states of
-- contenteditable.
use Rattle.std.proofs.Common.{ℕ, Bool, List, Option}
use Rattle.edit_model.specs.HtmlNames.declared.commands.Command.{Command}
use Rattle.edit_laws.specs.Steady.{Steady}
use Rattle.edit_laws.specs.OrderPreserving.{OrderPreserving}
use Rattle.inline_commands.specs.Toggling.{set_toggled, toggle_style, set_unless, set_script, toggle_script}
use Rattle.inline_commands.specs.ValueCommands.{set_taken, take, apply_value}
use Rattle.command_laws.proofs.Fits.{Fit, fits}
use Rattle.command_laws.proofs.SelectionRuns.{fit_set_value}

fit_toggled : (c : Command) (on : List ℕ) → Fit (set_toggled c on)
unfolding set_toggled
fit_toggled c on = search (fits, fit_set_value)

pub fit_toggle_style : (c : Command) → Fit (toggle_style c)
unfolding toggle_style
fit_toggle_style c = search (fits, fit_toggled)

fit_unless_on : (state : Bool) (c : Command) (on : List ℕ) → Fit (set_unless state c on)
unfolding set_unless
fit_unless_on state c on = search (fits, fit_set_value)

fit_set_script : (c : Command) (on : List ℕ) → Fit (set_script c on)
unfolding set_script
fit_set_script c on = search (fits, fit_set_value, fit_unless_on)

pub fit_toggle_script : (c : Command) → Fit (toggle_script c)
unfolding toggle_script
fit_toggle_script c = search (fits, fit_set_script)

fit_taken : (c : Command) (v : List ℕ) → Fit (set_taken c v)
unfolding set_taken
fit_taken c v = search (fits, fit_set_value)

fit_take : (c : Command) (taken : Option (List ℕ)) → Fit (take c taken)
unfolding take
fit_take c taken = search (fits, fit_taken)

pub fit_apply_value : (c : Command) (v : List ℕ) → Fit (apply_value c v)
unfolding apply_value
fit_apply_value c v = search (fits, fit_take)

-- ---- each certificate by itself

pub order_preserving_toggle_style : (c : Command) → OrderPreserving (toggle_style c)
order_preserving_toggle_style c = (fit_toggle_style c).order

pub steady_toggle_style : (c : Command) → Steady (toggle_style c)
steady_toggle_style c = (fit_toggle_style c).states

pub order_preserving_toggle_script : (c : Command) → OrderPreserving (toggle_script c)
order_preserving_toggle_script c = (fit_toggle_script c).order

pub steady_toggle_script : (c : Command) → Steady (toggle_script c)
steady_toggle_script c = (fit_toggle_script c).states

pub order_preserving_apply_value : (c : Command) (v : List ℕ) → OrderPreserving (apply_value c v)
order_preserving_apply_value c v = (fit_apply_value c v).order

pub steady_apply_value : (c : Command) (v : List ℕ) → Steady (apply_value c v)
steady_apply_value c v = (fit_apply_value c v).states
