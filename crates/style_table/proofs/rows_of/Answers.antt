-- The longest of the tables is what the definition computes.
use Rattle.std.proofs.Common.{refl}
use Rattle.style_table.specs.DefaultStyles.{default_of, default_display, display_rows}
use Rattle.style_table.proofs.rows_of.Goals as goal

pub returns-in-Display : goal.returns-in-Display
unfolding default_of default_display display_rows
returns-in-Display c name = rw c.in-Display.is refl
