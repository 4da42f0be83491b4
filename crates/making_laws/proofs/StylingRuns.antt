-- Setting and unsetting a style is tame.
use Rattle.std.proofs.Common.{ℕ, List}
use Rattle.edit_model.specs.Run.{value}
use Rattle.inline_value.specs.Styling.{write_text, set_style, unset_style}
use Rattle.making_laws.specs.Tame.{Tame}
use Rattle.making_laws.proofs.TameRuns.{set_style_name, tame_parts}

-- ---- styles

tame_text : (e : ℕ) (text : List ℕ) → Tame (write_text e text)
unfolding write_text
tame_text e text = search (tame_parts, set_style_name)

pub tame_set_style : (e : ℕ) (name value : List ℕ) → Tame (set_style e name value)
unfolding set_style
tame_set_style e name value = search (tame_parts, tame_text)

pub tame_unset_style : (e : ℕ) (name : List ℕ) → Tame (unset_style e name)
unfolding unset_style
tame_unset_style e name = search (tame_parts, tame_text)
