-- What is inside a host.
use Rattle.std.specs.Prelude.{ℕ, Bool, ◌||◌, ◌==◌}
use Rattle.edit_model.specs.DomModel.declared.Content.{Content}
use Rattle.edit_model.specs.DomModel.Editing.{is_editable}
use Rattle.edit_model.specs.DomModel.Forest.{Forest}

-- the host itself, or editable with it
abbrev pub is_in_host : Forest Content → ℕ → ℕ → Bool
is_in_host f host l = host == l || is_editable f host l
