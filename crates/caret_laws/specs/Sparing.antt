-- Runs that take out nothing that is kept. A command that keeps contents makes no removal that does; one that doesn't keep them
-- makes it.
use Rattle.std.specs.Prelude.{◌≡◌, true}
use Rattle.edit_model.specs.DomModel.Forest.{tree_of}
use Rattle.edit_model.specs.State.{State}
use Rattle.edit_model.specs.Action.{Action, Change}
use Rattle.edit_model.specs.Confined.{may_remove}
use Rattle.edit_model.specs.Edit.{Remove}
use Rattle.edit_model.specs.Kept.{has_no_kept_leaves}
use Rattle.edit_model.specs.Run.{Reaches, here, onward}

-- what an action removes bears no image, no rule and no character other than tab, LF, CR and space
abbrev pub Spares : Action → State → Type 0
Spares (Change (Remove n)) s =
    may_remove s n ≡ true → has_no_kept_leaves (tree_of s.trees n) ≡ true
Spares _ s = Unit {0}

-- so it is with each removal on the way
abbrev pub SparesOn : {s t : State} → Reaches s t → Type 0
SparesOn here = Unit {0}
SparesOn (onward {t = t} q a) = SparesOn q × Spares a t
