-- What every run makes, and whose characters it changes.
use Rattle.std.specs.Prelude.{◌≡◌, ℕ, true}
use Rattle.edit_model.specs.DomModel.declared.Content.{Content}
use Rattle.edit_model.specs.DomModel.Forest.{content_of}
use Rattle.inline_value.specs.ForestChanges.Named.{Each}
use Rattle.edit_model.specs.State.{State}
use Rattle.edit_model.specs.Run.{Reaches, here, onward, changes_of, nodes_on}
use Rattle.edit_engine.specs.Replaying.{can_be_made, ChangesText}

-- each edit of characters on the way is one of a text
abbrev pub ChangeTextsOn : {s t : State} → Reaches s t → Type 0
ChangeTextsOn here = Unit {0}
ChangeTextsOn (onward {t = t} q a) = ChangeTextsOn q
    × Each (ChangesText (content_of t.trees)) (changes_of a t)

-- and what is made on the way are elements and texts
abbrev pub RunsArePlain : Type 0
RunsArePlain =
    (s t : State) (r : Reaches s t)
    → Each (λ (n : ℕ × Content). can_be_made n.1 ≡ true) (nodes_on r) × ChangeTextsOn r
