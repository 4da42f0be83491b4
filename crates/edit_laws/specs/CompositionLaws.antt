-- The laws of order of unwrapping, of setting a tag name and of splitting a text.
use Rattle.std.specs.Prelude.{◌≡◌, ℕ, true, false, List, Some}
use Rattle.edit_model.specs.DomModel.declared.Content.TheVariants.{Words}
use Rattle.edit_model.specs.DomModel.Forest.{IsWithin, content_of}
use Rattle.edit_model.specs.State.{State}
use Rattle.edit_model.specs.Kept.{is_thing}
use Rattle.edit_model.specs.Confined.{is_editable_for}
use Rattle.edit_model.specs.Compositions.{set_tag_name, split_words}
use Rattle.edit_model.specs.Moves.{unwrap}
use Rattle.edit_model.specs.Run.{final}
use Rattle.edit_laws.specs.Order.{KeepsOrder, IsKeeping}
use Rattle.edit_laws.specs.MoveLaws.{IsBare}

-- putting the children of a bare node in its place
abbrev pub UnwrapsKeep : Type 0
UnwrapsKeep = (e : ℕ) (s : State) → IsKeeping s → IsBare s e → KeepsOrder s (final (unwrap e) s)

-- setting the tag name of a bare node, to one that is neither img nor hr
abbrev pub TagNamesKeep : Type 0
TagNamesKeep =
    (e : ℕ) (name : List ℕ) (s : State) → IsKeeping s → IsBare s e → is_thing name ≡ false
    → KeepsOrder s (final (set_tag_name e name) s)

-- splitting a text, which is editable if it is in the document, at any offset
abbrev pub SplitTextsKeep : Type 0
SplitTextsKeep =
    (n at : ℕ) (chars : List ℕ) (s : State) → IsKeeping s → content_of s.trees n
    ≡ Some (Words chars)
    → (IsWithin s.trees 0 n → is_editable_for s n ≡ true)
    → KeepsOrder s (final (split_words n at) s)
