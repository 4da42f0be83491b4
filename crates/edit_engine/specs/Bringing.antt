-- What the execution of a command brings into the document.
use Rattle.std.specs.Prelude.{ℕ, List, [], Option, Some, None, if◌then◌else◌}
use Rattle.edit_model.specs.HtmlNames.declared.commands.Command.{Command}
use Rattle.making_laws.specs.Known.{source_of, KnowsAll}
use Rattle.edit_engine.specs.Commands.{types_text}
use Rattle.edit_engine.specs.Editing.{Editing}

-- the characters that a command types: those of its value where it is insertText, and no others
abbrev pub typed_by : Option Command → List ℕ → List ℕ
typed_by None value = []
typed_by (Some c) value = if types_text c then value else []

-- Each element of the document afterwards has a name that commands make, or one that an element of
-- the document before had; and each of its attributes has a name that commands set, or is one that
-- an element of the document before had, name and value. Each character of a Text or a Comment stood
-- in one of the document before, or is typed, or is U+0020 or U+00A0.
abbrev pub BringsKnown : Option Command → List ℕ → Editing → Editing → Type 0
BringsKnown c value old new = KnowsAll (source_of old.state (typed_by c value)) new.state.trees
