use Rattle.std.proofs.Common.{◌≡◌, drop}
use Rattle.edit_model.specs.Run.{final, for_each}
use Rattle.inline_value.specs.EditDoc.Held.{Keeps}
use Rattle.text_insertion.specs.Typing.{insert_char}
use Rattle.text_insertion.proofs.typing.insert_each.Given as goal

-- what is left to do ends where the whole ends
abbrev pub invariant-loop-put : goal.invariant-loop-put
invariant-loop-put l =
    (final (for_each (drop l.put-index l.value) insert_char) l.doc.state
    ≡ final (for_each l.value insert_char) l.initial.doc.state)
    × Keeps l.initial.doc l.doc
