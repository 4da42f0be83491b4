-- What a command comes to in an editor doesn't depend on marks or on the history, and on the cap
-- only where it is refused for that. What is answered to a question depends on none of them.
use Rattle.std.specs.Prelude.{◌≡◌, ◌≤◌, ℕ, Bool, List}
use Rattle.edit_model.specs.HtmlNames.declared.query.QueryKind.{QueryKind}
use Rattle.edit_model.specs.LiveRange.declared.places.Pair.{Pair}
use Rattle.edit_model.specs.State.{State}
use Rattle.edit_engine.specs.Editing.{Editing}
use Rattle.edit_engine.specs.Execution.{Outcome, Refused, Deep, Full, Acted, outcome_by, replaced_outcome, gated_outcome}
use Rattle.edit_engine.specs.Queries.{reply_of}
use Rattle.independence_laws.specs.Unmarked.{unmarked}

-- the states are the same but for the marks and the cap: the document with its labels, the
-- selection, the overrides and the flags, and the next label. The histories are any.
abbrev pub AreSameButMarks : Editing → Editing → Type 0
AreSameButMarks e f = unmarked e.state ≡ unmarked f.state

-- one of two commands is refused at the cap; or they are refused for the same cause, or they answer
-- the same and leave such editors
abbrev pub AreAlikeUnlessFull : Outcome → Outcome → Type 0
AreAlikeUnlessFull Full o = Unit {0}
AreAlikeUnlessFull o Full = Unit {0}
AreAlikeUnlessFull Refused Refused = Unit {0}
AreAlikeUnlessFull Deep Deep = Unit {0}
AreAlikeUnlessFull (Acted a x) (Acted b y) = (a ≡ b) × AreSameButMarks x y
AreAlikeUnlessFull _ _ = ⊥

-- a command, whether its edits join the last entry or not
abbrev pub MarksAreIgnored : Type 0
MarksAreIgnored =
    (joined : Bool) (e f : Editing) (name v : List ℕ) → AreSameButMarks e f
    → AreAlikeUnlessFull (outcome_by joined e name v) (outcome_by joined f name v)

-- a command where names are denied
abbrev pub MarksAreIgnoredWhereDenied : Type 0
MarksAreIgnoredWhereDenied =
    (denied : List (List ℕ)) (e f : Editing) (name v : List ℕ) → AreSameButMarks e f
    → AreAlikeUnlessFull (gated_outcome denied e name v) (gated_outcome denied f name v)

-- a replacement of a range by a text
abbrev pub MarksAreIgnoredAtRanges : Type 0
MarksAreIgnoredAtRanges =
    (e f : Editing) (range : Pair) (v : List ℕ) → AreSameButMarks e f
    → AreAlikeUnlessFull (replaced_outcome e range v) (replaced_outcome f range v)

-- what is refused at a cap is refused at every smaller one; so at the same cap both commands are,
-- or neither
abbrev pub CapsOnlyRefuse : Type 0
CapsOnlyRefuse =
    (joined : Bool) (e f : Editing) (name v : List ℕ) → AreSameButMarks e f
    → e.state.cap ≤ f.state.cap → outcome_by joined f name v ≡ Full
    → outcome_by joined e name v ≡ Full

-- a question
abbrev pub QuestionsIgnoreMarks : Type 0
QuestionsIgnoreMarks =
    (s t : State) (kind : QueryKind) (name : List ℕ) → unmarked s ≡ unmarked t
    → reply_of s kind name ≡ reply_of t kind name
