-- The transcript of fewer acts is a beginning of that of more.
use Rattle.std.specs.Prelude.{◌≡◌, ℕ, ◌≤◌, List, [], ◌∷◌, ◌++◌, length, Some}
use Rattle.edit_session.specs.Block.{Whole, block_of}
use Rattle.edit_session.specs.Transcript.{input_limit, transcript}
use Rattle.edit_session.specs.Words.{Limits, Run, order_of}

-- one text is a beginning of another
abbrev pub Begins : List ℕ → List ℕ → Type 0
Begins text longer = (rest : List ℕ) × (longer ≡ text ++ rest)

-- Of a session that has a page block and ends with a line feed, and the same session with more after
-- that, not too long: the transcript of the first is a beginning of that of the second.
abbrev pub PrefixesAnswer : Type 0
PrefixesAnswer =
    (words : List (List ℕ)) (limits : Limits) (front more page : List ℕ) (acts : List (List ℕ))
    → order_of words ≡ Some (Run limits)
    → block_of (front ++ 10 ∷ []) ≡ Whole page acts
    → length (front ++ 10 ∷ more) ≤ input_limit
    → Begins (transcript words (front ++ 10 ∷ [])).text (transcript words (front ++ 10 ∷ more)).text
