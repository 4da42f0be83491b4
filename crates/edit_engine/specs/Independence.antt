-- What a command comes to doesn't depend on the history.
use Rattle.std.specs.Prelude.{◌≡◌, ℕ, Bool, List}
use Rattle.edit_engine.specs.Editing.{Editing}
use Rattle.edit_engine.specs.Execution.{Outcome, Refused, Deep, Full, Acted, outcome_by}

-- two commands are refused for the same cause, or they answer the same and leave the same state
abbrev pub AreAlike : Outcome → Outcome → Type 0
AreAlike Refused Refused = Unit {0}
AreAlike Deep Deep = Unit {0}
AreAlike Full Full = Unit {0}
AreAlike (Acted a x) (Acted b y) = (a ≡ b) × (x.state ≡ y.state)
AreAlike _ _ = ⊥

-- so it is in two editors that are in one state, whatever their histories, and whether the edits join
-- the last entry or not
abbrev pub HistoryIsIgnored : Type 0
HistoryIsIgnored =
    (joined : Bool) (e f : Editing) (name v : List ℕ) → e.state ≡ f.state
    → AreAlike (outcome_by joined e name v) (outcome_by joined f name v)
