-- Lists of nodes that are taken part by part from the front, in the series of
-- `block_extend/specs/Series`.
use Rattle.std.specs.Prelude.{ℕ, Bool, true, false, List, [], ◌∷◌, take, drop}
use Rattle.edit_model.specs.Run.{Run, ◌>>◌, done, look, while_at_most}
use Rattle.edit_model.specs.State.{State}
use Rattle.inline_value.specs.BlockExtend.Series.{count_series}
use Rattle.inline_value.specs.WrapSplit.Walks.{turn_bound}

-- takes the first series: its members, and the rest of the list
abbrev pub take_series : (ℕ → ℕ → Bool) → List ℕ → List ℕ × List ℕ
take_series on list = (take (count_series on list) list, drop (count_series on list) list)

abbrev pub has_members : State → List ℕ → Bool
has_members s [] = false
has_members s (x ∷ xs) = true

-- turns, each of which answers what is left of the list, until nothing is left
abbrev pub in_turns : (List ℕ → Run (List ℕ)) → List ℕ → Run (Unit {0})
in_turns turn list = look λ s. while_at_most (turn_bound s) has_members turn list >> done
