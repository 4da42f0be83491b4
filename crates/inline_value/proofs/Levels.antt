-- The last of the first members of a list, and the levels on which a value is pushed down.
use Rattle.std.proofs.Common.{◌≡◌, ℕ, zero, suc, ◌+◌, ◌-◌, ◌<◌, ◌≤◌, List, [], ◌∷◌, Option, Some, None, length, take, reverse, get_or, refl, sym, ap, ◌∙◌, add-one, arith}
use Rattle.std.proofs.lemmas.List.{take_more, reverse-append}
use Rattle.edit_model.specs.DomModel.Forest.{first_in}
use Rattle.edit_model.specs.HtmlNames.declared.commands.Command.{Command}
use Rattle.wrap_split.specs.CommandValue.SpecifiedValues.{specified}
use Rattle.edit_model.specs.NodeArena.declared.NodeRef.{NodeRef}
use Rattle.edit_model.specs.Gives.{labels_of}
use Rattle.edit_model.specs.Run.{look, answer, ◌>>=◌}
use Rattle.edit_model.proofs.Steps.{labels_of-append}
use Rattle.inline_value.specs.Pushing.{push_levels, push_level, own_or}

suc-sub-one : (n : ℕ) → suc n - 1 ≡ n
suc-sub-one n = omega arith

back : (xs : List NodeRef) (i : ℕ) → i < length xs →
    reverse (labels_of (take (i + 1) xs)) ≡ (get_or xs i record { slot = 0; label = 0 }).label ∷ reverse (labels_of (take i xs))
back xs i h = rw (take_more xs i record { slot = 0; label = 0 } h, labels_of-append, reverse-append)

-- of the first members of a list, so many, the last one comes first from the back
pub back_on : (xs : List NodeRef) (k : ℕ) → 0 < k → k ≤ length xs →
    reverse (labels_of (take k xs)) ≡ (get_or xs (k - 1) record { slot = 0; label = 0 }).label ∷ reverse (labels_of (take (k - 1) xs))
back_on xs zero some low = absurd (omega (arith, some))
back_on xs (suc i) some low = rw (suc-sub-one i, ← (add-one i)) (back xs i (omega (arith, low)))

pub last_of_some : (xs : List NodeRef) (k : ℕ) → 0 < k → k ≤ length xs →
    first_in (reverse (labels_of (take k xs))) ≡ Some (get_or xs (k - 1) record { slot = 0; label = 0 }).label
last_of_some xs k some low = ap first_in (back_on xs k some low)

pub last_of_none : (xs : List NodeRef) (k : ℕ) → k ≡ 0 → first_in (reverse (labels_of (take k xs))) ≡ None
last_of_none xs zero none = refl
last_of_none xs (suc i) none = absurd (omega (arith, none))

-- a level, and the end
pub levels_on : (command : Command) (w : Option (List ℕ)) (n : ℕ) (xs : List NodeRef) (k : ℕ) → 0 < k → k ≤ length xs →
    push_levels command w n (reverse (labels_of (take k xs)))
    ≡ look (λ s. push_level command (own_or (specified s.trees (get_or xs (k - 1) record { slot = 0; label = 0 }).label command) w) n (first_in (reverse (labels_of (take (k - 1) xs)))) (get_or xs (k - 1) record { slot = 0; label = 0 }).label
    >>= λ _. push_levels command (own_or (specified s.trees (get_or xs (k - 1) record { slot = 0; label = 0 }).label command) w) n (reverse (labels_of (take (k - 1) xs))))
unfolding push_levels
levels_on command w n xs k some low = rw (back_on xs k some low)

pub levels_end : (command : Command) (w : Option (List ℕ)) (n : ℕ) (xs : List NodeRef) (k : ℕ) → k ≡ 0 →
    push_levels command w n (reverse (labels_of (take k xs))) ≡ answer tt
unfolding push_levels
levels_end command w n xs zero none = refl
levels_end command w n xs (suc i) none = absurd (omega (arith, none))

pub ruleset levels = (levels_on, levels_end)
