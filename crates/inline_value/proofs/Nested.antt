-- How forcing a value is nested.
use Rattle.std.proofs.Common.{◌≡◌, ℕ, zero, suc, ◌-◌, ◌<◌, Bool, true, false, List, refl, arith}
use Rattle.edit_model.specs.HtmlNames.declared.commands.Command.{Command}
use Rattle.edit_model.specs.Run.{Run, look, answer, for_each, ◌>>=◌}
use Rattle.inline_value.specs.Forcing.{forced, force_self, force_heirs, force_child, heirs}

suc-sub-one : (n : ℕ) → suc n - 1 ≡ n
suc-sub-one n = omega arith

pub forced_on : (fuel : ℕ) (command : Command) (v : List ℕ) (n : ℕ) → 0 < fuel →
    forced fuel command v n ≡ (force_self command v n >>= force_heirs (forced (fuel - 1) command v) command v n)
unfolding forced
forced_on zero command v n some = absurd (omega (arith, some))
forced_on (suc fuel) command v n some = rw (suc-sub-one fuel)

pub forced_end : (fuel : ℕ) (command : Command) (v : List ℕ) (n : ℕ) → fuel ≡ 0 → forced fuel command v n ≡ answer tt
unfolding forced
forced_end zero command v n none = refl
forced_end (suc fuel) command v n none = absurd (omega (arith, none))

pub heirs_wanted : (again : ℕ → Run (Unit {0})) (command : Command) (v : List ℕ) (n : ℕ) → force_heirs again command v n true ≡ look (λ s. for_each (heirs s n) (force_child again command v))
unfolding force_heirs
heirs_wanted again command v n = refl

pub heirs_unwanted : (again : ℕ → Run (Unit {0})) (command : Command) (v : List ℕ) (n : ℕ) → force_heirs again command v n false ≡ answer tt
unfolding force_heirs
heirs_unwanted again command v n = refl

pub ruleset nested = (forced_on, forced_end, heirs_wanted, heirs_unwanted)
