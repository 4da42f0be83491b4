-- How the value of a document under edits is stored, by which proofs tell values apart.
use Rattle.std.specs.Prelude.{ℕ, Bool, List, Option, refl}
use Rattle.std.specs.Coded.{Coded, code_by, coded×, coded_ℕ, coded_bool, coded_list, coded_option}
use Rattle.edit_model.specs.State.{State}
use Rattle.edit_model.specs.History.{History}
use Rattle.edit_model.specs.Codes.{state_code, history_code}
use Rattle.edit_doc.specs.Whole.{Began, Whole}

abbrev pub began_code : Coded Began
began_code = code_by (State × Bool) (coded× state_code coded_bool) (λ b. (b.state, b.resumed)) (λ c.
    record { state = c.0; resumed = c.1 }) (λ _. refl)

abbrev pub whole_code : Coded Whole
whole_code =
    code_by
    (State × (History × (Option Began × List (Option ℕ))))
    (coded× state_code
    (coded× history_code
    (coded× (coded_option began_code) (coded_list (coded_option coded_ℕ)))))
    (λ d. (d.state, (d.history, (d.began, d.held))))
    (λ c. record { state = c.0; history = c.1.0; began = c.1.1.0; held = c.1.1.1 })
    (λ _. refl)
