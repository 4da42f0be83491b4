-- How a change is stored.
use Rattle.std.specs.Prelude.{◌≡◌, ℕ, zero, suc, List, [], Option, None, refl}
use Rattle.std.specs.Coded.{Coded, code_by, coded×, coded_ℕ, coded_list, coded_option}
use Rattle.dom_model.specs.declared.attributes.Attribute.{Attribute}
use Rattle.dom_model.specs.Change.{Change, Remove, Insert, Move, SetText, Splice, SetAttributes}
use Rattle.dom_model.specs.ContentCode.{attribute_code}

abbrev pub ChangeParts : Type 0
ChangeParts = ℕ × (ℕ × (ℕ × (Option ℕ × (List ℕ × (List Attribute × (ℕ × List ℕ))))))

abbrev pub change_parts : Change → ChangeParts
change_parts (Remove n) = (0, (n, (0, (None, ([], ([], (0, [])))))))
change_parts (Insert n p b) = (1, (n, (p, (b, ([], ([], (0, [])))))))
change_parts (Move n p b) = (2, (n, (p, (b, ([], ([], (0, [])))))))
change_parts (SetText n words) = (3, (n, (0, (None, (words, ([], (0, [])))))))
change_parts (SetAttributes n list) = (4, (n, (0, (None, ([], (list, (0, [])))))))
change_parts (Splice n at rest taken put) = (5, (n, (at, (None, (taken, ([], (rest, put)))))))

abbrev pub change_of_kind : ℕ → ℕ → ℕ → Option ℕ → List ℕ → List Attribute → ℕ → List ℕ → Change
change_of_kind zero n p b words list rest put = Remove n
change_of_kind (suc zero) n p b words list rest put = Insert n p b
change_of_kind (suc (suc zero)) n p b words list rest put = Move n p b
change_of_kind (suc (suc (suc zero))) n p b words list rest put = SetText n words
change_of_kind (suc (suc (suc (suc zero)))) n p b words list rest put = SetAttributes n list
change_of_kind (suc (suc (suc (suc (suc _))))) n p b words list rest put = Splice n p rest words put

abbrev pub of_change_parts : ChangeParts → Change
of_change_parts c =
    change_of_kind c.0 c.1.0 c.1.1.0 c.1.1.1.0 c.1.1.1.1.0 c.1.1.1.1.1.0 c.1.1.1.1.1.1.0
    c.1.1.1.1.1.1.1

pub change-back : (x : Change) → of_change_parts (change_parts x) ≡ x
change-back (Remove n) = refl
change-back (Insert n p b) = refl
change-back (Move n p b) = refl
change-back (SetText n words) = refl
change-back (SetAttributes n list) = refl
change-back (Splice n at rest taken put) = refl

abbrev pub change_code : Coded Change
change_code =
    code_by
    ChangeParts
    (coded× coded_ℕ
    (coded× coded_ℕ
    (coded× coded_ℕ
    (coded× (coded_option coded_ℕ)
    (coded× (coded_list coded_ℕ)
    (coded× (coded_list attribute_code) (coded× coded_ℕ (coded_list coded_ℕ))))))))
    change_parts
    of_change_parts
    change-back
