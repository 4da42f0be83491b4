-- The names of elements that commands make, and of attributes that they set, are names of the grammar,
-- and pages may have such elements.
use Rattle.std.proofs.Common.{◌≡◌, ℕ, true, false, List, [], ◌∷◌, refl, sym, true≢false, subst, inl, inr, Bool, not}
use Rattle.std.specs.Prelude.{bytes_eq}
use Rattle.std.specs.List.{list_all}
use Rattle.std.proofs.lemmas.Bool.{or_cases, and_parts, not-true}
use Rattle.std.proofs.lemmas.Slice.Eq.{bytes_eq-Decides}
use lib.Utf8.{encode}
use Rattle.std.specs.Str.{is_utf8, chars}
use Rattle.edit_model.specs.HtmlNames.ElementNames.{is_one_of, refused_names}
use Rattle.step_text.specs.PageGrammar.Chars.{is_letter, lower, is_name_char, is_digit, is_attribute_name_char, is_space, is_control}
use Rattle.step_text.specs.PageGrammar.Names.{is_refused}
use Rattle.step_text.specs.StepLine.{is_element_name, is_attribute_name}
use Rattle.making_laws.specs.Names.{made_names, set_names, is_made_name, is_set_name}

-- a test that each name of a table passes is passed by one that stands there
in_table : (test : List ℕ → Bool) (table : List (List ℕ)) (name : List ℕ) → list_all test table ≡ true → is_one_of table name ≡ true → test name ≡ true
in_table test [] name every h = absurd (true≢false (sym h))
in_table test (row ∷ rows) name every h =
    let parts = and_parts (test row) (list_all test rows) every in
    elim (or_cases (bytes_eq row name) (is_one_of rows name) h) [
      | inl t ↦ subst (λ (n : List ℕ). test n ≡ true) ((bytes_eq-Decides row name).0 t) parts.0
      | inr t ↦ in_table test rows name parts.1 t
    ]

-- the name of an element that a page may have
abbrev pub IsPageName : List ℕ → Type 0
IsPageName name = (is_element_name name ≡ true) × (is_refused name ≡ false)

made_spelled : list_all is_element_name made_names ≡ true
unfolding made_names is_element_name is_letter lower is_name_char is_digit
made_spelled = refl

made_accepted : list_all (λ name. not (is_refused name)) made_names ≡ true
unfolding made_names is_refused refused_names
made_accepted = refl

set_spelled : list_all is_attribute_name set_names ≡ true
unfolding set_names is_attribute_name is_utf8 chars encode is_attribute_name_char is_space is_control lower
set_spelled = refl

pub made_name : (name : List ℕ) → is_made_name name ≡ true → IsPageName name
unfolding is_made_name
made_name name h = (in_table is_element_name made_names name made_spelled h, not-true (is_refused name) (in_table (λ name. not (is_refused name)) made_names name made_accepted h))

pub set_name : (name : List ℕ) → is_set_name name ≡ true → is_attribute_name name ≡ true
unfolding is_set_name
set_name name h = in_table is_attribute_name set_names name set_spelled h
